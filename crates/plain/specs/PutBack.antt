-- Request A4, "How many pages were put back?", as a table of rolls with their answers, each written from its sentence: "Rewind answers the number of committed
-- pages still mapped whose bytes differed from the snapshot".
use Rattle.std.specs.Prelude.{List, [], ◌∷◌}
use Rattle.interface.specs.Requests.{open_code, map_code, unmap_code, protect_code, read_code, write_code, snapshot_code, rewind_code, report_code, compare_code}
use Rattle.interface.specs.Examples.{Line, ◌gives◌, ok, refused, call₅, call₃, call₂, call₁, call, map_at, in_sandbox}
use Rattle.interface.specs.Edges.{readable}
use Rattle.plain.specs.Cases.{Case, cases_over}
use Rattle.plain.specs.StillClean.{last_seven}

-- over an image of one page, of which the last byte alone is not zero
abbrev pub put_back_rolls : List (List Line)
put_back_rolls =
    -- two of three pages, one with a back and one without; right after it none; a page written and written back is not counted
    (call₁ open_code 8 gives ok 0 ∷ map_at 0 3 gives ok 0 ∷ call₂ write_code 5 7 gives ok 0 ∷ call snapshot_code gives ok 3 ∷ call₂ write_code 5 9 gives ok 0 ∷
    call₂ write_code 300 4 gives ok 0 ∷ call rewind_code gives ok 2 ∷ call rewind_code gives ok 0 ∷ call₂ write_code 5 9 gives ok 0 ∷ call₂ write_code 5 7 gives ok 0 ∷
    call₂ write_code 300 4 gives ok 0 ∷ call₂ write_code 300 0 gives ok 0 ∷ call report_code gives ok 3 ∷ call rewind_code gives ok 0 ∷ call₁ read_code 5 gives ok 7 ∷ []) ∷
    -- "whose bytes differed": the first byte or the last; pages are counted, not bytes; "the request just ended", and none before it
    (call₁ open_code 8 gives ok 0 ∷ map_at 0 2 gives ok 0 ∷ call snapshot_code gives ok 2 ∷ call₂ write_code 0 1 gives ok 0 ∷ call rewind_code gives ok 1 ∷
    call₂ write_code 511 1 gives ok 0 ∷ call rewind_code gives ok 1 ∷ call₂ write_code 0 1 gives ok 0 ∷ call₂ write_code 255 1 gives ok 0 ∷ call₂ write_code 256 1 gives ok 0 ∷
    call rewind_code gives ok 2 ∷ call₂ write_code 0 0 gives ok 0 ∷ call rewind_code gives ok 0 ∷ []) ∷
    -- "still mapped": neither a written page that was unmapped, nor one that was mapped anew; the rewind commits it again
    (call₁ open_code 8 gives ok 0 ∷ map_at 0 2 gives ok 0 ∷ call snapshot_code gives ok 2 ∷ call₂ write_code 0 1 gives ok 0 ∷ call₂ write_code 256 1 gives ok 0 ∷
    call₂ unmap_code 1 1 gives ok 0 ∷ call rewind_code gives ok 1 ∷ call₂ unmap_code 0 2 gives ok 0 ∷ map_at 0 2 gives ok 0 ∷ call₂ write_code 0 1 gives ok 0 ∷
    call₂ write_code 256 1 gives ok 0 ∷ call compare_code gives ok 0 ∷ call rewind_code gives ok 0 ∷ call₁ read_code 0 gives ok 0 ∷ call₂ write_code 0 1 gives ok 0 ∷
    call rewind_code gives ok 1 ∷ []) ∷
    -- rights do not count, nor a page mapped since the snapshot
    (call₁ open_code 8 gives ok 0 ∷ map_at 0 2 gives ok 0 ∷ call snapshot_code gives ok 2 ∷ call₃ protect_code 0 1 1 gives ok 0 ∷ map_at 64 1 gives ok 2 ∷
    call₂ write_code 512 1 gives ok 0 ∷ call compare_code gives ok 0 ∷ call rewind_code gives ok 0 ∷ call₂ write_code 0 1 gives ok 0 ∷ call₃ protect_code 0 2 1 gives ok 0 ∷
    call rewind_code gives ok 1 ∷ []) ∷
    -- an image page: compared with its image page, and with its back
    (call₁ open_code 8 gives ok 0 ∷ call₅ map_code 0 1 1 0 3 gives ok 0 ∷ call₅ map_code 1 1 1 0 3 gives ok 1 ∷ call₂ write_code 511 8 gives ok 0 ∷ call snapshot_code gives ok 2 ∷
    call₂ write_code 255 7 gives ok 0 ∷ call₂ write_code 511 8 gives ok 0 ∷ call rewind_code gives ok 0 ∷ call₂ write_code 255 0 gives ok 0 ∷ call rewind_code gives ok 1 ∷
    call₂ write_code 511 7 gives ok 0 ∷ call rewind_code gives ok 1 ∷ call₁ read_code 255 gives ok 7 ∷ call₁ read_code 511 gives ok 8 ∷ []) ∷
    -- a snapshot of no pages; another sandbox's pages
    (call₁ open_code 8 gives ok 0 ∷ in_sandbox 1 (call₁ open_code 8) gives ok 0 ∷ call snapshot_code gives ok 0 ∷ in_sandbox 1 (map_at 0 2) gives ok 0 ∷
    in_sandbox 1 (call snapshot_code) gives ok 2 ∷ in_sandbox 1 (call₂ write_code 0 1) gives ok 0 ∷ map_at 0 1 gives ok 0 ∷ call₂ write_code 0 1 gives ok 0 ∷
    call rewind_code gives ok 0 ∷ in_sandbox 1 (call rewind_code) gives ok 1 ∷ in_sandbox 1 (call rewind_code) gives ok 0 ∷ []) ∷
    -- a refused rewind answers 0
    (call rewind_code gives refused 4 ∷ call₁ open_code 8 gives ok 0 ∷ map_at 0 1 gives ok 0 ∷ call₂ write_code 0 1 gives ok 0 ∷ call rewind_code gives refused 8 ∷
    call snapshot_code gives ok 1 ∷ call₂ write_code 0 2 gives ok 0 ∷ call₁ rewind_code 1 gives refused 6 ∷ call rewind_code gives ok 1 ∷ []) ∷
    []

-- the whole table
abbrev pub put_back : List Case
put_back = cases_over last_seven put_back_rolls
