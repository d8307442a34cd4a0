-- Request A1, "Still clean?", as a table of rolls with their answers: in being mapped, in rights, in bytes, at the first page and at the last; what is not
-- compared; what call 10 leaves; its refusals.
use Rattle.std.specs.Prelude.{List, [], ◌∷◌, ◌++◌, replicate}
use Rattle.interface.specs.Requests.{open_code, map_code, unmap_code, protect_code, read_code, write_code, snapshot_code, rewind_code, report_code, compare_code}
use Rattle.interface.specs.Examples.{Line, ◌gives◌, ok, refused, call₅, call₃, call₂, call₁, call, map_at, in_sandbox}
use Rattle.interface.specs.Edges.{readable}
use Rattle.plain.specs.Machine.{Given}
use Rattle.plain.specs.Cases.{Case, cases_over}
use Rattle.plain.specs.TurnedBack.{two_pages}

-- over an image of two zero pages
abbrev pub still_clean_rolls : List (List Line)
still_clean_rolls =
    -- "64 if they nowhere differ": right after a snapshot; "in bytes": the first byte, and put back
    (call₁ open_code 8 gives ok 0 ∷ map_at 64 2 gives ok 0 ∷ call₂ write_code 5 7 gives ok 0 ∷ call snapshot_code gives ok 2 ∷ call compare_code gives ok 64 ∷
    call₂ write_code 0 9 gives ok 0 ∷ call compare_code gives ok 0 ∷ call₂ write_code 0 0 gives ok 0 ∷ call compare_code gives ok 64 ∷ []) ∷
    -- "in rights" alone, at the second of two pages, and put back
    (call₁ open_code 8 gives ok 0 ∷ map_at 0 2 gives ok 0 ∷ call snapshot_code gives ok 2 ∷ call₃ protect_code 1 1 1 gives ok 0 ∷ call compare_code gives ok 1 ∷
    call₃ protect_code 1 1 3 gives ok 0 ∷ call compare_code gives ok 64 ∷ []) ∷
    -- "comparing all 64 pages": the last byte of the last page, and put back
    (call₁ open_code 8 gives ok 0 ∷ map_at 62 2 gives ok 62 ∷ call snapshot_code gives ok 2 ∷ call₂ write_code 16383 1 gives ok 0 ∷ call compare_code gives ok 63 ∷
    call₂ write_code 16383 0 gives ok 0 ∷ call compare_code gives ok 64 ∷ []) ∷
    -- "in being mapped": unmapped since the snapshot; mapped anew with equal bytes it agrees, uncommitted as it is; with other rights it differs
    (call₁ open_code 8 gives ok 0 ∷ map_at 2 2 gives ok 2 ∷ call snapshot_code gives ok 2 ∷ call₂ unmap_code 3 1 gives ok 0 ∷ call compare_code gives ok 3 ∷
    map_at 3 1 gives ok 3 ∷ call compare_code gives ok 64 ∷ call₂ unmap_code 3 1 gives ok 0 ∷ readable 3 1 gives ok 3 ∷ call compare_code gives ok 3 ∷ []) ∷
    -- a written page mapped anew has its bytes lost, until they are written again
    (call₁ open_code 8 gives ok 0 ∷ map_at 0 1 gives ok 0 ∷ call₂ write_code 255 77 gives ok 0 ∷ call snapshot_code gives ok 1 ∷ call₂ unmap_code 0 1 gives ok 0 ∷
    map_at 0 1 gives ok 0 ∷ call compare_code gives ok 0 ∷ call₂ write_code 255 77 gives ok 0 ∷ call compare_code gives ok 64 ∷ []) ∷
    -- backing is not compared: a zero image page where the snapshot has a zero anonymous one, and the reverse
    (call₁ open_code 8 gives ok 0 ∷ map_at 0 1 gives ok 0 ∷ call snapshot_code gives ok 1 ∷ call₂ unmap_code 0 1 gives ok 0 ∷ call₅ map_code 0 1 1 0 3 gives ok 0 ∷
    call compare_code gives ok 64 ∷ []) ∷
    (call₁ open_code 8 gives ok 0 ∷ call₅ map_code 0 1 1 0 3 gives ok 0 ∷ call snapshot_code gives ok 1 ∷ call₂ unmap_code 0 1 gives ok 0 ∷ map_at 0 1 gives ok 0 ∷
    call compare_code gives ok 64 ∷ []) ∷
    -- mapped since the snapshot, behind a page that agrees; "a page unmapped in both agrees"
    (call₁ open_code 8 gives ok 0 ∷ map_at 2 1 gives ok 2 ∷ call snapshot_code gives ok 1 ∷ map_at 63 1 gives ok 63 ∷ call compare_code gives ok 63 ∷
    call₂ unmap_code 63 1 gives ok 0 ∷ call compare_code gives ok 64 ∷ []) ∷
    -- "the lowest page number": of two that differ, whichever was changed first
    (call₁ open_code 16 gives ok 0 ∷ map_at 0 4 gives ok 0 ∷ call snapshot_code gives ok 4 ∷ call₂ write_code 256 1 gives ok 0 ∷ call₂ unmap_code 3 1 gives ok 0 ∷
    call compare_code gives ok 1 ∷ call₃ protect_code 0 1 1 gives ok 0 ∷ call compare_code gives ok 0 ∷ call₃ protect_code 0 1 3 gives ok 0 ∷
    call₂ write_code 256 0 gives ok 0 ∷ call compare_code gives ok 3 ∷ []) ∷
    -- a snapshot of no pages
    (call₁ open_code 8 gives ok 0 ∷ call snapshot_code gives ok 0 ∷ call compare_code gives ok 64 ∷ map_at 0 1 gives ok 0 ∷ call compare_code gives ok 0 ∷ []) ∷
    -- written, unmapped, protected, mapped; and rewound
    (call₁ open_code 8 gives ok 0 ∷ map_at 0 3 gives ok 0 ∷ call₂ write_code 5 7 gives ok 0 ∷ call snapshot_code gives ok 3 ∷ call₂ write_code 5 9 gives ok 0 ∷
    call₂ unmap_code 1 1 gives ok 0 ∷ call₃ protect_code 2 1 1 gives ok 0 ∷ map_at 3 1 gives ok 3 ∷ call compare_code gives ok 0 ∷ call rewind_code gives ok 1 ∷
    call compare_code gives ok 64 ∷ []) ∷
    -- it changes nothing: the same report, byte and answer after it
    (call₁ open_code 8 gives ok 0 ∷ map_at 0 2 gives ok 0 ∷ call₂ write_code 5 7 gives ok 0 ∷ call snapshot_code gives ok 2 ∷ call₂ write_code 300 4 gives ok 0 ∷
    call report_code gives ok 2 ∷ call compare_code gives ok 1 ∷ call report_code gives ok 2 ∷ call₁ read_code 300 gives ok 4 ∷ call compare_code gives ok 1 ∷ []) ∷
    -- another sandbox's pages do not matter
    (call₁ open_code 8 gives ok 0 ∷ in_sandbox 1 (call₁ open_code 8) gives ok 0 ∷ map_at 0 1 gives ok 0 ∷ call snapshot_code gives ok 1 ∷
    in_sandbox 1 (map_at 0 2) gives ok 0 ∷ in_sandbox 1 (call snapshot_code) gives ok 2 ∷ in_sandbox 1 (call₂ write_code 300 4) gives ok 0 ∷
    call compare_code gives ok 64 ∷ in_sandbox 1 (call compare_code) gives ok 1 ∷ []) ∷
    -- "Without a snapshot it is refusal 8"; 4 before 6, 6 before 8
    (in_sandbox 4 (call compare_code) gives refused 4 ∷ call compare_code gives refused 4 ∷ call₁ compare_code 1 gives refused 4 ∷ call₁ open_code 8 gives ok 0 ∷
    call₁ compare_code 1 gives refused 6 ∷ call compare_code gives refused 8 ∷ map_at 0 1 gives ok 0 ∷ call compare_code gives refused 8 ∷
    call snapshot_code gives ok 1 ∷ call₁ compare_code 1 gives refused 6 ∷ call compare_code gives ok 64 ∷ []) ∷
    []

-- 128 frames and an image of one page, of which the last byte alone is not zero
abbrev pub last_seven : Given
last_seven = record { image = replicate 255 0 ++ (7 ∷ []); frames = 128 }

-- over that image: its page where the snapshot has a zero page differs until the byte is written, and the reverse
abbrev pub still_clean_image : List (List Line)
still_clean_image =
    (call₁ open_code 8 gives ok 0 ∷ map_at 0 2 gives ok 0 ∷ call snapshot_code gives ok 2 ∷ call₂ unmap_code 1 1 gives ok 0 ∷ call₅ map_code 1 1 1 0 3 gives ok 1 ∷
    call compare_code gives ok 1 ∷ call₂ write_code 511 0 gives ok 0 ∷ call compare_code gives ok 64 ∷ []) ∷
    (call₁ open_code 8 gives ok 0 ∷ call₅ map_code 0 1 1 0 3 gives ok 0 ∷ call snapshot_code gives ok 1 ∷ call compare_code gives ok 64 ∷ call₂ unmap_code 0 1 gives ok 0 ∷
    map_at 0 1 gives ok 0 ∷ call compare_code gives ok 0 ∷ call₂ write_code 255 7 gives ok 0 ∷ call compare_code gives ok 64 ∷ []) ∷
    []

-- the whole table
abbrev pub still_clean : List Case
still_clean = cases_over two_pages still_clean_rolls ++ cases_over last_seven still_clean_image
