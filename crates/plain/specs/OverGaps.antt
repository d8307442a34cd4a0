-- Request A2, "Unmapping over gaps", as a table of rolls with their answers: over areas and gaps before and after a snapshot, where nothing is mapped, at
-- eight areas; what stays refused.
use Rattle.std.specs.Prelude.{List, [], ◌∷◌}
use Rattle.interface.specs.Requests.{open_code, unmap_code, protect_code, read_code, write_code, snapshot_code, rewind_code, report_code, compare_code}
use Rattle.interface.specs.Examples.{Line, ◌gives◌, ok, refused, call₃, call₂, call₁, call, map_at, in_sandbox}
use Rattle.interface.specs.Edges.{readable}
use Rattle.plain.specs.Cases.{Case, cases_over, no_image}

abbrev pub over_gaps_rolls : List (List Line)
over_gaps_rolls =
    -- "Unmap now passes over unmapped pages": three areas and the two gaps between them, two pages written; their numbers can be mapped again, and read 0
    (call₁ open_code 16 gives ok 0 ∷ map_at 2 2 gives ok 2 ∷ readable 5 2 gives ok 5 ∷ map_at 8 2 gives ok 8 ∷ call₂ write_code 768 7 gives ok 0 ∷
    call₂ write_code 2048 9 gives ok 0 ∷ call report_code gives ok 2 ∷ call₂ unmap_code 2 8 gives ok 0 ∷ call report_code gives ok 0 ∷ call₁ read_code 768 gives refused 9 ∷
    call₁ read_code 1280 gives refused 9 ∷ call₁ read_code 2304 gives refused 9 ∷ map_at 64 10 gives ok 0 ∷ call₁ read_code 768 gives ok 0 ∷ call₁ read_code 2048 gives ok 0 ∷ []) ∷
    -- after a snapshot, from a gap to a gap: fronts are freed, the back stays; a second time nothing is mapped there; the rewind brings all back
    (call₁ open_code 16 gives ok 0 ∷ map_at 2 2 gives ok 2 ∷ readable 5 2 gives ok 5 ∷ map_at 8 1 gives ok 8 ∷ call₂ write_code 768 7 gives ok 0 ∷
    call snapshot_code gives ok 5 ∷ call₂ write_code 768 8 gives ok 0 ∷ call₂ write_code 2048 9 gives ok 0 ∷ call report_code gives ok 3 ∷ call₂ unmap_code 1 9 gives ok 0 ∷
    call report_code gives ok 1 ∷ call compare_code gives ok 2 ∷ call₂ unmap_code 1 9 gives ok 0 ∷ call report_code gives ok 1 ∷ call rewind_code gives ok 0 ∷
    call compare_code gives ok 64 ∷ call₁ read_code 768 gives ok 7 ∷ call₁ read_code 2048 gives ok 0 ∷ call₂ write_code 1280 1 gives refused 12 ∷ call report_code gives ok 1 ∷ []) ∷
    -- the range ends inside an area, and starts inside one: what lies outside it stays, with its bytes
    (call₁ open_code 16 gives ok 0 ∷ map_at 0 3 gives ok 0 ∷ map_at 5 3 gives ok 5 ∷ call₂ write_code 256 1 gives ok 0 ∷ call₂ write_code 512 2 gives ok 0 ∷
    call₂ write_code 1536 3 gives ok 0 ∷ call₂ write_code 1792 4 gives ok 0 ∷ call₂ unmap_code 2 5 gives ok 0 ∷ call report_code gives ok 2 ∷ call₁ read_code 256 gives ok 1 ∷
    call₁ read_code 512 gives refused 9 ∷ call₁ read_code 1536 gives refused 9 ∷ call₁ read_code 1792 gives ok 4 ∷ []) ∷
    -- "a range with none mapped is accepted and changes nothing": with nothing mapped at all, before an area, behind it, and of one page
    (call₁ open_code 8 gives ok 0 ∷ call₂ unmap_code 0 64 gives ok 0 ∷ call₂ unmap_code 63 1 gives ok 0 ∷ map_at 4 2 gives ok 4 ∷ call₂ write_code 1024 7 gives ok 0 ∷
    call₂ unmap_code 0 4 gives ok 0 ∷ call₂ unmap_code 6 58 gives ok 0 ∷ call₁ read_code 1024 gives ok 7 ∷ call report_code gives ok 1 ∷ call snapshot_code gives ok 2 ∷
    call₂ unmap_code 3 1 gives ok 0 ∷ call compare_code gives ok 64 ∷ call report_code gives ok 1 ∷ map_at 64 4 gives ok 0 ∷ []) ∷
    -- an unmapped page that is a snapshot page keeps its back, however often it is passed over, and where its number is mapped anew
    (call₁ open_code 8 gives ok 0 ∷ map_at 0 2 gives ok 0 ∷ call₂ write_code 300 7 gives ok 0 ∷ call snapshot_code gives ok 2 ∷ call₂ unmap_code 1 1 gives ok 0 ∷
    call report_code gives ok 1 ∷ call₂ unmap_code 0 2 gives ok 0 ∷ call₂ unmap_code 0 64 gives ok 0 ∷ call report_code gives ok 1 ∷ map_at 1 1 gives ok 1 ∷
    call₁ read_code 300 gives ok 0 ∷ call rewind_code gives ok 0 ∷ call₁ read_code 300 gives ok 7 ∷ call report_code gives ok 1 ∷ []) ∷
    -- eight areas: a hole in one is refused 14 and leaves it; a range with a gap in it is not, nor one that ends an area sooner
    (call₁ open_code 16 gives ok 0 ∷ map_at 0 3 gives ok 0 ∷ map_at 4 1 gives ok 4 ∷ map_at 6 1 gives ok 6 ∷ map_at 8 1 gives ok 8 ∷ map_at 10 1 gives ok 10 ∷
    map_at 12 1 gives ok 12 ∷ map_at 14 1 gives ok 14 ∷ map_at 16 3 gives ok 16 ∷ call₂ unmap_code 1 1 gives refused 14 ∷ call₁ read_code 256 gives ok 0 ∷
    call₂ unmap_code 17 1 gives refused 14 ∷ call₂ unmap_code 2 3 gives ok 0 ∷ call₁ read_code 256 gives ok 0 ∷ call₁ read_code 1024 gives refused 9 ∷
    call₂ unmap_code 17 1 gives ok 0 ∷ map_at 2 1 gives ok 2 ∷ map_at 4 1 gives refused 14 ∷ call₂ unmap_code 5 1 gives ok 0 ∷ call₂ unmap_code 18 46 gives ok 0 ∷
    map_at 4 1 gives ok 4 ∷ call₂ unmap_code 0 64 gives ok 0 ∷ map_at 64 16 gives ok 0 ∷ []) ∷
    -- "Refusal 9 remains for protect, read and write"
    (call₁ open_code 8 gives ok 0 ∷ map_at 0 1 gives ok 0 ∷ map_at 2 1 gives ok 2 ∷ call₃ protect_code 0 3 1 gives refused 9 ∷ call₃ protect_code 1 1 1 gives refused 9 ∷
    call₂ write_code 512 1 gives ok 0 ∷ call₁ read_code 256 gives refused 9 ∷ call₂ write_code 256 1 gives refused 9 ∷ call₂ unmap_code 0 3 gives ok 0 ∷
    call₁ read_code 0 gives refused 9 ∷ call₁ read_code 512 gives refused 9 ∷ []) ∷
    -- rows 4 and 6 stay as they are
    (call₂ unmap_code 0 1 gives refused 4 ∷ in_sandbox 4 (call₂ unmap_code 0 1) gives refused 4 ∷ call₁ open_code 8 gives ok 0 ∷ call₂ unmap_code 0 0 gives refused 6 ∷
    call₂ unmap_code 64 1 gives refused 6 ∷ call₂ unmap_code 63 2 gives refused 6 ∷ call₂ unmap_code 0 65 gives refused 6 ∷ call₃ unmap_code 0 1 1 gives refused 6 ∷
    in_sandbox 1 (call₂ unmap_code 0 1) gives refused 4 ∷ call₂ unmap_code 63 1 gives ok 0 ∷ []) ∷
    -- another sandbox's pages stay
    (call₁ open_code 8 gives ok 0 ∷ in_sandbox 1 (call₁ open_code 8) gives ok 0 ∷ in_sandbox 1 (map_at 3 2) gives ok 3 ∷ in_sandbox 1 (call₂ write_code 768 5) gives ok 0 ∷
    call₂ unmap_code 0 64 gives ok 0 ∷ in_sandbox 1 (call₁ read_code 768) gives ok 5 ∷ in_sandbox 1 (call report_code) gives ok 1 ∷ []) ∷
    []

-- the whole table
abbrev pub over_gaps : List Case
over_gaps = cases_over no_image over_gaps_rolls
