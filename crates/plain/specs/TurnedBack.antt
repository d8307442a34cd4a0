-- "Turned back", its rows 2 and 4 to 14 as one table of rolls with their answers: each row's Example, its neighbours that are not refused, every limit on both
-- sides, and "When several apply, the lowest number is answered". (Row 1 is the player's; row 3 stands in state/specs/Lengths.)
use Rattle.std.specs.Prelude.{List, [], ◌∷◌, ◌++◌, replicate}
use Rattle.interface.specs.Requests.{open_code, map_code, unmap_code, protect_code, read_code, write_code, snapshot_code, rewind_code, report_code, compare_code}
use Rattle.interface.specs.Examples.{Line, ◌gives◌, ok, refused, call₅, call₃, call₂, call₁, call, map_at, in_sandbox}
use Rattle.interface.specs.Edges.{readable, closed_edges, bare_edges, full_edges, eight_edges}
use Rattle.plain.specs.Machine.{Given}
use Rattle.plain.specs.Cases.{Case, cases_over, no_image}

abbrev pub turned_back : List (List Line)
turned_back =
    -- 2 "call code not 1 to 9", now 1 to 10: "`0 0`"
    (call 0 gives refused 2 ∷ []) ∷
    -- 4 "sandbox above 3": "`5 4 0`"; "or, but for open, not open"
    (in_sandbox 4 (call₁ read_code 0) gives refused 4 ∷ call₁ read_code 0 gives refused 4 ∷ call₁ open_code 8 gives ok 0 ∷ call₁ read_code 0 gives refused 9 ∷
    in_sandbox 1 (call report_code) gives refused 4 ∷ []) ∷
    -- 5 "open of an open sandbox": "`1 0 8` twice"
    (call₁ open_code 8 gives ok 0 ∷ call₁ open_code 8 gives refused 5 ∷ in_sandbox 1 (call₁ open_code 8) gives ok 0 ∷ []) ∷
    -- 6 "named pages past page 63": "`2 0 63 2 0 0 3`"
    (call₁ open_code 8 gives ok 0 ∷ call₅ map_code 63 2 0 0 3 gives refused 6 ∷ []) ∷
    -- 7 "snapshot already taken": "`7 0` twice"
    (call₁ open_code 8 gives ok 0 ∷ call snapshot_code gives ok 0 ∷ call snapshot_code gives refused 7 ∷ []) ∷
    -- 8 "rewind without a snapshot": "`8 0` after open"; and call 10, "Without a snapshot it is refusal 8"
    (call₁ open_code 8 gives ok 0 ∷ call rewind_code gives refused 8 ∷ call compare_code gives refused 8 ∷ call snapshot_code gives ok 0 ∷ call rewind_code gives ok 0 ∷
    call compare_code gives ok 64 ∷ []) ∷
    -- 9 "unmap, protect, read or write meets an unmapped page": "`5 0 16383` after open"; and one mapped page of two. "Refusal 9 remains for protect, read
    -- and write": an unmap of the same pages is accepted
    (call₁ open_code 8 gives ok 0 ∷ call₁ read_code 16383 gives refused 9 ∷ call₂ unmap_code 0 1 gives ok 0 ∷ call₃ protect_code 0 1 1 gives refused 9 ∷
    call₂ write_code 0 1 gives refused 9 ∷ map_at 1 1 gives ok 1 ∷ call₃ protect_code 0 2 1 gives refused 9 ∷ call₃ protect_code 1 2 1 gives refused 9 ∷
    call₁ read_code 255 gives refused 9 ∷ call₁ read_code 256 gives ok 0 ∷ call₂ write_code 511 1 gives ok 0 ∷ call₂ write_code 512 1 gives refused 9 ∷
    call₂ unmap_code 0 2 gives ok 0 ∷ call₁ read_code 256 gives refused 9 ∷ []) ∷
    -- 10 "map at a named page meets a mapped page": "`2 0 0 1 0 0 3` twice"; at its last page, at its first, beside it
    (call₁ open_code 8 gives ok 0 ∷ call₅ map_code 0 1 0 0 3 gives ok 0 ∷ call₅ map_code 0 1 0 0 3 gives refused 10 ∷ map_at 2 2 gives ok 2 ∷ map_at 1 2 gives refused 10 ∷
    map_at 3 2 gives refused 10 ∷ map_at 1 1 gives ok 1 ∷ map_at 4 1 gives ok 4 ∷ []) ∷
    -- 11 "map at 64 and no run of p2 unmapped pages exists": "`2 0 64 1 0 0 3`, all 64 mapped"; gaps of one page, and of two
    (call₁ open_code 128 gives ok 0 ∷ map_at 0 64 gives ok 0 ∷ call₅ map_code 64 1 0 0 3 gives refused 11 ∷ call₂ unmap_code 5 1 gives ok 0 ∷ call₂ unmap_code 63 1 gives ok 0 ∷
    map_at 64 2 gives refused 11 ∷ call₂ unmap_code 62 1 gives ok 0 ∷ map_at 64 2 gives ok 62 ∷ map_at 64 1 gives ok 5 ∷ map_at 64 1 gives refused 11 ∷ []) ∷
    -- 12 "write without the write right": "`6 0 0 1`, rights 1"
    (call₁ open_code 8 gives ok 0 ∷ call₅ map_code 0 1 0 0 1 gives ok 0 ∷ call₂ write_code 0 1 gives refused 12 ∷ call₃ protect_code 0 1 3 gives ok 0 ∷ call₂ write_code 0 1 gives ok 0 ∷
    call₃ protect_code 0 1 1 gives ok 0 ∷ call₂ write_code 0 1 gives refused 12 ∷ call₁ read_code 0 gives ok 1 ∷ []) ∷
    -- 13 "or the charge the share": "`2 0 64 9 0 0 3`, share 8"; 8 pages
    (call₁ open_code 8 gives ok 0 ∷ call₅ map_code 64 9 0 0 3 gives refused 13 ∷ map_at 64 8 gives ok 0 ∷ map_at 64 1 gives refused 13 ∷ []) ∷
    -- "shares would exceed the pool": 128 frames, of four sandboxes
    (call₁ open_code 100 gives ok 0 ∷ in_sandbox 1 (call₁ open_code 29) gives refused 13 ∷ in_sandbox 1 (call₁ open_code 27) gives ok 0 ∷
    in_sandbox 2 (call₁ open_code 2) gives refused 13 ∷ in_sandbox 2 (call₁ open_code 1) gives ok 0 ∷ in_sandbox 3 (call₁ open_code 1) gives refused 13 ∷ []) ∷
    -- 14 "more than 8 areas would result": "pages 0, 2 .. 14 mapped, then 16, share 16"; pages that go on with an area or join two
    (call₁ open_code 16 gives ok 0 ∷ map_at 0 1 gives ok 0 ∷ map_at 2 1 gives ok 2 ∷ map_at 4 1 gives ok 4 ∷ map_at 6 1 gives ok 6 ∷ map_at 8 1 gives ok 8 ∷
    map_at 10 1 gives ok 10 ∷ map_at 12 1 gives ok 12 ∷ map_at 14 1 gives ok 14 ∷ map_at 16 1 gives refused 14 ∷ map_at 15 1 gives ok 15 ∷
    map_at 13 1 gives ok 13 ∷ map_at 17 1 gives ok 17 ∷ []) ∷
    -- by unmap and by protect; 9 before 14
    (call₁ open_code 16 gives ok 0 ∷ map_at 0 16 gives ok 0 ∷ call₃ protect_code 1 1 1 gives ok 0 ∷ call₃ protect_code 3 1 1 gives ok 0 ∷ call₃ protect_code 5 1 1 gives ok 0 ∷
    call₂ unmap_code 7 1 gives ok 0 ∷ call₃ protect_code 9 1 1 gives refused 14 ∷ call₂ unmap_code 9 1 gives refused 14 ∷ call₃ protect_code 8 1 1 gives refused 14 ∷
    call₃ protect_code 7 3 1 gives refused 9 ∷ call₂ unmap_code 8 1 gives ok 0 ∷ []) ∷
    -- "When several apply": 2 before 4, 4 before 6, 5 before 6
    (in_sandbox 4 (call 0) gives refused 2 ∷ call₁ 11 1 gives refused 2 ∷ in_sandbox 4 (call₁ open_code 0) gives refused 4 ∷ call₁ read_code 16384 gives refused 4 ∷
    call₁ open_code 8 gives ok 0 ∷ call₁ open_code 0 gives refused 5 ∷
    -- 6 before 8, 9; then 6 before 7, 10, 12, 13
    call₁ rewind_code 1 gives refused 6 ∷ call₁ compare_code 1 gives refused 6 ∷ call₂ unmap_code 63 2 gives refused 6 ∷ map_at 0 65 gives refused 6 ∷
    call₅ map_code 0 1 0 0 1 gives ok 0 ∷ call snapshot_code gives ok 1 ∷
    call₁ snapshot_code 1 gives refused 6 ∷ call₅ map_code 0 1 0 0 2 gives refused 6 ∷ call₂ write_code 0 256 gives refused 6 ∷
    -- 7 before 13 (seven pages would be committed, a charge of 14), 10 before 13
    map_at 1 6 gives ok 1 ∷ call snapshot_code gives refused 7 ∷ map_at 0 9 gives refused 10 ∷ []) ∷
    -- 5 before 13, 11 before 13
    (call₁ open_code 128 gives ok 0 ∷ call₁ open_code 1 gives refused 5 ∷ map_at 0 64 gives ok 0 ∷ call snapshot_code gives ok 64 ∷ map_at 64 1 gives refused 11 ∷ []) ∷
    -- 10 before 14, and 13 before 14: share 8, eight areas of one page, and a ninth
    (call₁ open_code 8 gives ok 0 ∷ map_at 0 1 gives ok 0 ∷ map_at 2 1 gives ok 2 ∷ map_at 4 1 gives ok 4 ∷ map_at 6 1 gives ok 6 ∷ map_at 8 1 gives ok 8 ∷
    map_at 10 1 gives ok 10 ∷ map_at 12 1 gives ok 12 ∷ map_at 14 1 gives ok 14 ∷ map_at 16 1 gives refused 13 ∷ call₅ map_code 14 2 0 0 1 gives refused 10 ∷ []) ∷
    []

-- each line alone, behind these
abbrev pub each_after : Given → List Line → List Line → List Case
each_after g before [] = []
each_after g before (l ∷ ls) = record { over = g; lines = before ++ (l ∷ []) } ∷ each_after g before ls

-- 128 frames and an image of 2 pages
abbrev pub two_pages : Given
two_pages = record { image = replicate 512 0; frames = 128 }

-- a pool of 2 frames and an image of one page, of which every byte is 7
abbrev pub small : Given
small = record { image = replicate 256 7; frames = 2 }

-- over a small pool and image: "shares would exceed the pool", "image pages past the image", "bytes, zero or the image's"
abbrev pub small_cases : List (List Line)
small_cases =
    (call₁ open_code 3 gives refused 13 ∷ call₁ open_code 2 gives ok 0 ∷ in_sandbox 1 (call₁ open_code 1) gives refused 13 ∷
    call₅ map_code 64 1 1 1 3 gives refused 6 ∷ call₅ map_code 64 2 1 0 3 gives refused 6 ∷ call₅ map_code 64 1 1 0 3 gives ok 0 ∷ call₁ read_code 255 gives ok 7 ∷ []) ∷
    []

-- pages 0, 2 .. 14 mapped, with rights 1
abbrev pub eight_areas : List Line
eight_areas =
    call₁ open_code 16 gives ok 0 ∷ readable 0 1 gives ok 0 ∷ readable 2 1 gives ok 2 ∷ readable 4 1 gives ok 4 ∷ readable 6 1 gives ok 6 ∷
    readable 8 1 gives ok 8 ∷ readable 10 1 gives ok 10 ∷ readable 12 1 gives ok 12 ∷ readable 14 1 gives ok 14 ∷ []

-- the whole table: the rows, and every limit on both sides
abbrev pub turned_back_cases : List Case
turned_back_cases =
    cases_over no_image turned_back ++
    cases_over small small_cases ++
    each_after two_pages [] closed_edges ++
    each_after two_pages (call₁ open_code 128 gives ok 0 ∷ []) bare_edges ++
    each_after two_pages (call₁ open_code 128 gives ok 0 ∷ map_at 0 64 gives ok 0 ∷ []) full_edges ++
    each_after two_pages eight_areas eight_edges
