-- "Turned back" on both sides of each limit: of a closed sandbox, of an open one with nothing mapped, of one with all 64 pages mapped, and of one with 8 areas.
use Rattle.std.specs.Prelude.{ℕ, ◌%◌, Bool, true, false, ◌&&◌, List, [], ◌∷◌, ◌++◌, leb, eqb}
use Rattle.std.proofs.Math.Option.{none}
use Rattle.basics.specs.Choice.{◌when◌else◌}
use Rattle.basics.specs.Ranges.{over}
use Rattle.interface.specs.declared.page.Slot.TheVariants.{Unmapped}
use Rattle.interface.specs.declared.request.Request.{Request}
use Rattle.interface.specs.Requests.{open_code, map_code, unmap_code, protect_code, read_code, write_code, snapshot_code, rewind_code, report_code, compare_code}
use Rattle.interface.specs.Slots.{Slots}
use Rattle.interface.specs.Outcome.{new_page, page_on}
use Rattle.interface.specs.Refusals.{View, refusal}
use Rattle.interface.specs.Examples.{Line, ◌gives◌, ok, refused, call₅, call₃, call₂, call₁, call, map_at, in_sandbox, with_parameter}

-- "those unused must be 0": each of these parameters alone not 0
abbrev pub unused : List ℕ → Request → List Line
unused [] q = []
unused (k ∷ ks) q = with_parameter k 1 q gives refused 6 ∷ unused ks q

-- "rights, 1 for read or 3 for read and write"; where they are right, the answer is value 0
abbrev pub rights_edges : (ℕ → Request) → List Line
rights_edges with_rights =
    with_rights 0 gives refused 6 ∷ with_rights 1 gives ok 0 ∷ with_rights 2 gives refused 6 ∷ with_rights 3 gives ok 0 ∷ with_rights 4 gives refused 6 ∷
    with_rights 65535 gives refused 6 ∷ []

-- "p1 first page, 0 to 63; p2 pages, 1 to 64", "named pages past page 63"
abbrev pub pages_edges : (ℕ → ℕ → Request) → List Line
pages_edges pages =
    pages 0 1 gives ok 0 ∷ pages 63 1 gives ok 0 ∷ pages 64 1 gives refused 6 ∷ pages 65535 1 gives refused 6 ∷
    pages 0 0 gives refused 6 ∷ pages 0 64 gives ok 0 ∷ pages 0 65 gives refused 6 ∷ pages 0 65535 gives refused 6 ∷
    pages 1 63 gives ok 0 ∷ pages 1 64 gives refused 6 ∷ pages 63 2 gives refused 6 ∷ []

-- of a closed sandbox in an unsound state: "lent length wrong, or state unsound" behind row 2 and before all others
abbrev pub unsound_edges : List Line
unsound_edges =
    call 0 gives refused 2 ∷ call 11 gives refused 2 ∷ call₁ open_code 8 gives refused 3 ∷ in_sandbox 4 (call₁ open_code 8) gives refused 3 ∷
    call report_code gives refused 3 ∷ call₁ open_code 0 gives refused 3 ∷ []

-- of a closed sandbox, over a pool of 128 frames
abbrev pub closed_edges : List Line
closed_edges =
    -- "call code not 1 to 9", now 1 to 10; compare, the call of code 10, meets row 4
    call 0 gives refused 2 ∷ call 11 gives refused 2 ∷ call 65535 gives refused 2 ∷ call₁ open_code 8 gives ok 0 ∷ call 10 gives refused 4 ∷
    -- "sandbox above 3"
    in_sandbox 3 (call₁ open_code 8) gives ok 0 ∷ in_sandbox 4 (call₁ open_code 8) gives refused 4 ∷ in_sandbox 65535 (call₁ open_code 8) gives refused 4 ∷
    -- "open: p1 share, 1 to 128"
    call₁ open_code 0 gives refused 6 ∷ call₁ open_code 1 gives ok 0 ∷ call₁ open_code 128 gives ok 0 ∷ call₁ open_code 129 gives refused 6 ∷
    unused (2 ∷ 3 ∷ 4 ∷ 5 ∷ []) (call₁ open_code 8)

-- of an open sandbox with share 128 and nothing mapped, over an image of 2 pages
abbrev pub bare_edges : List Line
bare_edges =
    -- "p1 first page, or 64 for the lowest gap that fits"
    map_at 0 1 gives ok 0 ∷ map_at 63 1 gives ok 63 ∷ map_at 64 1 gives ok 0 ∷ map_at 65 1 gives refused 6 ∷ map_at 65535 1 gives refused 6 ∷
    -- "p2 pages, 1 to 64"
    map_at 0 0 gives refused 6 ∷ map_at 0 64 gives ok 0 ∷ map_at 0 65 gives refused 6 ∷
    map_at 64 0 gives refused 6 ∷ map_at 64 64 gives ok 0 ∷ map_at 64 65 gives refused 6 ∷
    -- "named pages past page 63 (64 in map names none)"
    map_at 1 63 gives ok 1 ∷ map_at 1 64 gives refused 6 ∷ map_at 63 2 gives refused 6 ∷ map_at 64 2 gives ok 0 ∷
    -- "p3 backing, 0 anonymous, 1 image; p4 first image page (0 when anonymous)"
    call₅ map_code 0 1 1 0 3 gives ok 0 ∷ call₅ map_code 0 1 2 0 3 gives refused 6 ∷ call₅ map_code 0 1 65535 0 3 gives refused 6 ∷ call₅ map_code 0 1 0 1 3 gives refused 6 ∷
    -- "image pages past the image"
    call₅ map_code 0 2 1 0 3 gives ok 0 ∷ call₅ map_code 0 3 1 0 3 gives refused 6 ∷ call₅ map_code 0 1 1 1 3 gives ok 0 ∷ call₅ map_code 0 2 1 1 3 gives refused 6 ∷
    call₅ map_code 0 1 1 2 3 gives refused 6 ∷ call₅ map_code 0 1 1 65535 3 gives refused 6 ∷
    -- "p5 rights"
    rights_edges (λ r. call₅ map_code 0 1 0 0 r) ++
    -- request A2, "a range with none mapped is accepted", in the same limits as where all are mapped
    pages_edges (λ first n. call₂ unmap_code first n) ++
    -- "Refusal 9 remains for protect, read and write"; within their limits the others meet row 8, or none
    (call₃ protect_code 0 1 3 gives refused 9 ∷ call₃ protect_code 0 64 3 gives refused 9 ∷ call₁ read_code 16383 gives refused 9 ∷ call₂ write_code 0 1 gives refused 9 ∷
    call rewind_code gives refused 8 ∷ call compare_code gives refused 8 ∷ call snapshot_code gives ok 0 ∷ call report_code gives ok 0 ∷ []) ++
    -- snapshot, rewind, report and compare use none
    unused (1 ∷ 2 ∷ 3 ∷ 4 ∷ 5 ∷ []) (call snapshot_code) ++ unused (1 ∷ 2 ∷ 3 ∷ 4 ∷ 5 ∷ []) (call rewind_code) ++
    unused (1 ∷ 2 ∷ 3 ∷ 4 ∷ 5 ∷ []) (call report_code) ++ unused (1 ∷ 2 ∷ 3 ∷ 4 ∷ 5 ∷ []) (call compare_code)

-- of a sandbox whose 64 pages are mapped, with rights 3
abbrev pub full_edges : List Line
full_edges =
    pages_edges (λ first n. call₂ unmap_code first n) ++ unused (3 ∷ 4 ∷ 5 ∷ []) (call₂ unmap_code 0 1) ++
    -- "p3 new rights, 1 or 3"
    pages_edges (λ first n. call₃ protect_code first n 1) ++ rights_edges (λ r. call₃ protect_code 0 1 r) ++ unused (4 ∷ 5 ∷ []) (call₃ protect_code 0 1 1) ++
    -- "addresses 0 to 16,383"
    (call₁ read_code 0 gives ok 0 ∷ call₁ read_code 16383 gives ok 0 ∷ call₁ read_code 16384 gives refused 6 ∷ call₁ read_code 65535 gives refused 6 ∷ []) ++
    unused (2 ∷ 3 ∷ 4 ∷ 5 ∷ []) (call₁ read_code 0) ++
    -- a byte is 0 to 255
    (call₂ write_code 16383 1 gives ok 0 ∷ call₂ write_code 16384 1 gives refused 6 ∷ call₂ write_code 0 255 gives ok 0 ∷ call₂ write_code 0 256 gives refused 6 ∷ []) ++
    unused (3 ∷ 4 ∷ 5 ∷ []) (call₂ write_code 0 1) ++
    -- rows 10 and 11
    (map_at 63 1 gives refused 10 ∷ map_at 64 1 gives refused 11 ∷ call snapshot_code gives ok 64 ∷ [])

-- a map of n anonymous pages, with rights 1
abbrev pub readable : ℕ → ℕ → Request
readable first n = call₅ map_code first n 0 0 1

-- of a sandbox with share 16 whose pages 0, 2 .. 14 are mapped, with rights 1: 8 areas of one page
abbrev pub eight_edges : List Line
eight_edges =
    -- "write without the write right"
    call₂ write_code 0 1 gives refused 12 ∷ call₁ read_code 0 gives ok 0 ∷
    -- "or the charge the share": 8 pages more, and 9; a snapshot's charge is 16
    readable 15 8 gives ok 15 ∷ readable 15 9 gives refused 13 ∷ readable 64 9 gives refused 13 ∷ call snapshot_code gives ok 8 ∷
    -- "more than 8 areas would result": page 16 is a ninth area, page 15 goes on with the eighth, as a page with other rights does not
    readable 16 1 gives refused 14 ∷ readable 15 1 gives ok 15 ∷ map_at 15 1 gives refused 14 ∷
    -- "the lowest gap that fits"
    readable 64 1 gives ok 1 ∷ readable 64 2 gives ok 15 ∷
    -- A2, "Unmap now passes over unmapped pages": over all areas and gaps, from a gap to a gap, over one gap alone; a protect does not
    call₂ unmap_code 0 64 gives ok 0 ∷ call₂ unmap_code 1 3 gives ok 0 ∷ call₂ unmap_code 2 2 gives ok 0 ∷ call₂ unmap_code 1 2 gives ok 0 ∷ call₂ unmap_code 1 1 gives ok 0 ∷
    call₂ unmap_code 15 49 gives ok 0 ∷ call₃ protect_code 0 3 1 gives refused 9 ∷ call₃ protect_code 1 2 1 gives refused 9 ∷ call₃ protect_code 2 2 1 gives refused 9 ∷ []

-- ---- the sandboxes, as refusals are decided from them: a pool of 128 frames, an image of 2 pages, no other share, no snapshot

abbrev pub view_of : Bool → Bool → ℕ → Slots → View
view_of isSound isOpen n f = record { sound = isSound; frames = 128; images = 2; shares = n; opened = isOpen; share = n; slots = f; copy = none }

-- all 64 pages mapped, as by `2 0 0 64 0 0 3`
abbrev pub full : Slots
full = over 0 64 (page_on (new_page (map_at 0 64))) (λ i. Unmapped)

-- pages 0, 2 .. 14, as by `2 0 0 1 0 0 1`, `2 0 2 1 0 0 1` and so on
abbrev pub eight : Slots
eight i = page_on (new_page (readable i 1)) 0 when eqb (i % 2) 0 && leb i 14 else Unmapped

-- every request is refused by its number, or by none
unfoldable pub numbered : View → List Line → Bool
numbered v [] = true
numbered v (l ∷ ls) = eqb (refusal v l.request) l.gets.number && numbered v ls

-- of all of them
unfoldable pub edges_hold : Bool
edges_hold =
    numbered (view_of false false 0 (λ i. Unmapped)) unsound_edges && (numbered (view_of true false 0 (λ i. Unmapped)) closed_edges
    && (numbered (view_of true true 128 (λ i. Unmapped)) bare_edges
    && (numbered (view_of true true 128 full) full_edges && numbered (view_of true true 16 eight) eight_edges)))
