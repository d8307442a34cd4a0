-- "A roll for the archive box": a snapshot as the requests that rebuild it.
use Rattle.std.specs.Prelude.{ℕ, zero, suc, ◌+◌, ◌-◌, ◌/◌, ◌%◌, Bool, not, ◌&&◌, List, [], ◌∷◌, ◌++◌, eqb}
use Rattle.basics.specs.Choice.{◌when◌else◌}
use Rattle.basics.specs.Ranges.{lowest}
use Rattle.interface.specs.declared.request.Request.{Request}
use Rattle.interface.specs.Requests.{request_of, open_code, map_code, protect_code, write_code, snapshot_code}
use Rattle.interface.specs.Slots.{Slots, is_mapped, rights_at, backing_at, kind_of, start_of, joins, previous, starts_area}
use Rattle.plain.specs.Machine.{Pages, backing_byte}

-- the lists f 0 to f (n - 1), one behind the other
unfoldable pub joined {ℓ} : {A : Type ℓ} → (ℕ → List A) → ℕ → List A
joined f zero = []
joined f (suc n) = joined f n ++ f n

-- lists one behind the other
abbrev pub in_turn {ℓ} : {A : Type ℓ} → List (List A) → List A
in_turn [] = []
in_turn (l ∷ ls) = l ++ in_turn ls

-- x alone where the test holds, else nothing
abbrev pub only {ℓ} : {A : Type ℓ} → Bool → A → List A
only c x = (x ∷ []) when c else []

-- ---- the areas

-- the first page from i on that does not join the page before it, 64 where each does: where an area that covers page i - 1 ends
unfoldable pub end_from : Slots → ℕ → ℕ
end_from f i = lowest (λ j. not (joins (previous f j) (f j))) i (64 - i)

-- the pages of the area that starts at page i
abbrev pub pages_from : Slots → ℕ → ℕ
pages_from f i = end_from f (i + 1) - i

-- ---- the segments of the roll; "every line naming the sandbox by its own number"

-- "open with its share"
abbrev pub opening : ℕ → ℕ → List Request
opening s share = request_of open_code s share 0 0 0 0 ∷ []

-- "one map a snapshot area in page order, at named pages with rights 3"
abbrev pub map_at : ℕ → Slots → ℕ → Request
map_at s f i = request_of map_code s i (pages_from f i) (kind_of (backing_at (f i))) (start_of (backing_at (f i))) 3

unfoldable pub maps : ℕ → Slots → List Request
maps s f = joined (λ i. only (starts_area f i) (map_at s f i)) 64

-- "a write for each byte that differs from its page's zero or image byte, in address order"
abbrev pub differs : List ℕ → Pages → ℕ → ℕ → Bool
differs image d i j = is_mapped (d.slots i) && not (eqb (d.bytes i j) (backing_byte image (backing_at (d.slots i)) j))

abbrev pub write_at : ℕ → Pages → ℕ → Request
write_at s d a = request_of write_code s a (d.bytes (a / 256) (a % 256)) 0 0 0

-- "addresses 0 to 16,383"
abbrev pub addresses : ℕ
addresses = 16384

unfoldable pub writes : ℕ → List ℕ → Pages → List Request
writes s image d = joined (λ a. only (differs image d (a / 256) (a % 256)) (write_at s d a)) addresses

-- "a protect for each area with rights 1, in page order"
abbrev pub protect_at : ℕ → Slots → ℕ → Request
protect_at s f i = request_of protect_code s i (pages_from f i) 1 0 0

abbrev pub read_only_start : Slots → ℕ → Bool
read_only_start f i = starts_area f i && eqb (rights_at (f i)) 1

unfoldable pub protects : ℕ → Slots → List Request
protects s f = joined (λ i. only (read_only_start f i) (protect_at s f i)) 64

-- "snapshot"
abbrev pub closing : ℕ → List Request
closing s = request_of snapshot_code s 0 0 0 0 0 ∷ []

-- the roll's segments, in their order
abbrev pub segments : ℕ → ℕ → Pages → List ℕ → List (List Request)
segments s share d image = opening s share ∷ maps s d.slots ∷ writes s image d ∷ protects s d.slots ∷ closing s ∷ []

-- "a snapshot as a roll that rebuilds it"
unfoldable pub archive : ℕ → ℕ → Pages → List ℕ → List Request
archive s share d image = in_turn (segments s share d image)
