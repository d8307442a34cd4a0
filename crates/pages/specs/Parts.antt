-- A part of a list, and a list with a part replaced; a frame is the part that its number and the size of a page say.
use Rattle.std.specs.Prelude.{ℕ, zero, suc, ◌+◌, ◌*◌, Bool, not, List, [], ◌∷◌, ◌++◌, length, get_or, take, drop, replicate}
use Rattle.basics.specs.Ranges.{alike}

-- the n elements from at on
unfoldable pub part_at : List ℕ → ℕ → ℕ → List ℕ
part_at xs at n = take n (drop at xs)

-- xs with ys in the place of what stands from at on
unfoldable pub set_part : List ℕ → ℕ → List ℕ → List ℕ
set_part xs at ys = take at xs ++ (ys ++ drop (at + length ys) xs)

-- n zero bytes
unfoldable pub zeros : ℕ → List ℕ
zeros n = replicate n 0

-- the first n bytes of a function, as a list
unfoldable pub listed : ℕ → (ℕ → ℕ) → List ℕ
listed zero f = []
listed (suc n) f = f 0 ∷ listed n (λ o. f (suc o))

-- frame f of a pool of "frames of 256 bytes", here of size bytes
unfoldable pub frame : ℕ → List ℕ → ℕ → List ℕ
unfolding part_at
frame size xs f = part_at xs (f * size) size

-- the pool with ys for "one frame's 256 bytes of the pool", frame f's
unfoldable pub set_frame : ℕ → List ℕ → ℕ → List ℕ → List ℕ
unfolding set_part
set_frame size xs f ys = set_part xs (f * size) ys

-- the first size bytes of two pages are the same
unfoldable pub same_bytes : ℕ → List ℕ → List ℕ → Bool
same_bytes size xs ys = alike (λ o. get_or xs o 0) (λ o. get_or ys o 0) size

-- request A4, "whether any byte differed": the first size bytes of two pages are not all the same
abbrev pub differs : ℕ → List ℕ → List ℕ → Bool
differs size xs ys = not (same_bytes size xs ys)
