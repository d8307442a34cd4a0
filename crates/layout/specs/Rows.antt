-- What a layout is made of: numbers in several bytes, a table of parts, and a row of equal parts. Nothing of this machine stands here.
use Rattle.std.specs.Prelude.{ℕ, zero, suc, ◌+◌, ◌*◌, ◌/◌, ◌%◌, ◌<◌, Bool, List, [], ◌∷◌, ◌++◌, get_or}
use Rattle.basics.specs.Ranges.{every}
use Rattle.pages.specs.Parts.{part_at}

-- every element is a byte
pub record Bytes (l : List ℕ) : Type 0 where
  pub at : (i : ℕ) → get_or l i 0 < 256

-- ---- a number in several bytes

-- the last n digits of a number in base 256, the lowest first
unfoldable pub digits : ℕ → ℕ → List ℕ
digits zero w = []
digits (suc n) w = w % 256 ∷ digits n (w / 256)

-- the number that such digits spell
unfoldable pub spelled : List ℕ → ℕ
spelled [] = 0
spelled (b ∷ l) = b + 256 * spelled l

-- ---- a table of parts

-- a part of so many bytes
pub record Part : Type 0 where
  pub width : ℕ
  pub bytes : List ℕ

abbrev pub part : ℕ → List ℕ → Part
part width bytes = record { width = width; bytes = bytes }

-- a part of one byte
abbrev pub byte : ℕ → Part
byte b = part 1 (b ∷ [])

-- the parts side by side, and how long they are together
abbrev pub flat : List Part → List ℕ
flat [] = []
flat (p ∷ ps) = p.bytes ++ flat ps

abbrev pub widths : List Part → ℕ
widths [] = 0
widths (p ∷ ps) = p.width + widths ps

-- ---- a row of n parts of w bytes each, one for each element of a list

-- f 0, f 1, .. f (n - 1) side by side
unfoldable pub joined : (ℕ → List ℕ) → ℕ → List ℕ
joined f zero = []
joined f (suc n) = joined f n ++ f n

-- f 0, f 1, .. f (n - 1) as the elements of a list
unfoldable pub firsts {ℓ} : {A : Type ℓ} → (ℕ → A) → ℕ → List A
firsts f zero = []
firsts f (suc n) = firsts f n ++ (f n ∷ [])

-- part k of a row
abbrev pub part_in : ℕ → List ℕ → ℕ → List ℕ
part_in w b k = part_at b (k * w) w

-- the first n elements of a list, each in bytes (d where there is none)
abbrev pub row_bytes {ℓ} : {A : Type ℓ} → (A → List ℕ) → A → ℕ → List A → List ℕ
row_bytes bytes d n l = joined (λ k. bytes (get_or l k d)) n

-- the n elements that the parts of a row give
abbrev pub row_from {ℓ} : {A : Type ℓ} → (List ℕ → A) → ℕ → ℕ → List ℕ → List A
row_from from w n b = firsts (λ k. from (part_in w b k)) n

-- each of the n parts of a row passes
abbrev pub is_row : (List ℕ → Bool) → ℕ → ℕ → List ℕ → Bool
is_row test w n b = every (λ k. test (part_in w b k)) 0 n
