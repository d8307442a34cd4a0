-- Laws of a field read column by column: blanks are passed over.
use Prim.Native.Nat.{ℕ, zero, suc, ◌<◌}
use mathlib.Core.Path.{◌≡◌, refl}
use mathlib.Core.List.{List}
use native.Mathlib.Omega.{arith}
use lib.ListN.{get_or}
use Rattle.std.specs.Prelude.{Some}
use Rattle.columns.specs.Fields.{with_digit, with_column, columns_read, field_of}

-- blanks are passed over
pub start-read : (part : List ℕ) → columns_read part 0 ≡ Some 0
unfolding columns_read
start-read part = refl

pub blank-read : (part : List ℕ) (k : ℕ) → columns_read part k ≡ Some 0 → get_or part k 0 ≡ 32 → columns_read part (suc k) ≡ Some 0
unfolding columns_read with_column
blank-read part k e b = rw (e, b)

-- a field of five blanks and one digit
blanks-read : (part : List ℕ) (k : ℕ) → ((i : ℕ) → i < k → get_or part i 0 ≡ 32) → columns_read part k ≡ Some 0
blanks-read part zero h = start-read part
blanks-read part (suc k) h = blank-read part k (blanks-read part k (λ i l. h i (omega arith))) (h k (omega arith))

pub short-field : (part : List ℕ) → ((i : ℕ) → i < 5 → get_or part i 0 ≡ 32) → with_digit (Some 0) (get_or part 5 0) ≡ field_of part
unfolding field_of
short-field part h = rw (blanks-read part 5 h)
