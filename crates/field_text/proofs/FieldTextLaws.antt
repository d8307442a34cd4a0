-- A field printed column by column, from the last on.
use Prim.Native.Nat.{ℕ, zero, suc, ◌+◌, ◌-◌, ◌/◌, ◌%◌, ◌^◌, ◌<◌}
use mathlib.Core.Path.{◌≡◌, refl, sym, ap, ◌∙◌}
use mathlib.Core.List.{List, [], ◌∷◌, ◌++◌, append_assoc, append-nil}
use native.Mathlib.Omega.{arith}
use native.Mathlib.Numerals.{add-one}
use lib.ListN.{length, replicate, take, drop, set, drop_of_length-le, take-append-drop}
use lib.Seq.{set_split, take_at, take-take, take-set-le, drop_at, length-take-le}
use borrow.Author.Tests.{ne_eqb}
use Rattle.columns.specs.Prints.{column, columns, printed_field}
use Rattle.columns.proofs.PrintLaws.{length-columns}

-- a store at a column
drop-set : (out : List ℕ) (i byte : ℕ) → i < length out → drop i (set out i byte) ≡ byte ∷ drop (suc i) out
drop-set out i byte h = rw (set_split out i byte h) (drop_at (take i out) (byte ∷ drop (suc i) out) i (length-take-le i out (omega arith)))

-- six blanks
pub six-blanks : (n : ℕ) → n ≡ 6 → replicate n 32 ≡ columns 6 0
unfolding columns
six-blanks n h = rw h refl

-- a number of one digit over blanks
pub digit-printed : (out : List ℕ) (n : ℕ) → out ≡ columns 6 0 → n < 10 → set out 5 (48 + n) ≡ printed_field n
unfolding columns printed_field
digit-printed out n e h =
    let none : n / 10 ≡ 0 = omega arith in
    let last : n % 10 ≡ n = omega arith in
    rw (e, none, last)

-- the digits of another from the last on: before the first, where all columns are to be printed
pub digits-begun : (out : List ℕ) (n : ℕ) → length out ≡ 6 → 0 < n → columns 6 n ++ drop 6 out ≡ printed_field n
unfolding columns printed_field
digits-begun out n h positive =
    rw (drop_of_length-le out {i = 6} (omega arith), append-nil (columns 6 n), ne_eqb n 0 (λ e. omega arith))

-- at each turn, whose column is there, with a digit and blanks before it
pub digits-left : (rest i : ℕ) → 0 < rest → rest < 10 ^ i → (0 < i) × (rest / 10 < 10 ^ (i - 1))
digits-left rest zero positive h = absurd (omega arith)
digits-left rest (suc i) positive h = let z : suc i - 1 ≡ i = omega arith in rw z (omega arith, omega arith)

pub column-printed : (out : List ℕ) (i rest : ℕ) → i < length out
    → columns i (rest / 10) ++ drop i (set out i (column rest)) ≡ columns (i + 1) rest ++ drop (i + 1) out
unfolding columns
column-printed out i rest h =
    rw (add-one i, drop-set out i (column rest) h) (sym (append_assoc (columns i (rest / 10)) (column rest ∷ []) (drop (suc i) out)))

pub blanks-left : (out : List ℕ) (i byte : ℕ) → i < length out → take (i + 1) out ≡ columns (i + 1) 0 → take i (set out i byte) ≡ columns i 0
unfolding columns
blanks-left out i byte h e =
    let more : take (suc i) out ≡ columns i 0 ++ (32 ∷ []) = rw (add-one i) at e in
    take-set-le i out i byte (omega arith) ∙ sym (take-take i (suc i) out (omega arith)) ∙ ap (take i) more
    ∙ take_at (columns i 0) (32 ∷ []) i (length-columns i 0)

-- and where none is left
pub digits-ended : (out : List ℕ) (i n : ℕ) → columns i 0 ++ drop i out ≡ printed_field n → take i out ≡ columns i 0 → out ≡ printed_field n
digits-ended out i n e blank = sym (take-append-drop i out) ∙ rw blank e
