-- A line printed field by field, by induction over the numbers that are left.
use Prim.Native.Nat.{ℕ, suc, ◌+◌, ◌*◌}
use mathlib.Core.Path.{◌≡◌, refl, sym, ap, ◌∙◌}
use mathlib.Core.List.{List, [], ◌∷◌, ◌++◌, append_assoc}
use native.Mathlib.Omega.{arith}
use lib.ListN.{length, drop, set, length-append, length-drop}
use lib.Seq.{set_at, take_at, drop-append-add}
use Rattle.pages.specs.Parts.{set_part}
use Rattle.columns.specs.Prints.{printed_field, printed_line}
use Rattle.columns.proofs.PrintLaws.{length-field}

-- a field put behind the k that are printed
field_put : (before rest : List ℕ) (k n : ℕ) → length before ≡ k * 6
    → set_part (before ++ rest) (k * 6) (printed_field n) ≡ (before ++ printed_field n) ++ drop 6 rest
unfolding set_part
field_put before rest k n h =
    let end : k * 6 + 6 ≡ length before + 6 = omega arith in
    rw (take_at before rest (k * 6) h, length-field n, end, drop-append-add before rest 6) (sym (append_assoc before (printed_field n) (drop 6 rest)))

-- numbers printed as the fields from k on
abbrev pub with_fields : List ℕ → ℕ → List ℕ → List ℕ
with_fields out k [] = out
with_fields out k (n ∷ more) = with_fields (set_part out (k * 6) (printed_field n)) (suc k) more

-- with a line feed behind them they are the line, where the output has room for just these
line-behind : (before rest numbers : List ℕ) (k : ℕ) → length before ≡ k * 6 → length rest ≡ length numbers * 6 + 1
    → set (with_fields (before ++ rest) k numbers) ((k + length numbers) * 6) 10 ≡ before ++ printed_line numbers
unfolding printed_line
line-behind before [] [] k h l = absurd (omega arith)
line-behind before (byte ∷ []) [] k h l = let z : (k + 0) * 6 ≡ k * 6 = omega arith in rw z (set_at before byte [] 10 (k * 6) h)
line-behind before (byte ∷ other ∷ more) [] k h l = absurd (omega arith)
line-behind before rest (n ∷ more) k h l =
    let place : (k + suc (length more)) * 6 ≡ (suc k + length more) * 6 = omega arith in
    rw (field_put before rest k n h, place)
    (line-behind (before ++ printed_field n) (drop 6 rest) more (suc k) (simp (length-append, length-field n) (omega arith)) (simp length-drop (omega arith))
    ∙ append_assoc before (printed_field n) (printed_line more))

pub line-printed : (out out' numbers : List ℕ) → length out ≡ length numbers * 6 + 1 → out' ≡ with_fields out 0 numbers
    → set out' (length numbers * 6) 10 ≡ printed_line numbers
line-printed out out' numbers h e =
    let z : length numbers ≡ 0 + length numbers = omega arith in
    rw (e, z) (line-behind [] out numbers 0 refl h)

-- one field, and then the others
pub field-then : (out mid out' : List ℕ) (k n m : ℕ) (more : List ℕ) → m ≡ n → mid ≡ set_part out (k * 6) (printed_field m)
    → out' ≡ with_fields mid (suc k) more → out' ≡ with_fields out k (n ∷ more)
field-then out mid out' k n m more same e rest =
    rest ∙ ap (λ l. with_fields l (suc k) more) e ∙ ap (λ x. with_fields (set_part out (k * 6) (printed_field x)) (suc k) more) same
