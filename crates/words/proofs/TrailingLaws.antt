-- The trailing zeros of a word, by its bits.
use mathlib.Core.Path.{◌≡◌, refl, sym, ap, ◌∙◌, fun_ext}
use mathlib.Core.Bool.{Bool}
use Prim.Native.Nat.{ℕ, zero, suc, ◌+◌, ◌/◌, ◌%◌, ◌<◌}
use native.Mathlib.Nat.{mod-lt}
use native.Mathlib.Omega.{arith}
use lib.Count.{count_trailing_zeros, under}
use lib.Dec.{eqb}
use Rattle.basics.specs.Choice.{◌when◌else◌}
use Rattle.basics.specs.Ranges.{lowest}
use Rattle.basics.proofs.TestLaws.{by_cases}
use Rattle.words.specs.Word.{bit}
use Rattle.words.proofs.WordLaws.{bit-zero, bit-suc}

-- a range one further on
lowest-suc : (P : ℕ → Bool) (a k : ℕ) → lowest P (suc a) k ≡ suc (lowest (λ i. P (suc i)) a k)
unfolding lowest
lowest-suc P a zero = refl
lowest-suc P a (suc k) =
    let z : suc a + 1 ≡ suc (a + 1) = omega arith in
    by_cases (P (suc a)) (λ e. rw e) (λ e. rw (e, z) (lowest-suc P (a + 1) k))

by-digit : (r : ℕ) → r < 2 → (t u : ℕ) → suc t ≡ u → under r t ≡ (0 when eqb r 1 else u)
by-digit zero l t u e = e
by-digit (suc zero) l t u e = refl
by-digit (suc (suc r)) l t u e = absurd (omega arith)

-- the trailing zeros of a word are its lowest set place
pub trailing-lowest : (k w : ℕ) → count_trailing_zeros k w ≡ lowest (λ i. eqb (bit w i) 1) 0 k
unfolding lowest count_trailing_zeros
trailing-lowest zero w = refl
trailing-lowest (suc k) w =
    let rest : lowest (λ i. eqb (bit w i) 1) 1 k ≡ suc (lowest (λ i. eqb (bit (w / 2) i) 1) 0 k) =
    lowest-suc (λ i. eqb (bit w i) 1) 0 k ∙ ap (λ (P : ℕ → Bool). suc (lowest P 0 k)) (fun_ext (λ i. ap (λ (x : ℕ). eqb x 1) (bit-suc w i))) in
    by-digit (w % 2) (mod-lt w (omega arith)) (count_trailing_zeros k (w / 2)) (lowest (λ i. eqb (bit w i) 1) 1 k) (ap suc (trailing-lowest k (w / 2)) ∙ sym rest)
    ∙ ap (λ (x : ℕ). 0 when eqb x 1 else lowest (λ i. eqb (bit w i) 1) 1 k) (sym (bit-zero w))
