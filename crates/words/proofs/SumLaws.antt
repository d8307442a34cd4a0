-- Laws of sums, and of sums of 0s and 1s.
use mathlib.Core.Path.{◌≡◌, refl, ap, ap₂, ◌∙◌}
use mathlib.Core.Logic.{⊎_elim}
use Prim.Native.Nat.{ℕ, zero, suc, ◌+◌, ◌≤◌, ◌<◌}
use native.Mathlib.Nat.{add-zero, add-suc, eq-or-lt_of_le, le_of_suc-le-suc, not-suc-le-zero}
use native.Mathlib.Omega.{arith}
use Rattle.basics.specs.Ranges.{sum}

pub sum_same : (p q : ℕ → ℕ) (n : ℕ) → ((k : ℕ) → k < n → p k ≡ q k) → sum p n ≡ sum q n
unfolding sum
sum_same p q zero h = refl
sum_same p q (suc n) h = ap₂ (λ (x y : ℕ). x + y) (sum_same p q n (λ k l. h k (omega arith))) (h n (omega arith))

pub sum_first : (p : ℕ → ℕ) (n : ℕ) → sum p (suc n) ≡ p 0 + sum (λ k. p (suc k)) n
unfolding sum
sum_first p zero = omega arith
sum_first p (suc n) = omega (arith, sum_first p n)

pub sum-add : (p : ℕ → ℕ) (m n : ℕ) → sum p (m + n) ≡ sum p m + sum (λ k. p (m + k)) n
unfolding sum
sum-add p m zero = ap (sum p) (add-zero m) ∙ omega arith
sum-add p m (suc n) = ap (sum p) (add-suc m n) ∙ omega (arith, sum-add p m n)

-- a sum is 0 just where each part is
pub sum-none : (p : ℕ → ℕ) (n : ℕ) → ((k : ℕ) → k < n → p k ≡ 0) → sum p n ≡ 0
unfolding sum
sum-none p zero h = refl
sum-none p (suc n) h = omega (arith, sum-none p n (λ k l. h k (omega arith)), h n (omega arith))

pub none-of-sum : (p : ℕ → ℕ) (n : ℕ) → sum p n ≡ 0 → (k : ℕ) → k < n → p k ≡ 0
unfolding sum
none-of-sum p zero e k l = absurd (not-suc-le-zero l)
none-of-sum p (suc n) e k l =
    ⊎_elim (λ m. ap p m ∙ omega arith) (λ m. none-of-sum p n (omega arith) k m) (eq-or-lt_of_le (le_of_suc-le-suc l))

-- a sum of 0s and 1s is at most the number of its parts, and is that number just where no part is 0
pub sum-le : (p : ℕ → ℕ) (n : ℕ) → ((k : ℕ) → p k < 2) → sum p n ≤ n
unfolding sum
sum-le p zero h = omega arith
sum-le p (suc n) h = omega (arith, sum-le p n h, h n)

pub sum-all : (p : ℕ → ℕ) (n : ℕ) → ((k : ℕ) → k < n → p k ≡ 0 → ⊥) → n ≤ sum p n
unfolding sum
sum-all p zero h = omega arith
sum-all p (suc n) h = omega (arith, sum-all p n (λ k l. h k (omega arith)), h n (omega arith))

pub all-of-sum : (p : ℕ → ℕ) (n : ℕ) → ((k : ℕ) → p k < 2) → sum p n ≡ n → (k : ℕ) → k < n → p k ≡ 0 → ⊥
unfolding sum
all-of-sum p zero h e k l z = not-suc-le-zero l
all-of-sum p (suc n) h e k l z =
    ⊎_elim
    (λ m. omega (arith, sum-le p n h, ap p m))
    (λ m. all-of-sum p n h (omega (arith, sum-le p n h, h n)) k m z)
    (eq-or-lt_of_le (le_of_suc-le-suc l))
