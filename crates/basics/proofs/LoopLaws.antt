-- A loop that tests the numbers from i to e - 1 in turn: what its next turn, its early end and its end say of `every` and `lowest`,
-- and what these two say of each number.
use Prim.Native.Nat.{ℕ, zero, suc, ◌+◌, ◌-◌, ◌≤◌, ◌<◌}
use mathlib.Core.Path.{◌≡◌, refl, sym}
use mathlib.Core.Bool.{Bool, true, false, ◌&&◌, false≢true}
use native.Mathlib.Omega.{arith}
use native.Mathlib.Decide.{ℕ_discrete}
use native.Mathlib.Nat.{add-zero}
use native.Mathlib.Numerals.{add-one}
use lib.Dec.{eqb}
use borrow.Author.Tests.{eqb-true, eq-eqb}
use Rattle.basics.specs.Ranges.{one, count, every, lowest, alike}
use Rattle.basics.proofs.TestLaws.{by_cases, both_ways, and_left, and_right, and-of}

module _ (P : ℕ → Bool) (e i : ℕ) where
  module _ (h : i < e) where
    one_more : e - i ≡ suc (e - (i + 1))
    one_more = omega arith

    pub every-next : P i ≡ true → every P i (e - i) ≡ every P (i + 1) (e - (i + 1))
    unfolding every
    every-next t = rw (one_more, t)

    pub every-stop : P i ≡ false → every P i (e - i) ≡ false
    unfolding every
    every-stop t = rw (one_more, t)

    pub lowest-next : P i ≡ false → lowest P i (e - i) ≡ lowest P (i + 1) (e - (i + 1))
    unfolding lowest
    lowest-next t = rw (one_more, t)

    pub lowest-stop : P i ≡ true → lowest P i (e - i) ≡ i
    unfolding lowest
    lowest-stop t = rw (one_more, t)

  module _ (h : e ≤ i) where
    none_left : e - i ≡ 0
    none_left = omega arith

    pub every-end : every P i (e - i) ≡ true
    unfolding every
    every-end = rw none_left

    pub lowest-end : lowest P i (e - i) ≡ i
    unfolding lowest
    lowest-end = rw none_left

module _ (P : ℕ → Bool) where
  -- each number from i to i + n is i or after it
  next : (Q : ℕ → Type 0) (n i p : ℕ) → i ≤ p → p < i + suc n → (p ≡ i → Q p) → (i + 1 ≤ p → p < i + 1 + n → Q p) → Q p
  next Q n i p a b y m = go (ℕ_discrete p i)
    where
      go : Dec (p ≡ i) → Q p
      go (yes e) = y e
      go (no d) = m (omega arith) (omega arith)

  pub every-at : (i n : ℕ) → every P i n ≡ true → (p : ℕ) → i ≤ p → p < i + n → P p ≡ true
  unfolding every
  every-at i zero h p a b = absurd (omega arith)
  every-at i (suc n) h p a b =
      next (λ p. P p ≡ true) n i p a b (λ e. rw e (and_left (P i) (every P (i + 1) n) h))
      (λ c d. every-at (i + 1) n (and_right (P i) (every P (i + 1) n) h) p c d)

  pub every_of : (i n : ℕ) → ((p : ℕ) → i ≤ p → p < i + n → P p ≡ true) → every P i n ≡ true
  unfolding every
  every_of i zero h = refl
  every_of i (suc n) h = and-of (h i (omega arith) (omega arith)) (every_of (i + 1) n (λ p a b. h p (omega arith) (omega arith)))

  -- one does not pass
  pub every-fails : (i n : ℕ) → every P i n ≡ false → (p : ℕ) × (i ≤ p) × (p < i + n) × (P p ≡ false)
  unfolding every
  every-fails i zero h = absurd (false≢true (sym h))
  every-fails i (suc n) h =
      by_cases (P i)
      (λ t. let r = every-fails (i + 1) n (rw t at h) in (r.0, omega (arith, r.1), omega (arith, r.2), r.3))
      (λ t. (i, omega arith, omega arith, t))

  -- one number more at the end
  pub every-last : (n : ℕ) → every P 0 (n + 1) ≡ (every P 0 n && P n)
  every-last n =
      both_ways _ _
      (λ h. and-of (every_of 0 n (λ p a b. every-at 0 (n + 1) h p a (omega arith))) (every-at 0 (n + 1) h n (omega arith) (omega arith)))
      (λ h. every_of 0 (n + 1) (λ p a b. next (λ p. P p ≡ true) n p b (and_right (every P 0 n) (P n) h)
      (λ c. every-at 0 n (and_left (every P 0 n) (P n) h) p a (omega arith))))
    where
      next : (Q : ℕ → Type 0) (n p : ℕ) → p < 0 + (n + 1) → Q n → (p < n → Q p) → Q p
      next Q n p b l m = go (ℕ_discrete p n)
        where
          go : Dec (p ≡ n) → Q p
          go (yes e) = rw e l
          go (no d) = m (omega arith)

  -- the lowest lies in the range or at its end
  pub lowest-range : (a n : ℕ) → (a ≤ lowest P a n) × (lowest P a n ≤ a + n)
  unfolding lowest
  lowest-range a zero = (omega arith, omega arith)
  lowest-range a (suc n) =
      by_cases (P a) (λ e. rw (e, lowest) (omega arith, omega arith))
      (λ e. rw (e, lowest) (omega (arith, (lowest-range (a + 1) n).0), omega (arith, (lowest-range (a + 1) n).1)))

  -- none before it passes
  pub lowest-least : (a n i : ℕ) → a ≤ i → i < lowest P a n → P i ≡ false
  unfolding lowest
  lowest-least a zero i h k = absurd (omega arith)
  lowest-least a (suc n) i h k =
      by_cases (P a) (λ e. absurd (omega (arith, rw (e, lowest) at k)))
      (λ e. next (λ p. P p ≡ false) (lowest P (a + 1) n) a i h (omega (arith, rw (e, lowest) at k)) (λ t. rw t e)
      (λ c d. lowest-least (a + 1) n i c (rw (e, lowest) at k)))

  -- it passes, where it is not the end
  pub lowest-passes : (a n : ℕ) → lowest P a n < a + n → P (lowest P a n) ≡ true
  unfolding lowest
  lowest-passes a zero h = absurd (omega arith)
  lowest-passes a (suc n) h =
      by_cases (P a) (λ e. rw (e, lowest) e) (λ e. rw (e, lowest) (lowest-passes (a + 1) n (omega (arith, rw (e, lowest) at h))))

  -- where none passes it is the end
  pub lowest-none : (a n : ℕ) → ((i : ℕ) → a ≤ i → i < a + n → P i ≡ false) → lowest P a n ≡ a + n
  unfolding lowest
  lowest-none a zero h = omega arith
  lowest-none a (suc n) h =
      rw (h a (omega arith) (omega arith), lowest)
      (omega (arith, lowest-none (a + 1) n (λ i l m. h i (omega arith) (omega arith))))

-- two tests that agree on the range have the same lowest
pub lowest-same : (P Q : ℕ → Bool) (a n : ℕ) → ((i : ℕ) → a ≤ i → i < a + n → P i ≡ Q i) → lowest P a n ≡ lowest Q a n
unfolding lowest
lowest-same P Q a zero h = refl
lowest-same P Q a (suc n) h =
    let here : P a ≡ Q a = h a (omega arith) (omega arith) in
    let rest : lowest P (a + 1) n ≡ lowest Q (a + 1) n = lowest-same P Q (a + 1) n (λ i l m. h i (omega arith) (omega arith)) in
    rw (here, rest)

-- what two alike functions are at each number, and what makes them alike
pub alike_at : (f g : ℕ → ℕ) (n : ℕ) → alike f g n ≡ true → (i : ℕ) → i < n → f i ≡ g i
unfolding alike
alike_at f g n h i l = eqb-true (f i) (g i) (every-at (λ i. eqb (f i) (g i)) 0 n h i (omega arith) (omega arith))

pub alike_of : (f g : ℕ → ℕ) (n : ℕ) → ((i : ℕ) → i < n → f i ≡ g i) → alike f g n ≡ true
unfolding alike
alike_of f g n h = every_of (λ i. eqb (f i) (g i)) 0 n (λ i a b. eq-eqb (f i) (g i) (h i (omega arith)))

-- a loop that counts
pub count_next : (P : ℕ → Bool) (i : ℕ) → count P (i + 1) ≡ count P i + one (P i)
unfolding count
count_next P i = rw (add-one i)

pub count-more : (P : ℕ → Bool) (i n : ℕ) → n ≡ count P i → P i ≡ true → n + 1 ≡ count P (i + 1)
count-more P i n h t = rw (count_next P i, t, h)

pub count_same : (P : ℕ → Bool) (i n : ℕ) → n ≡ count P i → P i ≡ false → n ≡ count P (i + 1)
count_same P i n h t = rw (count_next P i, t, add-zero, h)
