-- Numbers tested in turn: some passed over at once, two tests at a time, a test that does not change.
use Prim.Native.Nat.{ℕ, suc, ◌+◌, ◌-◌, ◌≤◌, ◌<◌}
use mathlib.Core.Path.{◌≡◌, refl, sym, ◌∙◌}
use mathlib.Core.Bool.{Bool, true, false, ◌&&◌}
use native.Mathlib.Omega.{arith}
use native.Mathlib.Decide.{dec_lt}
use Rattle.basics.specs.Ranges.{every}
use Rattle.basics.proofs.TestLaws.{by_cases, never, both_ways, and_left, and_right, and-of}
use Rattle.basics.proofs.LoopLaws.{every-at, every_of}

module _ (P : ℕ → Bool) (e : ℕ) where
  -- numbers that pass are passed over
  pub every-over : (a b : ℕ) → a ≤ b → ((i : ℕ) → a ≤ i → i < b → i < e → P i ≡ true) → every P a (e - a) ≡ every P b (e - b)
  every-over a b h t =
      both_ways (every P a (e - a)) (every P b (e - b))
      (λ w. every_of P b (e - b) (λ p l u. every-at P a (e - a) w p (omega arith) (omega arith)))
      (λ w. every_of P a (e - a) (λ p l u. go w p l (omega arith) (dec_lt p b)))
    where
      go : every P b (e - b) ≡ true → (p : ℕ) → a ≤ p → p < e → Dec (p < b) → P p ≡ true
      go w p l u (yes d) = t p l d u
      go w p l u (no d) = every-at P b (e - b) w p (omega arith) (omega arith)

  -- one that does not pass
  pub every-not : (a p : ℕ) → a ≤ p → p < e → P p ≡ false → every P a (e - a) ≡ false
  every-not a p l u f = by_cases (every P a (e - a)) (λ w. never (P p) (every-at P a (e - a) w p l (omega arith)) f) (λ w. w)

  -- the first of those that are left
  pub every_first : (i : ℕ) → i < e → every P i (e - i) ≡ (P i && every P (i + 1) (e - (i + 1)))
  unfolding every
  every_first i h = let n : e - i ≡ suc (e - (i + 1)) = omega arith in rw n

-- two tests that agree on the range
pub every-alike : (P Q : ℕ → Bool) (a n : ℕ) → ((i : ℕ) → a ≤ i → i < a + n → P i ≡ Q i) → every P a n ≡ every Q a n
every-alike P Q a n h =
    both_ways (every P a n) (every Q a n)
    (λ w. every_of Q a n (λ i l u. sym (h i l u) ∙ every-at P a n w i l u))
    (λ w. every_of P a n (λ i l u. h i l u ∙ every-at Q a n w i l u))

-- two tests of each number
pub every-and : (P Q : ℕ → Bool) (a n : ℕ) → every (λ i. P i && Q i) a n ≡ (every P a n && every Q a n)
every-and P Q a n =
    both_ways (every (λ i. P i && Q i) a n) (every P a n && every Q a n)
    (λ w. and-of (every_of P a n (λ i l u. and_left (P i) (Q i) (every-at (λ i. P i && Q i) a n w i l u)))
    (every_of Q a n (λ i l u. and_right (P i) (Q i) (every-at (λ i. P i && Q i) a n w i l u))))
    (λ w. every_of (λ i. P i && Q i) a n (λ i l u. and-of (every-at P a n (and_left (every P a n) (every Q a n) w) i l u)
    (every-at Q a n (and_right (every P a n) (every Q a n) w) i l u)))

-- a test that is the same of each of some numbers
pub every-const : (b : Bool) (a n : ℕ) → 0 < n → every (λ i. b) a n ≡ b
every-const b a n some =
    both_ways (every (λ i. b) a n) b (λ w. every-at (λ i. b) a n w a (omega arith) (omega arith)) (λ t. every_of (λ i. b) a n (λ i l u. t))

pub and_assoc : (a b c : Bool) → (a && (b && c)) ≡ ((a && b) && c)
and_assoc true b c = refl
and_assoc false b c = refl
