-- Laws of a range of numbers, and of a function changed on a range.
use Prim.Native.Nat.{ℕ, ◌+◌, ◌-◌, ◌≤◌, ◌<◌}
use mathlib.Core.Path.{◌≡◌, fun_ext}
use mathlib.Core.Bool.{true, false, ◌&&◌}
use native.Mathlib.Omega.{arith}
use native.Mathlib.Decide.{dec_lt}
use lib.Dec.{leb, ltb}
use borrow.Author.Tests.{ltb-true, leb-true, lt-ltb, le-ltb, le-leb, lt-leb}
use Rattle.basics.specs.Ranges.{inside, over}
use Rattle.basics.proofs.TestLaws.{by_cases, when-cases, both_ways, and_left, and_right, and-of}

pub inside-first : (a n i : ℕ) → inside a n i ≡ true → a ≤ i
unfolding inside
inside-first a n i h = leb-true a i (and_left (leb a i) (ltb (i - a) n) h)

pub inside-end : (a n i : ℕ) → inside a n i ≡ true → i < a + n
unfolding inside
inside-end a n i h = omega (arith, ltb-true (i - a) n (and_right (leb a i) (ltb (i - a) n) h), inside-first a n i h)

pub inside-yes : (a n i : ℕ) → a ≤ i → i < a + n → inside a n i ≡ true
unfolding inside
inside-yes a n i h k = simp (le-leb a i h, lt-ltb (i - a) n (omega arith))

-- the same, by the number at which the range ends
pub inside-ends : (a n i : ℕ) → (leb a i && ltb i (a + n)) ≡ inside a n i
inside-ends a n i =
    both_ways _ _
    (λ h. inside-yes a n i (leb-true a i (and_left (leb a i) (ltb i (a + n)) h)) (ltb-true i (a + n) (and_right (leb a i) (ltb i (a + n)) h)))
    (λ h. and-of (le-leb a i (inside-first a n i h)) (lt-ltb i (a + n) (inside-end a n i h)))

pub inside-below : (a n i : ℕ) → i < a → inside a n i ≡ false
unfolding inside
inside-below a n i h = simp (lt-leb a i h)

pub inside_past : (a n i : ℕ) → a + n ≤ i → inside a n i ≡ false
unfolding inside
inside_past a n i h = simp (le-leb a i (omega arith), le-ltb (i - a) n (omega arith))

-- a range of no number, and one of a number more
pub inside-none : (a i : ℕ) → inside a 0 i ≡ false
inside-none a i = by_cases (inside a 0 i) (λ t. absurd (omega (arith, inside-first a 0 i t, inside-end a 0 i t))) (λ t. t)

pub inside-more : (a n i : ℕ) → (i ≡ a + n → ⊥) → inside a (n + 1) i ≡ inside a n i
inside-more a n i d =
    both_ways (inside a (n + 1) i) (inside a n i)
    (λ t. inside-yes a n i (inside-first a (n + 1) i t) (omega (arith, inside-end a (n + 1) i t, d)))
    (λ t. inside-yes a (n + 1) i (inside-first a n i t) (omega (arith, inside-end a n i t)))

-- a function changed on a range: a number is one of the n from a on, or it is as it was
pub over-cases {ℓ ℓ'} : {A : Type ℓ} (P : A → Type ℓ') (a n : ℕ) (g f : ℕ → A) (i : ℕ) → (inside a n i ≡ true → P (g i)) → P (f i) → P (over a n g f i)
unfolding over
over-cases P a n g f i new old = when-cases P (inside a n i) new (λ _. old)

-- the same, where being outside helps
pub over-split {ℓ ℓ'} : {A : Type ℓ} (P : A → Type ℓ') (a n : ℕ) (g f : ℕ → A) (i : ℕ)
    → (inside a n i ≡ true → P (g i)) → (inside a n i ≡ false → P (f i)) → P (over a n g f i)
unfolding over
over-split P a n g f i new old = when-cases P (inside a n i) new old

-- two functions changed on one range
pub over-both {ℓ ℓ' ℓ''} : {A : Type ℓ} {B : Type ℓ'} (R : A → B → Type ℓ'') (a n : ℕ) (g f : ℕ → A) (g' f' : ℕ → B) (i : ℕ)
    → R (g i) (g' i) → R (f i) (f' i) → R (over a n g f i) (over a n g' f' i)
unfolding over
over-both R a n g f g' f' i new old = by_cases (inside a n i) (λ e. rw e new) (λ e. rw e old)

pub over-in {ℓ} : {A : Type ℓ} (a n : ℕ) (g f : ℕ → A) (i : ℕ) → inside a n i ≡ true → over a n g f i ≡ g i
unfolding over
over-in a n g f i e = rw e

pub over-out {ℓ} : {A : Type ℓ} (a n : ℕ) (g f : ℕ → A) (i : ℕ) → inside a n i ≡ false → over a n g f i ≡ f i
unfolding over
over-out a n g f i e = rw e

-- a range, and then the one behind it
over-join-at {ℓ} : {A : Type ℓ} (a n m : ℕ) (g f : ℕ → A) (i : ℕ) → Dec (i < a) → Dec (i < a + n) → Dec (i < a + n + m)
    → over (a + n) m g (over a n g f) i ≡ over a (n + m) g f i
unfolding over
over-join-at a n m g f i (yes x) y z = rw (inside-below (a + n) m i (omega arith), inside-below a n i x, inside-below a (n + m) i x)
over-join-at a n m g f i (no x) (yes y) z =
    rw (inside-below (a + n) m i y, inside-yes a n i (omega arith) y, inside-yes a (n + m) i (omega arith) (omega arith))
over-join-at a n m g f i (no x) (no y) (yes z) = rw (inside-yes (a + n) m i (omega arith) z, inside-yes a (n + m) i (omega arith) (omega arith))
over-join-at a n m g f i (no x) (no y) (no z) =
    rw (inside_past (a + n) m i (omega arith), inside_past a n i (omega arith), inside_past a (n + m) i (omega arith))

pub over-join {ℓ} : {A : Type ℓ} (a n m : ℕ) (g f : ℕ → A) → over (a + n) m g (over a n g f) ≡ over a (n + m) g f
over-join a n m g f = fun_ext λ i. over-join-at a n m g f i (dec_lt i a) (dec_lt i (a + n)) (dec_lt i (a + n + m))
