-- Two marks together: the frames of either, and whether they have none in common. And the smallest held frame.
use mathlib.Core.Path.{◌≡◌, refl, sym, ap, ◌∙◌}
use mathlib.Core.Bool.{Bool, true}
use Prim.Native.Nat.{ℕ, zero, suc, ◌+◌, ◌-◌, ◌/◌, ◌%◌, ◌^◌, ◌≤◌, ◌<◌, min, max}
use native.Mathlib.Omega.{arith}
use lib.Dec.{eqb, ltb}
use lib.Bits.{bit_and, bit_or, and_step, or_step, and_shr, or_shr, or_lt, and_lt, and_zero_r, or_zero_r}
use borrow.Author.Tests.{eqb-true, eqb-false, eq-eqb, ltb-true, ltb-false, lt-ltb, le-ltb}
use Rattle.basics.specs.Choice.{◌when◌else◌}
use Rattle.basics.specs.Ranges.{lowest}
use Rattle.basics.proofs.TestLaws.{by_cases, and_both, and-of}
use Rattle.basics.proofs.LoopLaws.{lowest-least, lowest-passes}
use Rattle.frames.specs.declared.Held.{Held}
use Rattle.words.specs.Word.{bit}
use Rattle.frames.specs.Frames.{held, none_held, count_held, least_held, both_held, apart_held}
use Rattle.words.proofs.WordLaws.{bit-zero, bit-suc, bit-lt, bit-above, word-ext}
use Rattle.frames.proofs.FrameLaws.{held-lt, held_low, held_high, none-count}

-- ---- bits

bit-or : (a b k : ℕ) → bit (bit_or a b) k ≡ max (bit a k) (bit b k)
unfolding bit
bit-or a b k = ap (λ (x : ℕ). x % 2) (or_shr a b k) ∙ omega (arith, or_step (a / 2 ^ k) (b / 2 ^ k))

bit-and : (a b k : ℕ) → bit (bit_and a b) k ≡ min (bit a k) (bit b k)
unfolding bit
bit-and a b k = ap (λ (x : ℕ). x % 2) (and_shr a b k) ∙ omega (arith, and_step (a / 2 ^ k) (b / 2 ^ k))

-- words without a common bit
and_none : (a b : ℕ) → bit_and a b ≡ 0 → (k : ℕ) → bit a k + bit b k ≤ 1
and_none a b e k =
    let z : bit (bit_and a b) k ≡ 0 = ap (λ (x : ℕ). bit x k) e ∙ bit-above 0 0 k (omega arith) (omega arith) in
    omega (arith, z, bit-and a b k, bit-lt a k, bit-lt b k)

none-and : (a b : ℕ) → a < 2 ^ 64 → b < 2 ^ 64 → ((k : ℕ) → k < 64 → bit a k + bit b k ≤ 1) → bit_and a b ≡ 0
none-and a b la lb h =
    word-ext 64 (bit_and a b) 0 (and_lt 64 a b la lb) (omega arith)
    (λ k l. bit-and a b k ∙ omega (arith, h k l, bit-above 0 0 k (omega arith) (omega arith), bit-lt a k, bit-lt b k))

-- ---- frames

pub held_both : (h j : Held) (f : ℕ) → f < 128 → held (both_held h j) f ≡ max (held h f) (held j f)
unfolding both_held held
held_both h j f l =
    by_cases (ltb f 64)
    (λ e. rw e (bit-or h.low j.low f))
    (λ e. rw e (bit-or h.high j.high (f - 64)))

pub both-low : (h j : Held) → h.low < 2 ^ 64 → j.low < 2 ^ 64 → (both_held h j).low < 2 ^ 64
unfolding both_held
both-low h j a b = or_lt 64 h.low j.low a b

pub both_high : (h j : Held) → h.high < 2 ^ 64 → j.high < 2 ^ 64 → (both_held h j).high < 2 ^ 64
unfolding both_held
both_high h j a b = or_lt 64 h.high j.high a b

-- no marks come to others
pub both-none : (h : Held) → both_held h none_held ≡ h
unfolding both_held
both-none h = λ i. record { low = or_zero_r h.low i; high = or_zero_r h.high i }

pub apart_none : (h : Held) → apart_held h none_held ≡ true
unfolding apart_held
apart_none h = rw (and_zero_r h.low, and_zero_r h.high)

-- the test of two that have no frame in common says so
pub apart-true : (h j : Held) → apart_held h j ≡ true → (f : ℕ) → held h f + held j f ≤ 1
unfolding apart_held held
apart-true h j e f =
    let both = and_both (eqb (bit_and h.low j.low) 0) _ e in
    by_cases (ltb f 64)
    (λ d. rw d (and_none h.low j.low (eqb-true _ 0 both.0) f))
    (λ d. rw d (and_none h.high j.high (eqb-true _ 0 both.1) (f - 64)))

pub apart_of : (h j : Held) → h.low < 2 ^ 64 → h.high < 2 ^ 64 → j.low < 2 ^ 64 → j.high < 2 ^ 64
    → ((f : ℕ) → f < 128 → held h f + held j f ≤ 1) → apart_held h j ≡ true
unfolding apart_held
apart_of h j a b c d e =
    and-of
    (eq-eqb _ 0 (none-and h.low j.low a c (λ k l. omega (arith, e k (omega arith), held_low h k l, held_low j k l))))
    (eq-eqb _ 0 (none-and h.high j.high b d (λ k l. omega (arith, e (64 + k) (omega arith), held_high h k, held_high j k))))

-- ---- the smallest held frame

pub least-found : (run : Held) → 1 ≤ count_held run → (least_held run < 128) × (held run (least_held run) ≡ 1)
unfolding least_held
least-found run there =
    by_cases (ltb (lowest (λ f. eqb (held run f) 1) 0 128) 128)
    (λ e. let low : least_held run < 128 = ltb-true _ _ e in
    (low, eqb-true (held run (lowest (λ f. eqb (held run f) 1) 0 128)) 1 (lowest-passes (λ f. eqb (held run f) 1) 0 128 low)))
    (λ e. let past : 128 ≤ least_held run = ltb-false _ _ e in
    let empty : count_held run ≡ 0 = none-count run (λ f l.
    let y = eqb-false (held run f) 1 (lowest-least (λ g. eqb (held run g) 1) 0 128 f (omega arith) (omega arith)) in omega (arith, held-lt run f, y)) in
    absurd (omega arith))

-- none is smaller
pub least-smallest : (run : Held) (f : ℕ) → f < least_held run → held run f ≡ 0
unfolding least_held
least-smallest run f l =
    let y = eqb-false (held run f) 1 (lowest-least (λ g. eqb (held run g) 1) 0 128 f (omega arith) l) in omega (arith, held-lt run f, y)

-- the same test below the end
lowest-same : (P Q : ℕ → Bool) (a n : ℕ) → ((i : ℕ) → i < a + n → P i ≡ Q i) → lowest P a n ≡ lowest Q a n
unfolding lowest
lowest-same P Q a zero h = refl
lowest-same P Q a (suc n) h = rw (h a (omega arith), lowest-same P Q (a + 1) n (λ i l. h i (omega arith)))

-- by words: the low word's lowest set place, or else the high word's
lowest-above : (P Q : ℕ → Bool) (k a : ℕ) → ((i : ℕ) → P (k + i) ≡ Q i) → (n : ℕ) → lowest P (k + a) n ≡ k + lowest Q a n
unfolding lowest
lowest-above P Q k a h zero = refl
lowest-above P Q k a h (suc n) =
    let z : k + a + 1 ≡ k + (a + 1) = omega arith in
    by_cases (Q a) (λ e. rw (h a, e)) (λ e. rw (h a, e, z) (lowest-above P Q k (a + 1) h n))

lowest-parts : (P : ℕ → Bool) (a m n : ℕ) → lowest P a (m + n) ≡ (lowest P a m when ltb (lowest P a m) (a + m) else lowest P (a + m) n)
unfolding lowest
lowest-parts P a zero n = let z : 0 + n ≡ n = omega arith in let y : a + 0 ≡ a = omega arith in rw (z, y, le-ltb a a (omega arith))
lowest-parts P a (suc m) n =
    let z : suc m + n ≡ suc (m + n) = omega arith in
    let y : a + suc m ≡ a + 1 + m = omega arith in
    rw z (by_cases (P a) (λ e. rw (e, lt-ltb a (a + suc m) (omega arith))) (λ e. rw (e, y) (lowest-parts P (a + 1) m n)))

pub least-words : (h : Held) (low high : ℕ) → low ≡ lowest (λ k. eqb (bit h.low k) 1) 0 64 → high ≡ lowest (λ k. eqb (bit h.high k) 1) 0 64
    → (low when ltb low 64 else 64 + high) ≡ least_held h
unfolding least_held
least-words h low high a b =
    let l : lowest (λ f. eqb (held h f) 1) 0 64 ≡ low = lowest-same (λ f. eqb (held h f) 1) (λ k. eqb (bit h.low k) 1) 0 64 (λ i d. rw (held_low h i d))
    ∙ sym a in
    let u : lowest (λ f. eqb (held h f) 1) 64 64 ≡ 64 + high =
    lowest-above (λ f. eqb (held h f) 1) (λ k. eqb (bit h.high k) 1) 64 0 (λ i. rw (held_high h i)) 64 ∙ ap (λ (x : ℕ). 64 + x) (sym b) in
    sym (lowest-parts (λ f. eqb (held h f) 1) 0 64 64 ∙ rw (l, u))
