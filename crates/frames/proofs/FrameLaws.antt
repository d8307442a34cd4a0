-- Laws of the marks of held frames, and of their count.
use mathlib.Core.Path.{◌≡◌, sym, ap, ap₂, ◌∙◌}
use mathlib.Core.Logic.{◌⊎◌, inl, inr}
use mathlib.Core.Bool.{true}
use Prim.Native.Nat.{ℕ, ◌+◌, ◌-◌, ◌^◌, ◌≤◌, ◌<◌}
use native.Mathlib.Nat.{add-zero}
use native.Mathlib.Omega.{arith}
use borrow.Author.Tests.{lt-ltb, le-ltb, ltb-true, ltb-false, eq-eqb, eqb-true, eqb-false}
use lib.Dec.{ltb, eqb}
use lib.Count.{ones}
use Rattle.basics.specs.Choice.{◌when◌else◌}
use Rattle.basics.specs.Ranges.{sum}
use Rattle.basics.proofs.TestLaws.{by_cases, and_left, and_right, and-of}
use Rattle.basics.proofs.CountLaws.{sum-put}
use Rattle.words.specs.Word.{bit}
use Rattle.frames.specs.Frames.{held, mark, none_held, same_held, count_held, Within}
use Rattle.frames.specs.declared.Held.{Held}
use Rattle.words.proofs.SumLaws.{sum_same, sum-add, sum-none, none-of-sum, sum-le}
use Rattle.words.proofs.WordLaws.{bit-lt, bit-put-same, bit-put-other, put-put, put-bit, put-lt, ones-sum, word-ext, bit-above}

pub lt-or-ge : (m n : ℕ) → (m < n) ⊎ (n ≤ m)
lt-or-ge m n = by_cases (ltb m n) (λ e. inl (ltb-true m n e)) (λ e. inr (ltb-false m n e))

-- ---- a mark is 0 or 1

pub held-lt : (h : Held) (f : ℕ) → held h f < 2
unfolding held
held-lt h f = by_cases (ltb f 64) (λ e. rw e (bit-lt h.low f)) (λ e. rw e (bit-lt h.high (f - 64)))

pub held_one : (h : Held) (f : ℕ) → (held h f ≡ 0 → ⊥) → held h f ≡ 1
held_one h f n = omega (arith, held-lt h f)

pub held-or : (h : Held) (f : ℕ) → (held h f ≡ 0) ⊎ (held h f ≡ 1)
held-or h f = by_cases (eqb (held h f) 0) (λ e. inl (eqb-true (held h f) 0 e)) (λ e. inr (held_one h f (eqb-false (held h f) 0 e)))

-- no frame is held in a fresh state
pub held-zero : (f : ℕ) → held none_held f ≡ 0
unfolding held
held-zero f =
    by_cases (ltb f 64)
    (λ e. rw e (bit-above 0 0 f (omega arith) (omega arith)))
    (λ e. rw e (bit-above 0 0 (f - 64) (omega arith) (omega arith)))

-- the marks of each word
pub held_low : (h : Held) (f : ℕ) → f < 64 → held h f ≡ bit h.low f
unfolding held
held_low h f l = rw (lt-ltb f 64 l)

pub held_high : (h : Held) (k : ℕ) → held h (64 + k) ≡ bit h.high k
unfolding held
held_high h k = let e : (64 + k) - 64 ≡ k = omega arith in rw (le-ltb (64 + k) 64 (omega arith), e)

-- ---- a mark that is put

pub held-mark-same : (h : Held) (f b : ℕ) → b < 2 → held (mark h f b) f ≡ b
unfolding held mark
held-mark-same h f b l =
    by_cases (ltb f 64) (λ e. rw e (bit-put-same h.low f b l)) (λ e. rw e (bit-put-same h.high (f - 64) b l))

pub held-mark-other : (h : Held) (f b g : ℕ) → b < 2 → (g ≡ f → ⊥) → held (mark h f b) g ≡ held h g
unfolding held mark
held-mark-other h f b g l n =
    by_cases (ltb f 64)
    (λ p. by_cases (ltb g 64) (λ q. rw (p, q) (bit-put-other h.low f b g l n)) (λ q. rw (p, q)))
    (λ p. by_cases (ltb g 64)
    (λ q. rw (p, q))
    (λ q. rw (p, q) (bit-put-other h.high (f - 64) b (g - 64) l (λ e. n (omega (arith, ltb-false f 64 p, ltb-false g 64 q))))))

pub held-mark : (h : Held) (f b g : ℕ) → b < 2 → held (mark h f b) g ≡ (b when eqb f g else held h g)
held-mark h f b g l =
    by_cases (eqb f g)
    (λ e. rw (e, ← eqb-true f g e) (held-mark-same h f b l))
    (λ e. rw e (held-mark-other h f b g l (λ d. eqb-false f g e (sym d))))

-- two marks of one frame: the later stands
pub mark-mark : (h : Held) (f a b : ℕ) → a < 2 → mark (mark h f a) f b ≡ mark h f b
unfolding mark
mark-mark h f a b l =
    by_cases (ltb f 64)
    (λ e. rw e (ap {B = Held} (λ (x : ℕ). record { low = x; high = h.high }) (put-put h.low f a b l)))
    (λ e. rw e (ap {B = Held} (λ (x : ℕ). record { low = h.low; high = x }) (put-put h.high (f - 64) a b l)))

pub mark-held : (h : Held) (f : ℕ) → mark h f (held h f) ≡ h
unfolding held mark
mark-held h f =
    by_cases (ltb f 64)
    (λ e. rw e (ap {B = Held} (λ (x : ℕ). record { low = x; high = h.high }) (put-bit h.low f)))
    (λ e. rw e (ap {B = Held} (λ (x : ℕ). record { low = h.low; high = x }) (put-bit h.high (f - 64))))

-- words of 64 bits stay so
pub mark-low : (h : Held) (f b : ℕ) → b < 2 → f < 128 → h.low < 2 ^ 64 → (mark h f b).low < 2 ^ 64
unfolding mark
mark-low h f b d l w = by_cases (ltb f 64) (λ e. rw e (put-lt 64 h.low f b d (ltb-true f 64 e) w)) (λ e. rw e w)

pub mark-high : (h : Held) (f b : ℕ) → b < 2 → f < 128 → h.high < 2 ^ 64 → (mark h f b).high < 2 ^ 64
unfolding mark
mark-high h f b d l w =
    by_cases (ltb f 64) (λ e. rw e w) (λ e. rw e (put-lt 64 h.high (f - 64) b d (omega (arith, ltb-false f 64 e)) w))

-- ---- two are the same

-- words of 64 bits are the frames that they mark
pub held-ext : (h j : Held) → h.low < 2 ^ 64 → h.high < 2 ^ 64 → j.low < 2 ^ 64 → j.high < 2 ^ 64
    → ((f : ℕ) → f < 128 → held h f ≡ held j f) → h ≡ j
held-ext h j a b c d e =
    let lows : h.low ≡ j.low = word-ext 64 h.low j.low a c (λ k l. sym (held_low h k l) ∙ e k (omega arith) ∙ held_low j k l) in
    let highs : h.high ≡ j.high = word-ext 64 h.high j.high b d (λ k l. sym (held_high h k) ∙ e (64 + k) (omega arith) ∙ held_high j k) in
    λ i. record { low = lows i; high = highs i }

pub same-held-true : (h j : Held) → same_held h j ≡ true → h ≡ j
same-held-true h j e =
    let lows : h.low ≡ j.low = eqb-true h.low j.low (and_left (eqb h.low j.low) (eqb h.high j.high) e) in
    let highs : h.high ≡ j.high = eqb-true h.high j.high (and_right (eqb h.low j.low) (eqb h.high j.high) e) in
    λ i. record { low = lows i; high = highs i }

pub same-held-of : (h j : Held) → h ≡ j → same_held h j ≡ true
same-held-of h j e =
    and-of (eq-eqb h.low j.low (ap (λ (x : Held). x.low) e)) (eq-eqb h.high j.high (ap (λ (x : Held). x.high) e))

-- ---- the count

-- one frame's mark changes the count by that frame alone
pub count-mark : (h : Held) (f b : ℕ) → f < 128 → b < 2 → count_held (mark h f b) + held h f ≡ count_held h + b
unfolding count_held
count-mark h f b l k =
    ap (λ (x : ℕ). x + held h f) (sum_same (held (mark h f b)) (λ g. b when eqb f g else held h g) 128 (λ g m. held-mark h f b g k))
    ∙ sum-put (λ x. x) (held h) f b 128 l

pub count-with : (h : Held) (f : ℕ) → f < 128 → held h f ≡ 0 → count_held (mark h f 1) ≡ count_held h + 1
count-with h f l e = omega (arith, count-mark h f 1 l (omega arith))

pub count-without : (h : Held) (f : ℕ) → f < 128 → held h f ≡ 1 → count_held (mark h f 0) + 1 ≡ count_held h
count-without h f l e = omega (arith, count-mark h f 0 l (omega arith))

-- the count is 0 just where no frame is held
pub count_none : (h : Held) → count_held h ≡ 0 → (f : ℕ) → f < 128 → held h f ≡ 0
unfolding count_held
count_none h e = none-of-sum (held h) 128 e

pub none-count : (h : Held) → ((f : ℕ) → f < 128 → held h f ≡ 0) → count_held h ≡ 0
unfolding count_held
none-count h e = sum-none (held h) 128 e

-- the count, by words
pub count-words : (h : Held) → h.low < 2 ^ 64 → h.high < 2 ^ 64 → count_held h ≡ ones h.low + ones h.high
unfolding count_held
count-words h l u =
    sum-add (held h) 64 64
    ∙ ap₂ (λ (x y : ℕ). x + y)
    (sum_same (held h) (bit h.low) 64 (λ k p. held_low h k p) ∙ sym (ones-sum 64 h.low l))
    (sum_same (λ k. held h (64 + k)) (bit h.high) 64 (λ k p. held_high h k) ∙ sym (ones-sum 64 h.high u))

-- ---- the marks of a pool of n frames

pub count-within : (h : Held) (n : ℕ) → Within h n → count_held h ≡ sum (held h) n
unfolding count_held
count-within h n w =
    let e : 128 ≡ n + (128 - n) = omega (arith, w.few) in
    ap (sum (held h)) e ∙ sum-add (held h) n (128 - n)
    ∙ ap (λ (x : ℕ). sum (held h) n + x) (sum-none (λ k. held h (n + k)) (128 - n) (λ k l. w.none (n + k) (omega arith) (omega (arith, w.few))))
    ∙ add-zero (sum (held h) n)

pub count-le : (h : Held) (n : ℕ) → Within h n → count_held h ≤ n
count-le h n w = omega (arith, count-within h n w, sum-le (held h) n (held-lt h))

-- no frame past the pool is held after a frame of the pool is marked
pub within-mark : (h : Held) (n f b : ℕ) → Within h n → f < n → b < 2 → Within (mark h f b) n
within-mark h n f b w l k =
    record { few = w.few; none = λ g a c. held-mark-other h f b g k (omega arith) ∙ w.none g a c }
