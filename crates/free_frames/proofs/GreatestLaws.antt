-- Laws of the greatest number at which a mark is 0, and of the greatest free frame.
use mathlib.Core.Path.{◌≡◌, refl, sym, ap, ap₂, ◌∙◌}
use mathlib.Core.Logic.{⊎_elim}
use mathlib.Core.Bool.{Bool, true, false}
use Prim.Native.Nat.{ℕ, zero, suc, ◌+◌, ◌-◌, ◌≤◌, ◌<◌}
use native.Mathlib.Nat.{add-zero, add-suc, not-suc-le-zero, le_of_suc-le-suc, eq-or-lt_of_le}
use native.Mathlib.Omega.{arith}
use borrow.Author.Tests.{eq-eqb, ne_eqb, eqb-true, eqb-false}
use lib.Dec.{eqb}
use Rattle.basics.specs.Choice.{◌when◌else◌}
use Rattle.words.specs.Word.{bit}
use Rattle.frames.specs.Frames.{held, count_held, Within}
use Rattle.free_frames.specs.Greatest.{greatest}
use Rattle.frames.specs.declared.Held.{Held}
use Rattle.frames.specs.declared.FrameNo.{FrameNo}
use Rattle.std.specs.Prelude.{Option, Some, None}
use Rattle.words.proofs.SumLaws.{sum-all, all-of-sum}
use Rattle.frames.proofs.FrameLaws.{held-lt, held_low, held_high, count-within, count-le}

-- ---- there is none just where no mark is 0

pub greatest-none : (p : ℕ → ℕ) (n : ℕ) → ((k : ℕ) → k < n → p k ≡ 0 → ⊥) → greatest p n ≡ None
unfolding greatest
greatest-none p zero h = refl
greatest-none p (suc n) h = rw (ne_eqb (p n) 0 (h n (omega arith))) (greatest-none p n (λ k l. h k (omega arith)))

pub greatest-all : (p : ℕ → ℕ) (n : ℕ) → greatest p n ≡ None → (k : ℕ) → k < n → p k ≡ 0 → ⊥
unfolding greatest
greatest-all p zero e k l z = not-suc-le-zero l
greatest-all p (suc n) e k l z = go (eqb (p n) 0) refl e (λ s m. greatest-all p n s k m z)
  where
    go : (t : Bool) → eqb (p n) 0 ≡ t → (Some (record { 0 = n }) when t else greatest p n) ≡ None → (greatest p n ≡ None → k < n → ⊥) → ⊥
    go true q s ih = let y : ◌≡◌ {A = ℕ} 0 1 = cc in omega arith
    go false q s ih = ⊎_elim (λ m. eqb-false (p n) 0 q (ap p (sym m) ∙ z)) (λ m. ih s m) (eq-or-lt_of_le (le_of_suc-le-suc l))

-- ---- the one that there is: below n, its mark 0, and no mark above it 0

pub record Greatest (p : ℕ → ℕ) (n f : ℕ) : Type 0 where
  pub within : f < n
  pub free : p f ≡ 0
  pub above : (g : ℕ) → f < g → g < n → p g ≡ 0 → ⊥

pub greatest-found : (p : ℕ → ℕ) (n : ℕ) (f : FrameNo) → greatest p n ≡ Some f → Greatest p n f.0
unfolding greatest
greatest-found p zero f e = absurd (let z : ◌≡◌ {A = ℕ} 0 1 = cc in omega arith)
greatest-found p (suc n) f e = go (eqb (p n) 0) refl e (greatest-found p n f)
  where
    go : (t : Bool) → eqb (p n) 0 ≡ t → (Some (record { 0 = n }) when t else greatest p n) ≡ Some f → (greatest p n ≡ Some f → Greatest p n f.0)
        → Greatest p (suc n) f.0
    go true q s ih =
        let g : ◌≡◌ {A = FrameNo} (record { 0 = n }) f = cc in
        let m : n ≡ f.0 = ap (λ (x : FrameNo). x.0) g in
        record { within = omega arith; free = ap p (sym m) ∙ eqb-true (p n) 0 q; above = λ k a b. absurd (omega arith) }
    go false q s ih =
        let r = ih s in
        record {
          within = omega (arith, r.within);
          free = r.free;
          above = λ k a b e. ⊎_elim (λ m. eqb-false (p n) 0 q (ap p (sym m) ∙ e)) (λ m. r.above k a m e) (eq-or-lt_of_le (le_of_suc-le-suc b));
        }

pub greatest-is : (p : ℕ → ℕ) (n j : ℕ) → j < n → p j ≡ 0 → ((k : ℕ) → j < k → k < n → p k ≡ 0 → ⊥) → greatest p n ≡ Some (record { 0 = j })
unfolding greatest
greatest-is p zero j l e h = absurd (not-suc-le-zero l)
greatest-is p (suc n) j l e h =
    ⊎_elim
    (λ m. rw (eq-eqb (p n) 0 (ap p (sym m) ∙ e)) (ap (λ (x : ℕ). Some (record { 0 = x })) (sym m)))
    (λ m. rw (ne_eqb (p n) 0 (h n m (omega arith))) (greatest-is p n j m e (λ k a b. h k a (omega arith))))
    (eq-or-lt_of_le (le_of_suc-le-suc l))

-- ---- equal marks, and marks in two parts

pub greatest-same : (p q : ℕ → ℕ) (n : ℕ) → ((k : ℕ) → k < n → p k ≡ q k) → greatest p n ≡ greatest q n
unfolding greatest
greatest-same p q zero h = refl
greatest-same p q (suc n) h =
    ap₂ (λ (x : ℕ) (y : Option FrameNo). Some (record { 0 = n }) when eqb x 0 else y) (h n (omega arith)) (greatest-same p q n (λ k l. h k (omega arith)))

-- a frame m places on, or else other
abbrev pub after : ℕ → Option FrameNo → Option FrameNo → Option FrameNo
after m (Some f) other = Some (record { 0 = m + f.0 })
after m None other = other

after-when : (m n : ℕ) (t : Bool) (r other : Option FrameNo)
    → (Some (record { 0 = m + n }) when t else after m r other) ≡ after m (Some (record { 0 = n }) when t else r) other
after-when m n true r other = refl
after-when m n false r other = refl

pub greatest-add : (p : ℕ → ℕ) (m n : ℕ) → greatest p (m + n) ≡ after m (greatest (λ k. p (m + k)) n) (greatest p m)
unfolding greatest
greatest-add p m zero = ap (greatest p) (add-zero m)
greatest-add p m (suc n) =
    ap (greatest p) (add-suc m n)
    ∙ ap (λ (x : Option FrameNo). Some (record { 0 = m + n }) when eqb (p (m + n)) 0 else x) (greatest-add p m n)
    ∙ after-when m n (eqb (p (m + n)) 0) (greatest (λ k. p (m + k)) n) (greatest p m)

-- ---- the frames of the low word, and those of both

pub free-low : (h : Held) (n : ℕ) → n ≤ 64 → greatest (held h) n ≡ greatest (bit h.low) n
free-low h n l = greatest-same (held h) (bit h.low) n (λ k m. held_low h k (omega arith))

pub free-high : (h : Held) (n : ℕ) → 64 ≤ n → greatest (held h) n ≡ after 64 (greatest (bit h.high) (n - 64)) (greatest (bit h.low) 64)
free-high h n l =
    let e : n ≡ 64 + (n - 64) = omega arith in
    ap (greatest (held h)) e ∙ greatest-add (held h) 64 (n - 64)
    ∙ ap₂ (after 64) (greatest-same (λ k. held h (64 + k)) (bit h.high) (n - 64) (λ k m. held_high h k)) (free-low h 64 (omega arith))

pub free-found : (h : Held) (n : ℕ) (f : FrameNo) → 64 ≤ n → greatest (bit h.high) (n - 64) ≡ Some f
    → Some (record { 0 = 64 + f.0 }) ≡ greatest (held h) n
free-found h n f l e = sym (free-high h n l ∙ ap (λ (r : Option FrameNo). after 64 r (greatest (bit h.low) 64)) e)

pub free-rest : (h : Held) (n : ℕ) → 64 ≤ n → greatest (bit h.high) (n - 64) ≡ None → greatest (bit h.low) 64 ≡ greatest (held h) n
free-rest h n l e = sym (free-high h n l ∙ ap (λ (r : Option FrameNo). after 64 r (greatest (bit h.low) 64)) e)

-- ---- a pool has no free frame just where as many are held as it has frames

pub full-count : (h : Held) (n : ℕ) → Within h n → greatest (held h) n ≡ None → count_held h ≡ n
full-count h n w e = omega (arith, count-le h n w, count-within h n w, sum-all (held h) n (greatest-all (held h) n e))

pub count-full : (h : Held) (n : ℕ) → Within h n → count_held h ≡ n → greatest (held h) n ≡ None
count-full h n w e = greatest-none (held h) n (all-of-sum (held h) n (held-lt h) (sym (count-within h n w) ∙ e))
