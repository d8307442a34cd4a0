-- A pass over the entries is good just where they name frames of the pool, no frame twice; it has the marks of these frames, and it counts them.
use mathlib.Core.Path.{◌≡◌, refl, sym, ap, ◌∙◌}
use mathlib.Core.Logic.{⊎_elim}
use mathlib.Core.Bool.{true, false}
use mathlib.Core.List.{List}
use Prim.Native.Nat.{ℕ, zero, suc, ◌+◌, ◌-◌, ◌*◌, ◌^◌, ◌≤◌, ◌<◌}
use native.Mathlib.Nat.{zero-add, zero-mul, suc-mul}
use native.Mathlib.Omega.{arith}
use borrow.Author.Tests.{lt-ltb, le-ltb, eq-eqb, ne_eqb}
use lib.Dec.{ltb}
use lib.ListN.{length, get_or, get_or-eq_default}
use Rattle.basics.specs.Choice.{◌when◌else◌}
use Rattle.basics.specs.Ranges.{sum}
use Rattle.basics.proofs.TestLaws.{never, and_left, and_right, and_both, and-of}
use Rattle.frames.specs.Frames.{held, mark, none_held, same_held, count_held, Within}
use Rattle.frames.specs.declared.Held.{Held}
use Rattle.words.proofs.SumLaws.{sum_same, sum-add}
use Rattle.frames.proofs.FrameLaws.{lt-or-ge, held-or, held-zero, held-ext, mark-low, mark-high, count-with, none-count, same-held-true, same-held-of}
use Rattle.marks.specs.declared.Marks.{Marks}
use Rattle.marks.specs.Named.{Named, used, used_below}
use Rattle.marks.specs.Marks.{add_entry, marks_to, from, marksb}
use Rattle.marks.proofs.NamedLaws.{same_or, named-same, named_put, unheld, fits-some}

-- ---- one more entry

add_none : (n : ℕ) (m : Marks) → add_entry n m 0 ≡ m
unfolding add_entry
add_none n m = refl

add-new : (n : ℕ) (m : Marks) (f : ℕ) → f < n → held m.held f ≡ 0 → add_entry n m (suc f) ≡ record { good = m.good; held = mark m.held f 1 }
unfolding add_entry
add-new n m f l u =
    let s : suc f - 1 ≡ f = omega arith in
    rw (ne_eqb (suc f) 0 (omega arith), le-ltb n (suc f) l, s, ne_eqb (held m.held f) 1 (omega arith))

add-past : (n : ℕ) (m : Marks) (f : ℕ) → n ≤ f → (add_entry n m (suc f)).good ≡ false
unfolding add_entry
add-past n m f l = rw (ne_eqb (suc f) 0 (omega arith), lt-ltb n (suc f) (omega arith))

add_twice : (n : ℕ) (m : Marks) (f : ℕ) → f < n → held m.held f ≡ 1 → (add_entry n m (suc f)).good ≡ false
unfolding add_entry
add_twice n m f l u =
    let s : suc f - 1 ≡ f = omega arith in
    rw (ne_eqb (suc f) 0 (omega arith), le-ltb n (suc f) l, s, eq-eqb (held m.held f) 1 u)

-- ---- the first i entries, and none after them

unfoldable pub up_to : (ℕ → ℕ) → ℕ → ℕ → ℕ
up_to p i k = p k when ltb k i else 0

up_to-is : (p : ℕ → ℕ) (i k : ℕ) → k < i → up_to p i k ≡ p k
unfolding up_to
up_to-is p i k l = rw (lt-ltb k i l)

up_to-not : (p : ℕ → ℕ) (i k : ℕ) → i ≤ k → up_to p i k ≡ 0
unfolding up_to
up_to-not p i k l = rw (le-ltb k i l)

up_to-old : (p : ℕ → ℕ) (i k : ℕ) → (k ≡ i → ⊥) → up_to p (suc i) k ≡ up_to p i k
up_to-old p i k m =
    ⊎_elim (λ l. up_to-is p (suc i) k (omega arith) ∙ sym (up_to-is p i k l))
    (λ l. up_to-not p (suc i) k (omega arith) ∙ sym (up_to-not p i k l)) (lt-or-ge k i)

up_to-some : (p : ℕ → ℕ) (i k f : ℕ) → up_to p i k ≡ suc f → (k < i) × (p k ≡ suc f)
up_to-some p i k f e =
    ⊎_elim (λ l. (l, sym (up_to-is p i k l) ∙ e)) (λ l. absurd (let z = up_to-not p i k l in omega arith)) (lt-or-ge k i)

-- ---- a pass that is good

-- what it says of the first i entries
pub record Good (n : ℕ) (p : ℕ → ℕ) (i : ℕ) (m : Marks) : Type 0 where
  pub names : Named n m.held (up_to p i)
  pub counted : count_held m.held ≡ used_below p i
  pub low : m.held.low < 2 ^ 64
  pub high : m.held.high < 2 ^ 64

module _ (n : ℕ) (few : n ≤ 128) (p : ℕ → ℕ) where
  good-zero : Good n p 0 (marks_to n p 0)
  unfolding marks_to used_below sum
  good-zero =
      record {
        names =
            record {
              within = λ k f e. absurd (let z = up_to-not p 0 k (omega arith) in omega arith);
              once = λ k j f e d. absurd (let z = up_to-not p 0 k (omega arith) in omega arith);
              marked = λ k f e. absurd (let z = up_to-not p 0 k (omega arith) in omega arith);
              named = λ f l e. absurd (let z = held-zero f in omega arith);
            };
        counted = none-count none_held (λ f l. held-zero f);
        low = omega arith;
        high = omega arith;
      }

  -- an entry that names none
  good-same : (i : ℕ) (m : Marks) → p i ≡ 0 → Good n p i m → Good n p (suc i) m
  unfolding used_below sum
  good-same i m e g =
      record {
        names =
            named-same n m.held (up_to p i) (up_to p (suc i))
            (λ k. ⊎_elim (λ r. ap (up_to p i) r ∙ up_to-not p i i (omega arith) ∙ sym e ∙ sym (up_to-is p (suc i) i (omega arith)) ∙ ap (up_to p (suc i)) (sym r))
            (λ r. sym (up_to-old p i k r)) (same_or k i)) g.names;
        counted = g.counted ∙ rw e (omega arith);
        low = g.low;
        high = g.high;
      }

  -- an entry that names a frame of the pool that is not marked
  good_more : (i : ℕ) (m : Marks) (f : ℕ) → p i ≡ suc f → f < n → held m.held f ≡ 0 → Good n p i m
      → Good n p (suc i) (record { good = m.good; held = mark m.held f 1 })
  unfolding used_below sum
  good_more i m f e l u g =
      record {
        names =
            named_put n m.held (up_to p i) (up_to p (suc i)) i (suc f) f 1 few g.names
            (unheld n m.held (up_to p i) g.names i f (up_to-not p i i (omega arith)) l u)
            (fits-some f) (up_to-is p (suc i) i (omega arith) ∙ e) (λ k r. up_to-old p i k r);
        counted = count-with m.held f (omega arith) u ∙ rw e (ap (λ (x : ℕ). x + 1) g.counted);
        low = mark-low m.held f 1 (omega arith) (omega arith) g.low;
        high = mark-high m.held f 1 (omega arith) (omega arith) g.high;
      }

  good-step : (i : ℕ) (m : Marks) (e : ℕ) → p i ≡ e → (m.good ≡ true → Good n p i m) → (add_entry n m e).good ≡ true → Good n p (suc i) (add_entry n m e)
  good-step i m zero q ih v = rw (add_none n m) (good-same i m q (ih (sym (ap (λ (x : Marks). x.good) (add_none n m)) ∙ v)))
  good-step i m (suc f) q ih v =
      ⊎_elim
      (λ l. ⊎_elim
      (λ u. rw (add-new n m f l u) (good_more i m f q l u (ih (sym (ap (λ (x : Marks). x.good) (add-new n m f l u)) ∙ v))))
      (λ u. never (add_entry n m (suc f)).good v (add_twice n m f l u)) (held-or m.held f))
      (λ l. never (add_entry n m (suc f)).good v (add-past n m f l)) (lt-or-ge f n)

  -- a good pass has the marks of what it passed
  pub good-marks : (i : ℕ) → (marks_to n p i).good ≡ true → Good n p i (marks_to n p i)
  unfolding marks_to
  good-marks zero w = good-zero
  good-marks (suc i) w = good-step i (marks_to n p i) (p i) refl (good-marks i) w

  module _ (within : (k f : ℕ) → p k ≡ suc f → f < n) (once : (k j f : ℕ) → p k ≡ suc f → p j ≡ suc f → k ≡ j) where
    well-step : (i : ℕ) (m : Marks) (e : ℕ) → p i ≡ e → Good n p i m → m.good ≡ true → (add_entry n m e).good ≡ true
    well-step i m zero q g v = ap (λ (x : Marks). x.good) (add_none n m) ∙ v
    well-step i m (suc f) q g v =
        let l = within i f q in
        ⊎_elim
        (λ u. ap (λ (x : Marks). x.good) (add-new n m f l u) ∙ v)
        (λ u. let there = g.names.named f (omega arith) u in
        let old = up_to-some p i there.0 f there.1 in
        let same = once there.0 i f old.1 q in
        absurd (omega (arith, old.0, same))) (held-or m.held f)

    -- entries that name frames of the pool, none twice: the pass is good
    pub well : (i : ℕ) → (marks_to n p i).good ≡ true
    unfolding marks_to
    well zero = refl
    well (suc i) = well-step i (marks_to n p i) (p i) refl (good-marks i (well i)) (well i)

  -- the marks of the first m entries, where no later one names a frame
  pub named-all : (m : ℕ) → ((k : ℕ) → m ≤ k → p k ≡ 0) → (marks_to n p m).good ≡ true → Named n (marks_to n p m).held p
  named-all m end g =
      named-same n (marks_to n p m).held (up_to p m) p
      (λ k. ⊎_elim (λ l. up_to-is p m k l) (λ l. up_to-not p m k l ∙ sym (end k l)) (lt-or-ge k m)) (good-marks m g).names

-- the marks of the same entries are the same
pub marks-same : (n : ℕ) (h j : Held) (p : ℕ → ℕ) → Named n h p → Named n j p → (f : ℕ) → f < 128 → held h f ≡ held j f
marks-same n h j p a b f l =
    ⊎_elim
    (λ u. ⊎_elim (λ v. u ∙ sym v) (λ v. let k = b.named f l v in let one = a.marked k.0 f k.1 in absurd (omega arith)) (held-or j f))
    (λ u. let k = a.named f l u in u ∙ sym (b.marked k.0 f k.1)) (held-or h f)

-- ---- how many frames are held

module _ (n : ℕ) (few : n ≤ 128) (h : Held) (p : ℕ → ℕ) (t : Named n h p) where
  -- no frame past the pool is held
  pub within-named : Within h n
  within-named =
      record {
        few = few;
        none = λ f a b. ⊎_elim (λ u. u) (λ u. let k = t.named f b u in absurd (omega (arith, t.within k.0 f k.1))) (held-or h f);
      }

  -- the frames that a run of entries names, counted by their marks
  pub count-run : (first m : ℕ) → count_held (marks_to n (λ k. p (first + k)) m).held ≡ used_below (λ k. p (first + k)) m
  count-run first m =
      let run : ℕ → ℕ = λ k. p (first + k) in
      (good-marks n few run m
      (well n few run (λ k f e. t.within (first + k) f e) (λ k j f a b. let z = t.once (first + k) (first + j) f a b in omega arith) m)).counted

  module _ (m : ℕ) (end : (k : ℕ) → m ≤ k → p k ≡ 0) where
    -- as many frames are held as entries name one
    pub count-named : count_held h ≡ used_below p m
    unfolding count_held
    count-named =
        let g = well n few p t.within t.once m in
        sum_same (held h) (held (marks_to n p m).held) 128 (marks-same n h (marks_to n p m).held p t (named-all n few p m end g))
        ∙ (good-marks n few p m g).counted

-- the entries in two parts
pub used-add : (p : ℕ → ℕ) (m n : ℕ) → used_below p (m + n) ≡ used_below p m + used_below (λ k. p (m + k)) n
unfolding used_below
used-add p m n = sum-add (λ k. used (p k)) m n

-- and in n parts of one size, as the table is in four sandboxes
pub used-parts : (p : ℕ → ℕ) (size n : ℕ) → used_below p (n * size) ≡ sum (λ part. used_below (λ k. p (part * size + k)) size) n
unfolding used_below sum
used-parts p size zero = ap (used_below p) (zero-mul size)
used-parts p size (suc n) =
    ap (used_below p) (suc-mul n size) ∙ used-add p (n * size) size ∙ ap (λ (x : ℕ). x + used_below (λ k. p (n * size + k)) size) (used-parts p size n)

-- ---- the test of a whole table

-- an entry past the end of the table names none
pub past_end : (t : List ℕ) → length t ≡ 512 → (k : ℕ) → 512 ≤ k → get_or t k 0 ≡ 0
past_end t e k l = get_or-eq_default t 0 (omega arith)

from_zero : (t : List ℕ) (k : ℕ) → from 0 t k ≡ get_or t k 0
from_zero t k = ap (λ (x : ℕ). get_or t x 0) (zero-add k)

module _ (n : ℕ) (h : Held) (t : List ℕ) (few : n ≤ 128) (e : length t ≡ 512) where
  abbrev found : Marks
  found = marks_to n (from 0 t) 512

  no_more : (k : ℕ) → 512 ≤ k → from 0 t k ≡ 0
  no_more k l = from_zero t k ∙ past_end t e k l

  -- the test says what `Named` says
  pub marksb-named : marksb n h t ≡ true → Named n h (λ k. get_or t k 0)
  unfolding marksb
  marksb-named w =
      let good : found.good ≡ true = and_left found.good (same_held found.held h) w in
      let same : found.held ≡ h = same-held-true found.held h (and_right found.good (same_held found.held h) w) in
      rw (← same) (named-same n found.held (from 0 t) (λ k. get_or t k 0) (from_zero t) (named-all n few (from 0 t) 512 no_more good))

  -- and the other way, of marks that are two words of 64 bits
  pub named-marksb : h.low < 2 ^ 64 → h.high < 2 ^ 64 → Named n h (λ k. get_or t k 0) → marksb n h t ≡ true
  unfolding marksb
  named-marksb a b w =
      let names = named-same n h (λ k. get_or t k 0) (from 0 t) (λ k. sym (from_zero t k)) w in
      let good : found.good ≡ true = well n few (from 0 t) names.within names.once 512 in
      let words = good-marks n few (from 0 t) 512 good in
      let same : found.held ≡ h =
      held-ext found.held h words.low words.high a b (marks-same n found.held h (from 0 t) (named-all n few (from 0 t) 512 no_more good) names) in
      and-of good (same-held-of found.held h same)

-- ---- the marks themselves

-- marks that pass are two words of 64 bits
pub words : (n : ℕ) (h : Held) (t : List ℕ) → n ≤ 128 → marksb n h t ≡ true → (h.low < 2 ^ 64) × (h.high < 2 ^ 64)
unfolding marksb
words n h t few m =
    let both = and_both (marks_to n (from 0 t) 512).good (same_held (marks_to n (from 0 t) 512).held h) m in
    let good = good-marks n few (from 0 t) 512 both.0 in
    rw (← same-held-true (marks_to n (from 0 t) 512).held h both.1) (good.low, good.high)
