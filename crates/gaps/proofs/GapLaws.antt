-- An unmap over gaps: the areas that it leaves, and its number.
use Prim.Native.Nat.{ℕ, zero, suc, ◌+◌, ◌-◌, ◌≤◌, ◌<◌}
use mathlib.Core.Path.{◌≡◌, refl, sym, ◌∙◌, fun_ext}
use mathlib.Core.Bool.{Bool, true, false, not, ◌&&◌, false≢true}
use mathlib.Core.List.{[], ◌∷◌}
use native.Mathlib.Omega.{arith}
use lib.Dec.{ltb, eqb}
use borrow.Author.Tests.{leb-true, le-leb, le-ltb, lt-ltb, eqb-true, eqb-false}
use Rattle.basics.specs.Choice.{◌when◌else◌, same}
use Rattle.basics.specs.Ranges.{one, count, every, inside, over}
use Rattle.basics.proofs.TestLaws.{by_cases, and_left, and_right, and-true, and-false, never, same_true}
use Rattle.basics.proofs.LoopLaws.{every-at, every-fails}
use Rattle.basics.proofs.RangeLaws.{inside-first, inside-end, inside-yes, inside-below, inside-none, over-in, over-out}
use Rattle.basics.proofs.CountLaws.{count-le, count_less, count-equal, count-pairs, count_none}
use Rattle.interface.specs.declared.page.Slot.{Slot}
use Rattle.interface.specs.declared.page.Slot.TheVariants.{Unmapped, Mapped}
use Rattle.interface.specs.declared.request.Request.{Request}
use Rattle.interface.specs.Requests.{unmap_code}
use Rattle.interface.specs.Slots.{Slots, is_mapped, follows, joins, previous, starts_area, areas, all_are}
use Rattle.interface.specs.Limits.{within}
use Rattle.interface.specs.Outcome.{slots_after}
use Rattle.interface.specs.Refusals.{View, all_mapped, slots_then, applies, refusal}
use Rattle.interface.specs.Settled.{Settled}
use Rattle.interface.specs.Examples.{call₂, in_sandbox}
use Rattle.gaps.specs.Gaps.{Unmaps, is_hole, unmap_of, unmaps_from, mapped_alone}
use Rattle.interface.specs.Edges.{full, eight}
use Rattle.interface.proofs.SlotLaws.{unmapped, Inside}
use Rattle.interface.proofs.KindLaws.{kind}
use Rattle.interface.proofs.ChargeLaws.{inside-part}
use Rattle.interface.proofs.RowLaws.{row-13}

-- ---- the mapped pages of a range, and holes, by computation

-- pages 0, 2 .. 14 are mapped: from a gap to a gap, from a mapped page to one, in the gap behind them, and of all 64 pages mapped
pub alone-cases :
    (mapped_alone (call₂ unmap_code 1 5) eight ≡ call₂ unmap_code 2 1 ∷ call₂ unmap_code 4 1 ∷ [])
    × (mapped_alone (in_sandbox 3 (call₂ unmap_code 12 3)) eight ≡ in_sandbox 3 (call₂ unmap_code 12 1) ∷ in_sandbox 3 (call₂ unmap_code 14 1) ∷ [])
    × (mapped_alone (call₂ unmap_code 15 49) eight ≡ [])
    × (mapped_alone (call₂ unmap_code 0 64) full ≡ call₂ unmap_code 0 64 ∷ [])
    × (mapped_alone (call₂ unmap_code 7 9) full ≡ call₂ unmap_code 7 9 ∷ [])
unfolding unmaps_from inside over
alone-cases = (refl, refl, refl, refl, refl)

-- of all 64 pages mapped and of pages 0, 2 .. 14: a page in the middle of an area, the first and the last, all but these, a whole area, a gap
pub hole-cases :
    (is_hole full 5 1 ≡ true)
    × (is_hole full 0 1 ≡ false)
    × (is_hole full 63 1 ≡ false)
    × (is_hole full 1 62 ≡ true)
    × (is_hole eight 2 1 ≡ false)
    × (is_hole eight 3 1 ≡ false)
unfolding is_hole every inside over joins follows
hole-cases = (refl, refl, refl, refl, refl, refl)

-- ---- slots with a range unmapped

-- the slots after an unmap of n pages from a on
abbrev pub without : ℕ → ℕ → Slots → Slots
without a n f = over a n (λ i. Unmapped) f

-- the pages of a range with none mapped
pub none_in : (f : Slots) (a n : ℕ) → all_are false f a n ≡ true → (i : ℕ) → inside a n i ≡ true → is_mapped (f i) ≡ false
none_in f a n h i t =
    sym (same_true false (is_mapped (f i)) (every-at (λ i. same false (is_mapped (f i))) a n h i (inside-first a n i t) (inside-end a n i t)))

pub without-none : (f : Slots) (a n : ℕ) → ((i : ℕ) → inside a n i ≡ true → is_mapped (f i) ≡ false) → without a n f ≡ f
without-none f a n h =
    fun_ext λ i. by_cases (inside a n i)
    (λ t. over-in a n (λ i. Unmapped) f i t ∙ sym (unmapped (f i) (h i t)))
    (λ t. over-out a n (λ i. Unmapped) f i t)

-- ---- areas

-- whether page i goes on with the area of the page before it
abbrev goes_on : Slots → ℕ → Bool
goes_on f i = joins (previous f i) (f i)

-- then it is mapped
goes-mapped : (x y : Slot) → joins x y ≡ true → is_mapped y ≡ true
unfolding joins
goes-mapped Unmapped y e = absurd (false≢true e)
goes-mapped (Mapped s) Unmapped e = e
goes-mapped (Mapped s) (Mapped t) e = refl

-- behind an unmapped page none does
behind-gap : (f : Slots) (i : ℕ) → is_mapped (f i) ≡ false → goes_on f (suc i) ≡ false
unfolding joins
behind-gap f i u = rw (unmapped (f i) u)

-- a hole ends before a mapped page
hole-end : (f : Slots) (a n : ℕ) → is_hole f a n ≡ true → is_mapped (f (a + n)) ≡ true
unfolding is_hole
hole-end f a n h = goes-mapped (previous f (a + n)) (f (a + n)) (every-at (goes_on f) a (suc n) h (a + n) (omega arith) (omega arith))

-- and has no unmapped page
gap-no-hole : (f : Slots) (a n i : ℕ) → inside a n i ≡ true → is_mapped (f i) ≡ false → is_hole f a n ≡ false
unfolding is_hole
gap-no-hole f a n i t u =
    by_cases (every (goes_on f) a (suc n))
    (λ h. let low = inside-first a n i t in
    let high = inside-end a n i t in
    never _ (goes-mapped (previous f i) (f i) (every-at (goes_on f) a (suc n) h i low (omega arith))) u)
    (λ h. h)

-- a mapped page goes on, or starts an area
starts-else : (m g : Bool) → (g ≡ true → m ≡ true) → one (m && true) ≡ one (m && not g) + one g
starts-else true true h = refl
starts-else true false h = refl
starts-else false true h = absurd (false≢true (h refl))
starts-else false false h = refl

module _ (f : Slots) (a n : ℕ) where
  -- the areas that start in the range, and the page behind it, if it goes on with an area: there one starts afterwards
  abbrev starts_in : ℕ → Bool
  starts_in i = inside a n i && starts_area f i

  abbrev cut_off : ℕ → Bool
  cut_off i = inside (a + n) 1 i && goes_on f i

  -- outside the range, the page before is as it was, but for the first page behind it
  previous-same : (i : ℕ) → (i ≡ a + n → ⊥) → inside a n i ≡ false → previous (without a n f) i ≡ previous f i
  previous-same zero d t = refl
  previous-same (suc i) d t =
      over-out a n (λ i. Unmapped) f i (by_cases (inside a n i)
      (λ y. never _ (inside-yes a n (suc i) (omega (arith, inside-first a n i y)) (omega (arith, inside-end a n i y, d))) t)
      (λ y. y))

  previous-gone : (i j : ℕ) → i ≡ suc j → inside a n j ≡ true → previous (without a n f) i ≡ Unmapped
  previous-gone i j e t = rw e (over-in a n (λ i. Unmapped) f j t)

  not_behind : (i : ℕ) → (i ≡ a + n → ⊥) → inside (a + n) 1 i ≡ false
  not_behind i d =
      by_cases (inside (a + n) 1 i) (λ y. absurd (omega (arith, d, inside-first (a + n) 1 i y, inside-end (a + n) 1 i y))) (λ y. y)

  -- page by page, the areas that start
  starts-at : 0 < n → (i : ℕ) → one (starts_area (without a n f) i) + one (starts_in i) ≡ one (starts_area f i) + one (cut_off i)
  unfolding joins
  starts-at some i =
      by_cases (inside a n i)
      (λ t. rw (over-in a n (λ i. Unmapped) f i t, t, inside-below (a + n) 1 i (inside-end a n i t)) (omega arith))
      (λ t. by_cases (eqb i (a + n))
      (λ e. let same = eqb-true i (a + n) e in
      let gone = previous-gone i (a + n - 1) (omega arith) (inside-yes a n (a + n - 1) (omega arith) (omega arith)) in
      rw (t, over-out a n (λ i. Unmapped) f i t, gone, inside-yes (a + n) 1 i (omega arith) (omega arith))
      (omega (arith, starts-else (is_mapped (f i)) (goes_on f i) (goes-mapped (previous f i) (f i)))))
      (λ e. let d = eqb-false i (a + n) e in rw (t, over-out a n (λ i. Unmapped) f i t, previous-same i d t, not_behind i d)))

  -- the areas that are left
  areas-left : 0 < n → areas (without a n f) + count starts_in 64 ≡ areas f + count cut_off 64
  unfolding areas
  areas-left some = count-pairs (starts_area (without a n f)) starts_in (starts_area f) cut_off 64 (starts-at some)

  cut-few : count cut_off 64 ≤ 1
  cut-few = omega (arith, count-le cut_off (inside (a + n) 1) 64 (λ i. and_left (inside (a + n) 1 i) (goes_on f i)), inside-part (a + n) 1 64)

  -- what is cut off is the page behind the range
  cut-is : (g : Bool) → goes_on f (a + n) ≡ g → (i : ℕ) → cut_off i ≡ (inside (a + n) 1 i && g)
  cut-is g e i =
      by_cases (inside (a + n) 1 i)
      (λ t. let same : i ≡ a + n = omega (arith, inside-first (a + n) 1 i t, inside-end (a + n) 1 i t) in rw (t, same, e))
      (λ t. rw t)

  -- no more areas are left than there were where the page behind the range starts an area or is unmapped
  fewer-not : 0 < n → goes_on f (a + n) ≡ false → areas (without a n f) ≤ areas f
  fewer-not some e =
      let none = count-le cut_off (λ i. false) 64 (λ i t. and_right (inside (a + n) 1 i) false (sym (cut-is false e i) ∙ t)) in
      omega (arith, areas-left some, none, count_none 64)

  -- nor where an area starts in the range
  fewer-start : a + n ≤ 64 → (k : ℕ) → inside a n k ≡ true → starts_area f k ≡ true → areas (without a n f) ≤ areas f
  fewer-start l k t s =
      let high = inside-end a n k t in
      let low = inside-first a n k t in
      let one-there = count_less (λ i. false) starts_in 64 k (λ i e. absurd (false≢true e)) (omega arith) refl (rw (t, s)) in
      omega (arith, areas-left (omega arith), cut-few, one-there, count_none 64)

  -- one of the two is so where some page of the range, or the page behind it, does not go on with an area
  fewer-from : a + n ≤ 64 → 0 < n → (d k : ℕ) → k + d ≡ a + n → a ≤ k → goes_on f k ≡ false → areas (without a n f) ≤ areas f
  fewer-from l some zero k e low h = let same : k ≡ a + n = omega arith in fewer-not some (rw same at h)
  fewer-from l some (suc d) k e low h =
      by_cases (is_mapped (f k))
      (λ m. fewer-start l k (inside-yes a n k low (omega arith)) (rw (m, h)))
      (λ m. fewer-from l some d (suc k) (omega arith) (omega arith) (behind-gap f k m))

  -- so an unmap that is no hole leaves no more areas
  fewer-unless-hole : a + n ≤ 64 → 0 < n → is_hole f a n ≡ false → areas (without a n f) ≤ areas f
  unfolding is_hole
  fewer-unless-hole l some h =
      let k = every-fails (goes_on f) a (suc n) h in
      fewer-from l some (a + n - k.0) k.0 (omega (arith, k.1, k.2)) k.1 k.3

  -- and a hole one more
  one_more : 0 < n → a + n < 64 → is_hole f a n ≡ true → areas (without a n f) ≡ areas f + 1
  unfolding is_hole
  one_more some l h =
      let all = every-at (goes_on f) a (suc n) h in
      let no_start = count-le starts_in (λ i. false) 64
      (λ i t. let range = and_left (inside a n i) (starts_area f i) t in
      let goes = all i (inside-first a n i range) (omega (arith, inside-end a n i range)) in
      let starts = and_right (inside a n i) (starts_area f i) t in
      rw goes at (and_right (is_mapped (f i)) (not (goes_on f i)) starts)) in
      let cut = count-equal cut_off (inside (a + n) 1) 64
      (λ i b. cut-is true (all (a + n) (omega arith) (omega arith)) i ∙ and-true (inside (a + n) 1 i)) in
      omega (arith, areas-left some, no_start, count_none 64, cut, inside-part (a + n) 1 64)

-- behind the range lies an unmapped page
pub fewer-before : (f : Slots) (a n : ℕ) → is_mapped (f (a + n)) ≡ false → areas (without a n f) ≤ areas f
fewer-before f a zero u = rw (without-none f a 0 (λ i t. never (inside a 0 i) t (inside-none a i))) (omega arith)
fewer-before f a (suc n) u =
    fewer-not f a (suc n) (omega arith)
    (by_cases (goes_on f (a + suc n)) (λ t. never _ (goes-mapped (previous f (a + suc n)) (f (a + suc n)) t) u) (λ t. t))

-- "more than 8 areas would result": an unmap of at most eight areas is a hole in one of eight
pub hole-areas : (f : Slots) → Inside f → areas f ≤ 8 → (a n : ℕ) → 0 < n → a + n ≤ 64
    → ltb 8 (areas (without a n f)) ≡ (eqb (areas f) 8 && is_hole f a n)
hole-areas f Within-64 few a n some l =
    by_cases (is_hole f a n)
    (λ h. let end = Within-64 (a + n) (hole-end f a n h) in
    rw (h, one_more f a n some end h, and-true (eqb (areas f) 8)) (nine (areas f) few))
    (λ h. rw (h, and-false (eqb (areas f) 8)) (le-ltb 8 (areas (without a n f)) (omega (arith, fewer-unless-hole f a n l some h))))
  where
    nine : (m : ℕ) → m ≤ 8 → ltb 8 (m + 1) ≡ eqb m 8
    nine m h =
        by_cases (eqb m 8) (λ e. rw e (lt-ltb 8 (m + 1) (omega (arith, eqb-true m 8 e))))
        (λ e. rw e (le-ltb 8 (m + 1) (omega (arith, eqb-false m 8 e))))

-- ---- the number

module _ (v : View) (q : Request) (sound : v.sound ≡ true) (s : Settled v) (u : Unmaps v q) where
  -- in a sound state only row 14 can apply
  pub unmap-number : refusal v q ≡ (14 when ltb 8 (areas (slots_then v q)) else 0)
  unfolding refusal applies all_mapped
  unmap-number =
      let e = u.called in
      let in_row = lt-ltb q.sandbox 4 u.row in
      let share = row-13 v s q (kind q) (rw e) (rw e) (rw e) (λ r. absurd (false≢true (rw e at r))) in
      rw (sound, in_row, u.opened, u.limits, share) (rw e)

  pub unmap-fits : q.p1 + q.p2 ≤ 64
  unfolding within
  unmap-fits = let w = rw u.called at u.limits in leb-true (q.p1 + q.p2) 64 (search (and_left, and_right))

  unmap-some : 0 < q.p2
  unfolding within
  unmap-some = let w = rw u.called at u.limits in leb-true 1 q.p2 (search (and_left, and_right))

  -- what would result
  pub unmap-then : slots_then v q ≡ without q.p1 q.p2 v.slots
  unfolding slots_after
  unmap-then = rw u.called

  pub unmap-accepted : areas (without q.p1 q.p2 v.slots) ≤ 8 → refusal v q ≡ 0
  unmap-accepted few = unmap-number ∙ rw (unmap-then, le-ltb 8 (areas (without q.p1 q.p2 v.slots)) few)

  -- and that where it is a hole in one of eight areas
  pub unmap-hole : Inside v.slots → refusal v q ≡ (14 when eqb (areas v.slots) 8 && is_hole v.slots q.p1 q.p2 else 0)
  unmap-hole inner = unmap-number ∙ rw (unmap-then, hole-areas v.slots inner s.few q.p1 q.p2 unmap-some unmap-fits)

  -- and not where it has an unmapped page
  pub unmap-over-gap : (i : ℕ) → inside q.p1 q.p2 i ≡ true → is_mapped (v.slots i) ≡ false → refusal v q ≡ 0
  unmap-over-gap i t m =
      unmap-accepted (omega (arith, s.few, fewer-unless-hole v.slots q.p1 q.p2 unmap-fits unmap-some (gap-no-hole v.slots q.p1 q.p2 i t m)))

-- pages of an open sandbox, none past page 63
pub unmaps-of : (v : View) (s a n : ℕ) → s < 4 → v.opened ≡ true → a + suc n ≤ 64 → Unmaps v (unmap_of s a (suc n))
unfolding within
unmaps-of v s a n row opened l = record {
  called = refl;
  row = row;
  opened = opened;
  limits = rw (lt-ltb a 64 (omega arith), le-leb 1 (suc n) (omega arith), le-leb (suc n) 64 (omega arith), le-leb (a + suc n) 64 l);
}
