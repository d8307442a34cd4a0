-- An unmap of a range does what unmaps of its mapped pages alone do. Said once, of any machine with a few laws of unmapping: of the plain one and of the
-- one that runs.
use Prim.Native.Nat.{ℕ, zero, suc, ◌+◌, ◌-◌, ◌≤◌}
use mathlib.Core.Path.{◌≡◌, refl, sym, ap, ◌∙◌}
use mathlib.Core.Bool.{true, false, ◌&&◌, ◌||◌}
use mathlib.Core.List.{List, [], ◌∷◌}
use native.Mathlib.Omega.{arith}
use native.Mathlib.Nat.{add-zero, zero-add}
use native.Mathlib.Numerals.{add-one}
use lib.Dec.{eqb}
use borrow.Author.Tests.{eqb-true, eqb-false}
use Rattle.basics.specs.Ranges.{inside}
use Rattle.basics.proofs.TestLaws.{by_cases, when-cases, never, both_ways}
use Rattle.basics.proofs.RangeLaws.{inside-first, inside-end, inside-yes, inside-below, inside_past, inside-none, inside-more, over-out, over-join}
use Rattle.interface.specs.declared.page.Slot.TheVariants.{Unmapped}
use Rattle.interface.specs.declared.request.Request.{Request}
use Rattle.interface.specs.Slots.{Slots, is_mapped, areas}
use Rattle.gaps.specs.Gaps.{unmap_of, with_run, unmaps_from, named, NamesMapped}
use Rattle.gaps.proofs.GapLaws.{without, without-none, fewer-before}

-- a machine whose sandbox s is unmapped page by page
pub record Unmapping (X : Type 0) (s : ℕ) : Type 1 where
  pub slots_of : X → Slots
  -- what the laws ask of a state: that it is sound, and the sandbox open
  pub Good : X → Type 0
  -- the state with n pages from a on unmapped
  pub unmapped : X → ℕ → ℕ → X
  -- the list is accepted throughout, with value 0, and leads from the one state to the other
  pub Leads : X → List Request → X → Type 0
  pub few : (x : X) → Good x → areas (slots_of x) ≤ 8
  -- a range with none mapped
  pub none : (x : X) → Good x → (a n : ℕ) → a + n ≤ 64 → ((i : ℕ) → inside a n i ≡ true → is_mapped (slots_of x i) ≡ false) → unmapped x a n ≡ x
  pub nil : (x : X) → Leads x [] x
  -- a range that leaves at most 8 areas
  pub fits : (x : X) → Good x → (a n : ℕ) → a + n ≤ 64 → areas (without a n (slots_of x)) ≤ 8 → Good (unmapped x a n)
  pub slots : (x : X) → Good x → (a n : ℕ) → a + n ≤ 64 → areas (without a n (slots_of x)) ≤ 8 → slots_of (unmapped x a n) ≡ without a n (slots_of x)
  pub join : (x : X) → Good x → (a n m : ℕ) → a + n ≤ 64 → areas (without a n (slots_of x)) ≤ 8
      → unmapped (unmapped x a n) (a + n) m ≡ unmapped x a (n + m)
  pub cons : (x y : X) → Good x → (a n : ℕ) → a + suc n ≤ 64 → areas (without a (suc n) (slots_of x)) ≤ 8 → (rest : List Request)
      → Leads (unmapped x a (suc n)) rest y → Leads x (unmap_of s a (suc n) ∷ rest) y

module _ {X : Type 0} (s : ℕ) (U : Unmapping X s) where
  -- the m pages from a on first, where there are any
  first : (m a : ℕ) (x y : X) → U.Good x → a + m ≤ 64 → areas (without a m (U.slots_of x)) ≤ 8 → (rest : List Request)
      → U.Leads (U.unmapped x a m) rest y → U.Leads x (with_run s m (a + m) rest) y
  first zero a x y g l few rest r =
      let same = U.none x g a 0 l (λ i t. never (inside a 0 i) t (inside-none a i)) in
      rw same at r
  first (suc m) a x y g l few rest r =
      let start : a + suc m - suc m ≡ a = omega arith in
      rw start (U.cons x y g a m l few rest r)

  -- page a + m, behind m pages, is a gap
  module _ (a m : ℕ) (x : X) (g : U.Good x) (l : a + m + 1 ≤ 64) (gap : is_mapped (U.slots_of x (a + m)) ≡ false) where
    few-first : areas (without a m (U.slots_of x)) ≤ 8
    few-first = omega (arith, U.few x g, fewer-before (U.slots_of x) a m gap)

    abbrev next : X
    next = U.unmapped x a m

    next-good : U.Good next
    next-good = U.fits x g a m (omega arith) few-first

    next-slots : U.slots_of next ≡ without a m (U.slots_of x)
    next-slots = U.slots x g a m (omega arith) few-first

    still : (i : ℕ) → inside (a + m) 1 i ≡ true → is_mapped (without a m (U.slots_of x) i) ≡ false
    still i t =
        let e : i ≡ a + m = omega (arith, inside-first (a + m) 1 i t, inside-end (a + m) 1 i t) in
        rw (e, over-out a m (λ i. Unmapped) (U.slots_of x) (a + m) (inside_past a m (a + m) (omega arith))) gap

    -- the n pages behind the gap, and all from a on
    slots-over : (n : ℕ) → without (a + m + 1) n (U.slots_of next) ≡ without a (m + (1 + n)) (U.slots_of x)
    slots-over n =
        let f = U.slots_of x in
        rw next-slots
        (ap (without (a + m + 1) n) (sym (without-none (without a m f) (a + m) 1 still))
        ∙ over-join (a + m) 1 n (λ i. Unmapped) (without a m f)
        ∙ over-join a m (1 + n) (λ i. Unmapped) f)

    all-over : (n : ℕ) → U.unmapped next (a + m + 1) n ≡ U.unmapped x a (m + (1 + n))
    all-over n =
        let idle : U.unmapped next (a + m) 1 ≡ next = U.none next next-good (a + m) 1 l (rw next-slots still) in
        let few-one : areas (without (a + m) 1 (U.slots_of next)) ≤ 8 =
        rw (without-none (U.slots_of next) (a + m) 1 (rw next-slots still)) (U.few next next-good) in
        ap (λ (z : X). U.unmapped z (a + m + 1) n) (sym idle)
        ∙ U.join next next-good (a + m) 1 n l few-one
        ∙ U.join x g a m (1 + n) (omega arith) few-first

    -- the pages behind the gap are as they were
    behind : (f : Slots) → ((j : ℕ) → a + m ≤ j → U.slots_of x j ≡ f j) → (j : ℕ) → a + m + 1 + 0 ≤ j → U.slots_of next j ≡ f j
    behind f same j b =
        ap (λ (h : Slots). h j) next-slots ∙ over-out a m (λ i. Unmapped) (U.slots_of x) j (inside_past a m j (omega arith)) ∙ same j (omega arith)

  -- the m pages from a on are mapped and not yet unmapped, and n pages are left behind them
  alone-from : (f : Slots) (n m a : ℕ) (x : X) → U.Good x → ((j : ℕ) → a + m ≤ j → U.slots_of x j ≡ f j) → a + m + n ≤ 64
      → areas (without a (m + n) (U.slots_of x)) ≤ 8 → U.Leads x (unmaps_from s f m (a + m) n) (U.unmapped x a (m + n))
  unfolding unmaps_from
  alone-from f zero m a x g same l few =
      rw (add-zero m) (first m a x (U.unmapped x a m) g (omega arith) (rw (add-zero m) at few) [] (U.nil (U.unmapped x a m)))
  alone-from f (suc n) m a x g same l few =
      when-cases (λ (qs : List Request). U.Leads x qs (U.unmapped x a (m + suc n))) (is_mapped (f (a + m)))
      (λ t. let place : suc (a + m) ≡ a + suc m = omega arith in
      let pages : m + suc n ≡ suc m + n = omega arith in
      rw (place, pages) (alone-from f n (suc m) a x g (λ j b. same j (omega arith)) (omega arith) (rw pages at few)))
      (λ t. let gap : is_mapped (U.slots_of x (a + m)) ≡ false = rw (same (a + m) (omega arith)) t in
      let end : a + m + 1 ≤ 64 = omega arith in
      let place : suc (a + m) ≡ a + m + 1 + 0 = omega arith in
      let pages : m + suc n ≡ m + (1 + n) = omega arith in
      let few-left : areas (without (a + m + 1) (0 + n) (U.slots_of (U.unmapped x a m))) ≤ 8 =
      rw (zero-add n, slots-over a m x g end gap n) (rw pages at few) in
      let left = alone-from f n 0 (a + m + 1) (U.unmapped x a m) (next-good a m x g end gap) (behind a m x g end gap f same) (omega arith) few-left in
      rw (place, pages) (first m a x (U.unmapped x a (m + (1 + n))) g (omega arith) (few-first a m x g end gap) _
      (rw (zero-add n, all-over a m x g end gap n) at left)))

  -- a whole range
  pub alone : (x : X) → U.Good x → (a n : ℕ) → a + n ≤ 64 → areas (without a n (U.slots_of x)) ≤ 8
      → U.Leads x (unmaps_from s (U.slots_of x) 0 a n) (U.unmapped x a n)
  alone x g a n l few =
      rw (add-zero a, zero-add n) at (alone-from (U.slots_of x) n 0 a x g (λ j b. refl) (omega arith) (rw (zero-add n) few))

-- ---- the pages that they name

-- a page that is not the first is as much inside without that page
inside-behind : (a n i : ℕ) → (i ≡ a → ⊥) → inside (suc a) n i ≡ inside a (suc n) i
inside-behind a n i d =
    both_ways (inside (suc a) n i) (inside a (suc n) i)
    (λ t. inside-yes a (suc n) i (omega (arith, inside-first (suc a) n i t)) (omega (arith, inside-end (suc a) n i t)))
    (λ t. inside-yes (suc a) n i (omega (arith, inside-first a (suc n) i t, d)) (omega (arith, inside-end a (suc n) i t)))

-- the page behind the m pages from a on goes on with their run, or is in none
module _ (f : Slots) (a m n i : ℕ) where
  in-run : is_mapped (f (a + m)) ≡ true
      → (inside a (suc m) i || (inside (suc (a + m)) n i && is_mapped (f i))) ≡ (inside a m i || (inside (a + m) (suc n) i && is_mapped (f i)))
  in-run t =
      by_cases (eqb i (a + m))
      (λ e. let same = eqb-true i (a + m) e in
      let mapped : is_mapped (f i) ≡ true = rw same t in
      let here = inside-yes (a + m) (suc n) i (omega arith) (omega arith) in
      rw (mapped, inside-yes a (suc m) i (omega arith) (omega arith), inside_past a m i (omega arith), here))
      (λ e. let d = eqb-false i (a + m) e in
      let shorter = rw (add-one m) at (inside-more a m i d) in
      rw (shorter, inside-behind (a + m) n i d))

  in-none : is_mapped (f (a + m)) ≡ false → (inside (suc (a + m)) n i && is_mapped (f i)) ≡ (inside (a + m) (suc n) i && is_mapped (f i))
  in-none t =
      by_cases (eqb i (a + m))
      (λ e. let same = eqb-true i (a + m) e in
      let gap : is_mapped (f i) ≡ false = rw same t in
      rw (gap, inside-below (suc (a + m)) n i (omega arith), inside-yes (a + m) (suc n) i (omega arith) (omega arith)))
      (λ e. rw (inside-behind (a + m) n i (eqb-false i (a + m) e)))

module _ (s : ℕ) (f : Slots) where
  named-first : (m a : ℕ) (rest : List Request) (i : ℕ) → named (with_run s m (a + m) rest) i ≡ (inside a m i || named rest i)
  named-first zero a rest i = rw (inside-none a i)
  named-first (suc m) a rest i = let start : a + suc m - suc m ≡ a = omega arith in rw start

  named-from : (n m a i : ℕ) → named (unmaps_from s f m (a + m) n) i ≡ (inside a m i || (inside (a + m) n i && is_mapped (f i)))
  unfolding unmaps_from
  named-from zero m a i = named-first m a [] i ∙ rw (inside-none (a + m) i)
  named-from (suc n) m a i =
      let place : suc (a + m) ≡ a + suc m = omega arith in
      let all = inside a m i || (inside (a + m) (suc n) i && is_mapped (f i)) in
      when-cases (λ (qs : List Request). named qs i ≡ all) (is_mapped (f (a + m)))
      (λ t. let left = rw (← place) at (named-from n (suc m) a i) in left ∙ in-run f a m n i t)
      (λ t. let left = rw (add-zero (suc (a + m)), inside-none (suc (a + m)) i) at (named-from n 0 (suc (a + m)) i) in
      named-first m a (unmaps_from s f 0 (suc (a + m)) n) i ∙ rw (left, in-none f a m n i t))

pub names-mapped : NamesMapped
names-mapped q f i =
    let from = named-from q.sandbox f q.p2 0 q.p1 i in
    rw (add-zero q.p1, inside-none q.p1 i) at from
