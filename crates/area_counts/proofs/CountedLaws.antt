-- Pages counted area by area are the pages counted one by one.
use Prim.Native.Nat.{ℕ, zero, suc, ◌+◌, ◌-◌, ◌≤◌, ◌<◌}
use mathlib.Core.Path.{◌≡◌, refl}
use mathlib.Core.Bool.{Bool, true, false, not, ◌||◌}
use native.Mathlib.Omega.{arith}
use native.Mathlib.Decide.{dec_lt}
use mathlib.Core.List.{List}
use lib.ListN.{length, get_or, take}
use Rattle.basics.specs.Choice.{◌when◌else◌}
use Rattle.basics.specs.Ranges.{count}
use Rattle.basics.proofs.CountLaws.{count_small}
use Rattle.interface.specs.declared.page.Slot.TheVariants.{Unmapped}
use Rattle.areas.specs.declared.area.Area.{Area}
use Rattle.areas.specs.declared.area.Areas.{Areas}
use Rattle.areas.specs.Areas.{none, slot_of, slots}
use Rattle.areas.specs.Walk.{Formed}
use Rattle.areas.proofs.WalkLaws.{end_of, Before, before-start, before-gap, before-area, before_last, before-next, before-none, held-at}
use Rattle.area_counts.specs.Counts.{counts, counted_pages}

-- a run of numbers of which all pass, or none
pub count-run : (p : ℕ → Bool) (a n : ℕ) (b : Bool) → ((i : ℕ) → a ≤ i → i < a + n → p i ≡ b) → count p (a + n) ≡ count p a + (n when b else 0)
unfolding count
count-run p a zero true h = let e : a + zero ≡ a = omega arith in rw e (omega arith)
count-run p a zero false h = let e : a + zero ≡ a = omega arith in rw e (omega arith)
count-run p a (suc n) true h =
    let e : a + suc n ≡ suc (a + n) = omega arith in
    rw (e, h (a + n) (omega arith) (omega arith)) (omega (arith, count-run p a n true (λ i l u. h i l (omega arith))))
count-run p a (suc n) false h =
    let e : a + suc n ≡ suc (a + n) = omega arith in
    rw (e, h (a + n) (omega arith) (omega arith)) (omega (arith, count-run p a n false (λ i l u. h i l (omega arith))))

none-counted : (c : Bool) → counted_pages c none ≡ 0
none-counted true = refl
none-counted false = refl

area-counts : (c : Bool) (a : Area) (page : ℕ) → counts c (slot_of a page) ≡ (c || not a.committed)
area-counts true a page = refl
area-counts false a page = refl

unmapped-counts : (c : Bool) → counts c Unmapped ≡ false
unmapped-counts true = refl
unmapped-counts false = refl

-- n pages count among those below a page, at which the areas before place k have ended and the others have not begun
pub record Counted (s : Areas) (c : Bool) (k n : ℕ) : Type 0 where
  pub page : ℕ
  pub there : Before s k page
  pub counted : n ≡ count (λ i. counts c (slots s i)) page

pub counted-small : (s : Areas) (c : Bool) (k n : ℕ) → Counted s c k n → n ≤ 64
counted-small s c k n r = omega (arith, r.counted, count_small (λ i. counts c (slots s i)) r.page, r.there.small)

pub counted_start : (s : Areas) (c : Bool) → Counted s c 0 0
unfolding count
counted_start s c = record { page = 0; there = before-start s; counted = refl }

module _ (s : Areas) (F : Formed s) (c : Bool) where
  abbrev at : ℕ → Area
  at k = get_or s.list k none

  abbrev passes : ℕ → Bool
  passes i = counts c (slots s i)

  pub counted_next : (k n : ℕ) → Counted s c k n → Counted s c (k + 1) (n + counted_pages c (at k))
  counted_next k n r = go (dec_lt k s.count)
    where
      go : Dec (k < s.count) → Counted s c (k + 1) (n + counted_pages c (at k))
      go (no d) = record {
        page = r.page;
        there = before-none s F k r.page r.there (omega arith);
        counted = rw (F.formed.rest k (omega arith), none-counted c) (omega (arith, r.counted));
      }
      go (yes d) =
          let first : ℕ = (at k).first.0 in
          let ahead : r.page ≤ first = r.there.ahead k (omega arith) d in
          let gap : (i : ℕ) → r.page ≤ i → i < r.page + (first - r.page) → passes i ≡ false =
          λ i l u. rw (before-gap s F k r.page r.there d i l (omega arith)) (unmapped-counts c) in
          let area : (i : ℕ) → first ≤ i → i < first + (at k).pages → passes i ≡ (c || not (at k).committed) =
          λ i l u.
          rw (before-area s F k r.page r.there d i l u) (area-counts c (at k) i) in
          let x = count-run passes r.page (first - r.page) false gap in
          let y = count-run passes first (at k).pages (c || not (at k).committed) area in
          let e : r.page + (first - r.page) ≡ first = omega arith in
          record { page = end_of s k; there = before-next s F k r.page r.there d; counted = omega (arith, r.counted, y, rw e at x) }

  -- the same, of the areas that it holds
  pub counted-on : (l : List Area) → l ≡ take s.count s.list → (k n m : ℕ) → k < length l → m ≡ counted_pages c (get_or l k none)
      → Counted s c k n → Counted s c (k + 1) (n + m)
  counted-on l e k n m d h r = rw (h, held-at s F l e k d) (counted_next k n r)

  -- behind the last area nothing more counts
  pub counted-all : (k n : ℕ) → s.count ≤ k → Counted s c k n → n ≡ count passes 64
  counted-all k n d r =
      let gap : (i : ℕ) → r.page ≤ i → i < r.page + (64 - r.page) → passes i ≡ false =
      λ i l u. rw (before_last s F k r.page r.there d i l) (unmapped-counts c) in
      let e : r.page + (64 - r.page) ≡ 64 = omega (arith, r.there.small) in
      omega (arith, r.counted, rw e at (count-run passes r.page (64 - r.page) false gap))
