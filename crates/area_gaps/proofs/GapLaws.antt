-- The lowest gap, found along the areas: no gap starts between the end of one area and that of the next, if it does not fit between them.
use Prim.Native.Nat.{ℕ, zero, suc, ◌+◌, ◌-◌, ◌≤◌, ◌<◌}
use mathlib.Core.Path.{◌≡◌, refl, sym, ◌∙◌}
use mathlib.Core.Bool.{Bool, true, false, false≢true}
use native.Mathlib.Omega.{arith}
use native.Mathlib.Decide.{dec_lt}
use lib.Dec.{leb}
use mathlib.Core.List.{List}
use lib.ListN.{length, get_or, take}
use borrow.Author.Tests.{le-leb, lt-leb}
use Rattle.basics.specs.Ranges.{lowest}
use Rattle.basics.proofs.TestLaws.{by_cases, and_right, and-of}
use Rattle.basics.proofs.LoopLaws.{every-at, every_of, lowest-next, lowest-stop, lowest-end, lowest-none}
use Rattle.interface.specs.Slots.{Slots, is_mapped, all_are, gap_at, lowest_gap}
use Rattle.areas.specs.declared.area.Area.{Area}
use Rattle.areas.specs.declared.area.Areas.{Areas}
use Rattle.areas.specs.Areas.{none, slots}
use Rattle.areas.specs.Walk.{Formed}
use Rattle.areas.proofs.WalkLaws.{end_of, Before, before-start, before-gap, before-area, before_last, before-next, held-length, held-at}

-- numbers that do not pass are passed over
lowest-skip : (P : ℕ → Bool) (e a d : ℕ) → a + d ≤ e → ((i : ℕ) → a ≤ i → i < a + d → P i ≡ false) → lowest P a (e - a) ≡ lowest P (a + d) (e - (a + d))
lowest-skip P e a zero h f = let z : a + zero ≡ a = omega arith in rw z
lowest-skip P e a (suc d) h f =
    let z : a + suc d ≡ a + d + 1 = omega arith in
    rw z (lowest-skip P e a d (omega arith) (λ i l u. f i l (omega arith)) ∙ lowest-next P e (a + d) (omega arith) (f (a + d) (omega arith) (omega arith)))

-- a gap fits where so many pages are left and unmapped, and not where one of them is mapped
gap-fits : (f : Slots) (n page : ℕ) → n ≤ 64 - page → ((i : ℕ) → page ≤ i → i < page + n → is_mapped (f i) ≡ false) → gap_at f n page ≡ true
gap-fits f n page l h = and-of (le-leb n (64 - page) l) (every_of _ page n (λ i a b. rw (h i a b)))

gap-met : (f : Slots) (n page i : ℕ) → page ≤ i → i < page + n → is_mapped (f i) ≡ true → gap_at f n page ≡ false
gap-met f n page i a b m =
    by_cases (gap_at f n page)
    (λ e. absurd (false≢true (rw m at (every-at _ page n (and_right (leb n (64 - page)) (all_are false f page n) e) i a b))))
    (λ e. e)

-- the walk has come to a page before which no gap starts
pub record Sought (s : Areas) (n k page : ℕ) : Type 0 where
  pub there : Before s k page
  pub rest : lowest_gap (slots s) n ≡ lowest (gap_at (slots s) n) page (64 - page)

pub sought-start : (s : Areas) (n : ℕ) → Sought s n 0 0
unfolding lowest_gap
sought-start s n = record { there = before-start s; rest = refl }

module _ (s : Areas) (F : Formed s) (n k page : ℕ) (r : Sought s n k page) where
  abbrev at : ℕ → Area
  at k = get_or s.list k none

  abbrev gap : ℕ → Bool
  gap i = gap_at (slots s) n i

  -- it fits at the page
  stops : n ≤ 64 - page → ((i : ℕ) → page ≤ i → i < page + n → is_mapped (slots s i) ≡ false) → page ≡ lowest_gap (slots s) n
  stops l h = sym (r.rest ∙ go (dec_lt page 64))
    where
      go : Dec (page < 64) → lowest gap page (64 - page) ≡ page
      go (yes d) = lowest-stop gap 64 page d (gap-fits (slots s) n page l h)
      go (no d) = lowest-end gap 64 page (omega arith)

  module _ (d : k < s.count) where
    -- before the area
    pub gap-before : n ≤ (at k).first.0 - page → page ≡ lowest_gap (slots s) n
    gap-before l =
        let p = F.formed.each k d in
        stops (omega (arith, p.inside)) (λ i a b. rw (before-gap s F k page r.there d i a (omega arith)))

    -- the area's pages are mapped
    area-mapped : (i : ℕ) → (at k).first.0 ≤ i → i < end_of s k → is_mapped (slots s i) ≡ true
    area-mapped i l u = rw (before-area s F k page r.there d i l u)

    -- it fits neither before the area nor in it
    pub gap-behind : (at k).first.0 - page < n → Sought s n (k + 1) (end_of s k)
    gap-behind l =
        let ahead : page ≤ (at k).first.0 = r.there.ahead k (omega arith) d in
        let p = F.formed.each k d in
        let e : page + (end_of s k - page) ≡ end_of s k = omega arith in
        record {
          there = before-next s F k page r.there d;
          rest = r.rest ∙ rw e at (lowest-skip gap 64 page (end_of s k - page) (omega arith) (λ i a b. met i a (omega arith) (dec_lt i (at k).first.0)));
        }
      where
        met : (i : ℕ) → page ≤ i → i < end_of s k → Dec (i < (at k).first.0) → gap i ≡ false
        met i a b (yes c) =
            gap-met (slots s) n i (at k).first.0 (omega arith) (omega arith)
            (area-mapped (at k).first.0 (omega arith) (omega (arith, (F.formed.each k d).some)))
        met i a b (no c) = gap-met (slots s) n i i (omega arith) (omega arith) (area-mapped i (omega arith) b)

  -- the same, of the areas that it holds
  module _ (l : List Area) (e : l ≡ take s.count s.list) (d : k < length l) where
    there-is : get_or l k none ≡ at k
    there-is = held-at s F l e k d

    inside-count : k < s.count
    inside-count = omega (arith, held-length s F l e)

    pub held-before : n ≤ (get_or l k none).first.0 - page → page ≡ lowest_gap (slots s) n
    held-before h = gap-before inside-count (rw there-is at h)

    pub held-behind : (get_or l k none).first.0 - page < n
        → Sought s n (k + 1) ((get_or l k none).first.0 + (get_or l k none).pages)
    held-behind h = rw there-is (gap-behind inside-count (rw there-is at h))

  module _ (d : s.count ≤ k) where
    -- behind the last area
    pub gap-last : n ≤ 64 - page → page ≡ lowest_gap (slots s) n
    gap-last l = stops l (λ i a b. rw (before_last s F k page r.there d i a))

    pub gap-none : 64 - page < n → 64 ≡ lowest_gap (slots s) n
    gap-none l =
        let e : page + (64 - page) ≡ 64 = omega (arith, r.there.small) in
        sym (r.rest ∙ lowest-none gap page (64 - page) (λ i a b. short i a) ∙ e)
      where
        short : (i : ℕ) → page ≤ i → gap i ≡ false
        short i a = rw (lt-leb n (64 - i) (omega arith))
