-- A rewind area by area is the rewind page by page: a committed area keeps its fronts, and all pages between two such areas give theirs up. The changed pages
-- of the areas are those of all pages.
use Prim.Native.Nat.{ℕ, ◌+◌, ◌-◌, ◌*◌, ◌≤◌, ◌<◌}
use mathlib.Core.Path.{◌≡◌, sym, ap, ◌∙◌}
use mathlib.Core.Bool.{Bool, true, false}
use mathlib.Core.List.{List}
use native.Mathlib.Omega.{arith}
use native.Mathlib.Decide.{dec_lt}
use lib.ListN.{length, get_or}
use Rattle.basics.specs.Choice.{◌when◌else◌}
use Rattle.basics.proofs.TestLaws.{by_cases}
use Rattle.interface.specs.declared.page.Backing.{Backing}
use Rattle.interface.specs.declared.page.Backing.TheVariants.{Anonymous, Image}
use Rattle.interface.specs.Numbers.{pages_in}
use Rattle.interface.specs.Slots.{is_committed, backing_at, advance}
use Rattle.table.specs.Store.{Store, front_of, Ranged, free_to}
use Rattle.table.proofs.FreeLaws.{Kept, unchanged-kept, kept-twice, free_to-kept}
use Rattle.rewind_cases.specs.Rewind.{rewind_to}
use Rattle.rewound_store.proofs.RunLaws.{rewind_to-kept, rewind_to-join, rewind_to-same, rewind_to-free}
use Rattle.areas.specs.declared.area.Area.{Area}
use Rattle.areas.specs.declared.area.Areas.{Areas}
use Rattle.areas.specs.Areas.{none, slots, slot_of}
use Rattle.areas.specs.Formed.{ImagesExist, WellFormed}
use Rattle.areas.specs.Walk.{Formed}
use Rattle.areas.proofs.FewAreas.{area-slot}
use Rattle.areas.proofs.WalkLaws.{settled, end_of, Before, before-start, before-gap, before-next, before_last}
use Rattle.restoring.specs.Backed.{Backed}
use Rattle.restoring.specs.Changed.{changed_to}
use Rattle.restoring.proofs.ChangedLaws.{changed-join, changed-alike, changed-freed}
use Rattle.area_rewind.specs.AreaRewound.{area_rewound, area_changed}

-- which pages keep their fronts, and what each starts with, as the present areas say it
abbrev pub keeps : Areas → ℕ → Bool
keeps present i = is_committed (slots present i)

abbrev pub backings : Areas → ℕ → Backing
backings present i = backing_at (slots present i)

-- at place k, the pages from this one on up to the next area are still to be rewound, and none of them keeps its front
pub record Left (present : Areas) (k page : ℕ) : Type 0 where
  pub next : ℕ
  pub there : Before present k next
  pub low : page ≤ next
  pub idle : (i : ℕ) → page ≤ i → i < next → keeps present i ≡ false

pub left-start : (present : Areas) → Left present 0 0
left-start present = record { next = 0; there = before-start present; low = omega arith; idle = λ i d u. absurd (omega arith) }

module _ (image : List ℕ) (few : pages_in (length image) ≤ 64) (present : Areas) (w : WellFormed (pages_in (length image)) present) where
  abbrev F : Formed present
  F = settled (pages_in (length image)) present w few

  abbrev at : ℕ → Area
  at k = get_or present.list k none

  -- the image has the pages of an area
  pub backed-area : (k : ℕ) → k < present.count → Backed image (at k).backing (at k).pages
  backed-area k l = go (at k).backing (w.each k l).image (w.each k l).inside
    where
      go : (b : Backing) → ImagesExist (pages_in (length image)) b (at k).pages → (at k).first.0 + (at k).pages ≤ 64 → Backed image b (at k).pages
      go Anonymous e d = record { near = omega arith; there = λ i u. omega arith }
      go (Image p) e d = record { near = omega arith; there = λ i u. omega arith }

  -- what stands at a page of an area
  of-area : (k : ℕ) → k < present.count → (i : ℕ) → i < (at k).pages → slots present ((at k).first.0 + i) ≡ slot_of (at k) ((at k).first.0 + i)
  of-area k l i u = area-slot (pages_in (length image)) present w ((at k).first.0 + i) k l (omega arith) (omega arith)

  module _ (k page : ℕ) (L : Left present k page) where
    -- the pages before the next area
    pub left-first : k < present.count → page ≤ (at k).first.0
    left-first l = omega (arith, L.low, L.there.ahead k (omega arith) l)

    left-before : k < present.count → (i : ℕ) → page ≤ i → i < (at k).first.0 → keeps present i ≡ false
    left-before l i d u = go (dec_lt i L.next)
      where
        go : Dec (i < L.next) → keeps present i ≡ false
        go (yes b) = L.idle i d b
        go (no b) = rw (before-gap present F k L.next L.there l i (omega arith) u)

    -- and those behind the last one
    left-last : present.count ≤ k → (i : ℕ) → page ≤ i → keeps present i ≡ false
    left-last l i d = go (dec_lt i L.next)
      where
        go : Dec (i < L.next) → keeps present i ≡ false
        go (yes b) = L.idle i d b
        go (no b) = rw (before_last present F k L.next L.there l i (omega arith))

    -- an area that is not committed comes to them
    left_passed : k < present.count → (at k).committed ≡ false → Left present (k + 1) page
    left_passed l e = record {
      next = end_of present k;
      there = before-next present F k L.next L.there l;
      low = omega (arith, left-first l);
      idle = λ i d u. go i d u (dec_lt i (at k).first.0);
    }
      where
        go : (i : ℕ) → page ≤ i → i < end_of present k → Dec (i < (at k).first.0) → keeps present i ≡ false
        go i d u (yes b) = left-before l i d b
        go i d u (no b) = rw (area-slot (pages_in (length image)) present w i k l (omega arith) u) e

    -- behind one that is committed there are none
    left-done : k < present.count → Left present (k + 1) (end_of present k)
    left-done l = record {
      next = end_of present k;
      there = before-next present F k L.next L.there l;
      low = omega arith;
      idle = λ i d u. absurd (omega arith);
    }

  -- ---- the store

  module _ (s : ℕ) (st : Store) where
    -- the first pages are rewound
    abbrev pub up_to : ℕ → Store
    up_to n = rewind_to image (s * 128) (keeps present) (backings present) st n

    -- pages that keep no front
    over-gap : (page end : ℕ) → page ≤ end → ((i : ℕ) → page ≤ i → i < end → keeps present i ≡ false)
        → free_to 256 (front_of s page) (up_to page) (end - page) ≡ up_to end
    over-gap page end d h =
        let e : page + (end - page) ≡ end = omega arith in
        sym (rewind_to-free image (s * 128 + page) (λ i. keeps present (page + i)) (λ i. backings present (page + i)) (up_to page) (end - page)
        (λ i l. h (page + i) (omega arith) (omega arith)))
        ∙ rewind_to-join image (s * 128) (keeps present) (backings present) st page (end - page)
        ∙ ap up_to e

    -- what the present areas say of the pages of a committed one
    as-area : (k : ℕ) → k < present.count → (at k).committed ≡ true → (i : ℕ) → i < (at k).pages → let first = (at k).first.0 in
        (true ≡ keeps present (first + i)) × (true ≡ true → advance (at k).backing i ≡ backings present (first + i))
    as-area k l c i u =
        let first : ℕ = (at k).first.0 in
        let on : first + i - first ≡ i = omega arith in
        (rw (of-area k l i u) (sym c), λ _. rw (of-area k l i u, on))

    -- those of a committed area
    over-area : (k : ℕ) → k < present.count → (at k).committed ≡ true
        → rewind_to image (front_of s (at k).first.0) (λ i. true) (advance (at k).backing) (up_to (at k).first.0) (at k).pages
        ≡ up_to (end_of present k)
    over-area k l c =
        let first : ℕ = (at k).first.0 in
        rewind_to-same image (s * 128 + first) (λ i. true) (advance (at k).backing) (up_to first) (λ i. keeps present (first + i))
        (λ i. backings present (first + i)) (at k).pages (as-area k l c)
        ∙ rewind_to-join image (s * 128) (keeps present) (backings present) st first (at k).pages

    -- the pages found changed among the first
    abbrev pub count_to : ℕ → ℕ
    count_to n = changed_to image (s * 128) (keeps present) (backings present) st n

    -- none in a gap
    count-gap : (page end : ℕ) → page ≤ end → ((i : ℕ) → page ≤ i → i < end → keeps present i ≡ false) → count_to page ≡ count_to end
    count-gap page end d h =
        let e : page + (end - page) ≡ end = omega arith in
        let none =
        changed-freed image (s * 128 + page) (λ i. keeps present (page + i)) (λ i. backings present (page + i)) (up_to page) (end - page)
        (λ i l. h (page + i) (omega arith) (omega arith)) in
        let all = changed-join image (s * 128) (keeps present) (backings present) st page (end - page) in
        let sum : count_to page ≡ count_to (page + (end - page)) = omega (arith, none, all) in
        rw e at sum

    -- those of a committed area
    count-area : (k : ℕ) → k < present.count → (at k).committed ≡ true
        → count_to (at k).first.0
        + changed_to image (front_of s (at k).first.0) (λ i. true) (advance (at k).backing) (up_to (at k).first.0) (at k).pages
        ≡ count_to (end_of present k)
    count-area k l c =
        let first : ℕ = (at k).first.0 in
        ap (λ (n : ℕ). count_to first + n)
        (changed-alike image (s * 128 + first) (λ i. true) (advance (at k).backing) (up_to first) (λ i. keeps present (first + i))
        (λ i. backings present (first + i)) (at k).pages (as-area k l c))
        ∙ changed-join image (s * 128) (keeps present) (backings present) st first (at k).pages

    module _ (k page : ℕ) (L : Left present k page) where
      -- an area more: what is left, and what is found
      pub area-more : k < present.count → (before q : Store) (r c d : ℕ) → before ≡ up_to page → c ≡ count_to page
          → q ≡ (area_rewound image s (at k) page before when (at k).committed else before) → r ≡ (end_of present k when (at k).committed else page)
          → d ≡ (c + area_changed image s (at k) page before when (at k).committed else c) → (q ≡ up_to r) × (d ≡ count_to r) × Left present (k + 1) r
      area-more l before q r c d b n e f g =
          by_cases (at k).committed
          (λ t. let at-end : r ≡ end_of present k = f ∙ rw t in
          let gap = over-gap page (at k).first.0 (left-first k page L l) (left-before k page L l) in
          let none = count-gap page (at k).first.0 (left-first k page L l) (left-before k page L l) in
          rw at-end (e ∙ rw (t, b, gap) (over-area k l t), g ∙ rw (t, n, b, gap, none) (count-area k l t), left-done k page L l))
          (λ t. let same : r ≡ page = f ∙ rw t in
          rw same (e ∙ rw (t, b), g ∙ rw (t, n), left_passed k page L l t))

      -- behind the last
      pub area-last : present.count ≤ k → page ≤ 64 → free_to 256 (front_of s page) (up_to page) (64 - page) ≡ up_to 64
      area-last l d = over-gap page 64 d (λ i g u. left-last k page L l i g)

      pub count-last : present.count ≤ k → page ≤ 64 → count_to page ≡ count_to 64
      count-last l d = count-gap page 64 d (λ i g u. left-last k page L l i g)

  -- what is carried along
  pub area-kept : (s k page : ℕ) (before q : Store) → k < present.count
      → q ≡ (area_rewound image s (at k) page before when (at k).committed else before) → Ranged 256 before.pool before.table → Kept 256 before q
  area-kept s k page before q l e g =
      by_cases (at k).committed
      (λ c. let n : ℕ = (at k).first.0 - page in
      let freed : Store = free_to 256 (front_of s page) before n in
      let free = free_to-kept 256 (front_of s page) before g n in
      rw (e, c)
      (kept-twice 256 before freed _ free
      (rewind_to-kept image (front_of s (at k).first.0) (λ i. true) (advance (at k).backing) freed free.ranged (at k).pages (backed-area k l).there)))
      (λ c. rw (e, c) (unchanged-kept 256 before g))
