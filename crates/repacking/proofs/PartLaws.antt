-- Laws of parts of areas: the parts of well formed areas from one page to another, pushed one by one, are the pages there pushed one by one.
use Prim.Native.Nat.{ℕ, ◌+◌, ◌-◌, ◌≤◌, ◌<◌, min, max}
use mathlib.Core.Path.{◌≡◌, sym, ◌∙◌}
use mathlib.Core.Logic.{◌⊎◌, ⊎_elim}
use mathlib.Core.Bool.{Bool, true, false, ◌&&◌}
use native.Mathlib.Omega.{arith}
use native.Mathlib.Decide.{dec_lt}
use lib.Dec.{ltb}
use lib.ListN.{get_or}
use borrow.Author.Tests.{ltb-false}
use Rattle.basics.proofs.TestLaws.{by_cases}
use Rattle.interface.specs.declared.page.Attributes.{Attributes}
use Rattle.interface.specs.declared.page.Slot.TheVariants.{Unmapped}
use Rattle.interface.specs.Slots.{Slots, advance}
use Rattle.interface.specs.Outcome.{page_on}
use Rattle.areas.specs.declared.area.Area.{Area}
use Rattle.areas.specs.declared.area.Areas.{Areas}
use Rattle.areas.specs.Areas.{none, attributes_of, slot_of, slots}
use Rattle.areas.specs.Walk.{Formed}
use Rattle.areas.proofs.WalkLaws.{Before, end_of, before-start, before-gap, before_last, before-next}
use Rattle.areas.proofs.FewAreas.{area-slot}
use Rattle.area_parts.specs.declared.Update.{Update}
use Rattle.area_parts.specs.declared.Update.TheVariants.{Keep, Rights, Commit}
use Rattle.area_parts.specs.Parts.{area_from, part_of, updated_to, updated, updated_area}
use Rattle.packing.specs.declared.pack.Packed.{Packed}
use Rattle.packing.specs.ByAreas.{pack_on, Ready, push_area}
use Rattle.packing.proofs.RunLaws.{pack-split, pack-gap, ready_on, advance-more, run, push-nothing}

-- ---- pages that are not mapped, and a run behind them

module _ (b : Packed) (f : Slots) (from x : ℕ) (l : from ≤ x) where
  pub skip : (y : ℕ) → x ≤ y → ((i : ℕ) → x ≤ i → i < y → f i ≡ Unmapped) → pack_on b f from (y - from) ≡ pack_on b f from (x - from)
  skip y u gap =
      let e : y - from ≡ x - from + (y - x) = omega arith in
      let h : from + (x - from) ≡ x = omega arith in
      rw (e, pack-split b f from (x - from) (y - x), h) (pack-gap (pack_on b f from (x - from)) f x (y - x) (λ i d g. gap i d (omega arith)))

  pub stretch : Ready b from → (y n : ℕ) (t : Attributes) → x ≤ y → ((i : ℕ) → x ≤ i → i < y → f i ≡ Unmapped)
      → ((i : ℕ) → y ≤ i → i < y + n → f i ≡ page_on t (i - y)) → pack_on b f from (y + n - from) ≡ push_area (pack_on b f from (x - from)) (area_from y n t)
  stretch r y n t u gap pages =
      let e : y + n - from ≡ y - from + n = omega arith in
      let h : from + (y - from) ≡ y = omega arith in
      let before : Ready (pack_on b f from (y - from)) y = rw h at (ready_on b f from (y - from) r) in
      rw (e, pack-split b f from (y - from) n, h, run (pack_on b f from (y - from)) f y n t before pages, skip y u gap)

-- ---- what a part says of its pages

on-backing : (a : Area) (from i : ℕ) → max a.first.0 from ≤ i
    → advance (advance a.backing (max a.first.0 from - a.first.0)) (i - max a.first.0 from) ≡ advance a.backing (i - a.first.0)
on-backing a from i l =
    let e : max a.first.0 from - a.first.0 + (i - max a.first.0 from) ≡ i - a.first.0 = omega arith in rw (advance-more, e)

on-part : (update : Update) (a : Area) (from to i : ℕ) → max a.first.0 from ≤ i
    → updated update (slot_of a i) ≡ page_on (updated_to update (attributes_of (part_of a from to))) (i - max a.first.0 from)
on-part Keep a from to i l = rw (on-backing a from i l)
on-part (Rights r) a from to i l = rw (on-backing a from i l)
on-part Commit a from to i l = rw (on-backing a from i l)

-- an area that has no page there
out-of-reach : (a : Area) (from to : ℕ) → (ltb a.first.0 to && ltb from (a.first.0 + a.pages)) ≡ false → (part_of a from to).pages ≡ 0
out-of-reach a from to h =
    by_cases (ltb a.first.0 to)
    (λ e. omega (arith, ltb-false from (a.first.0 + a.pages) (rw e at h)))
    (λ e. omega (arith, ltb-false a.first.0 to e))

-- ---- the areas, one by one

-- the parts of the areas before a place are pushed: so the pages up to one at which those areas have ended and the others have not begun
pub record Parts (s : Areas) (f : Slots) (b : Packed) (from to k : ℕ) (p : Packed) : Type 0 where
  pub page : ℕ
  pub there : Before s k page
  pub packed : p ≡ pack_on b f from (max from (min page to) - from)

module _ (s : Areas) (F : Formed s) (update : Update) (b : Packed) (from to : ℕ) (ends : from ≤ to) (ready : Ready b from) where
  abbrev f : Slots
  f i = updated update (slots s i)

  abbrev at : ℕ → Area
  at k = get_or s.list k none

  abbrev piece : ℕ → Area
  piece k = updated_area update (part_of (at k) from to)

  pub parts-start : Parts s f b from to 0 b
  unfolding pack_on
  parts-start = record { page = 0; there = before-start s; packed = let e : max from (min 0 to) - from ≡ 0 = omega arith in rw e }

  module _ (k : ℕ) (p : Packed) (r : Parts s f b from to k p) where
    abbrev reached : ℕ
    reached = max from (min r.page to)

    pub parts-few : p.areas.count ≤ 8
    parts-few = rw r.packed (ready_on b f from (reached - from) ready).few

    pub parts_all : s.count ≤ k → p ≡ pack_on b f from (to - from)
    parts_all l =
        r.packed
        ∙ sym (skip b f from reached (omega arith) to (omega arith)
        (λ i d u. rw (before_last s F k r.page r.there l i (omega arith))))

    module _ (l : k < s.count) where
      gap : (i : ℕ) → reached ≤ i → i < to → i < (at k).first.0 → f i ≡ Unmapped
      gap i d u v = rw (before-gap s F k r.page r.there l i (omega arith) v)

      -- an area that starts behind the pages
      pub parts-stop : to ≤ (at k).first.0 → p ≡ pack_on b f from (to - from)
      parts-stop d = r.packed ∙ sym (skip b f from reached (omega arith) to (omega arith) (λ i u v. gap i u v (omega arith)))

      ahead : r.page ≤ (at k).first.0
      ahead = r.there.ahead k (omega arith) l

      pages-pushed : pack_on b f from (max from (min (end_of s k) to) - from) ≡ push_area p (piece k)
      pages-pushed = go (dec_lt 0 (piece k).pages)
        where
          go : Dec (0 < (piece k).pages) → pack_on b f from (max from (min (end_of s k) to) - from) ≡ push_area p (piece k)
          go (no d) =
              skip b f from reached (omega arith) (max from (min (end_of s k) to)) (omega (arith, ahead))
              (λ i u v. gap i u (omega arith) (omega arith))
              ∙ sym r.packed ∙ push-nothing p (piece k) (omega arith)
          go (yes d) =
              let e : max from (min (end_of s k) to) ≡ (piece k).first.0 + (piece k).pages = omega arith in
              rw (e, r.packed)
              (stretch b f from reached (omega arith) ready (piece k).first.0 (piece k).pages (updated_to update (attributes_of (part_of (at k) from to)))
              (omega (arith, ahead)) (λ i u v. gap i u (omega arith) (omega arith))
              (λ i u v. rw (area-slot F.images s F.formed i k l (omega arith) (omega arith)) (on-part update (at k) from to i u)))

      pub parts_more : Parts s f b from to (k + 1) (push_area p (piece k))
      parts_more = record { page = end_of s k; there = before-next s F k r.page r.there l; packed = sym pages-pushed }

      -- a turn of the loop: the part is pushed, or there is none
      pub parts_next : (on : Bool) (q : Packed) → on ≡ (ltb (at k).first.0 to && ltb from ((at k).first.0 + (at k).pages))
          → ((on ≡ true) × (q ≡ push_area p (piece k))) ⊎ ((on ≡ false) × (q ≡ p)) → Parts s f b from to (k + 1) q
      parts_next on q is =
          ⊎_elim (λ w. rw w.1 parts_more)
          (λ w. rw (w.1, push-nothing p (piece k) (out-of-reach (at k) from to (sym is ∙ w.0))) parts_more)
