-- Laws of the areas before a page: well formed areas stand apart, so none goes on where the one before it ends, and each is kept in its place.
use Prim.Native.Nat.{ℕ, zero, suc, ◌+◌, ◌-◌, ◌≤◌, ◌<◌, min, max}
use mathlib.Core.Path.{◌≡◌, refl, ◌∙◌, ap}
use mathlib.Core.Bool.{true, false}
use native.Mathlib.Omega.{arith}
use lib.Dec.{eqb}
use lib.ListN.{length, get_or, set}
use lib.Seq.{get_or-set_same}
use borrow.Author.Tests.{ne_eqb, lt-ltb}
use Rattle.interface.specs.Slots.{advance}
use Rattle.areas.specs.declared.area.Area.{Area}
use Rattle.areas.specs.declared.area.Areas.{Areas}
use Rattle.areas.specs.Areas.{none, empty, attributes_of, slots}
use Rattle.areas.specs.Walk.{Formed}
use Rattle.areas.proofs.SlotLaws.{advance-zero}
use Rattle.areas.proofs.WalkLaws.{end_of, order}
use Rattle.area_parts.specs.declared.Update.TheVariants.{Keep}
use Rattle.area_parts.specs.Parts.{part_of, updated}
use Rattle.packing.specs.declared.pack.Packed.{Packed}
use Rattle.packing.specs.Pack.{start, last, continues}
use Rattle.packing.specs.ByAreas.{pack_on, placed, push_area}
use Rattle.packing.proofs.RunLaws.{ready-start, ready_on, push_places}
use Rattle.repacking.proofs.PartLaws.{Parts, parts-start, parts_more, parts-stop, parts_all}

-- ---- the part of an area before a page

on-zero : (a : Area) → advance a.backing (max a.first.0 0 - a.first.0) ≡ a.backing
on-zero a = let e : max a.first.0 0 - a.first.0 ≡ 0 = omega arith in rw (e, advance-zero a.backing)

-- it starts as the area does
part-attributes : (a : Area) (to : ℕ) → attributes_of (part_of a 0 to) ≡ attributes_of a
part-attributes a to = λ i. record { rights = a.rights; committed = a.committed; backing = on-zero a i }

-- it is the whole area where that ends before
part-whole : (a : Area) (to : ℕ) → a.first.0 + a.pages ≤ to → part_of a 0 to ≡ a
part-whole a to h =
    let first : max a.first.0 0 ≡ a.first.0 = omega arith in
    let pages : min (a.first.0 + a.pages) to - max a.first.0 0 ≡ a.pages = omega arith in
    λ i. record { first = record { 0 = first i }; pages = pages i; rights = a.rights; committed = a.committed; backing = on-zero a i }

-- ---- the areas, one by one

-- what is packed of the areas before a place: as many, the last of them the part of its area before the page
pub record Kept (s : Areas) (to k : ℕ) (p : Areas) : Type 0 where
  pub parts : Parts s (λ i. updated Keep (slots s i)) start 0 to k (record { areas = p; fits = true })
  pub count : p.count ≡ k
  pub last : (j : ℕ) → j + 1 ≡ k → get_or p.list j none ≡ part_of (get_or s.list j none) 0 to

module _ (s : Areas) (F : Formed s) (to : ℕ) where
  abbrev at : ℕ → Area
  at k = get_or s.list k none

  pub kept-start : Kept s to 0 empty
  kept-start = record { parts = parts-start s F Keep start 0 to (omega arith) ready-start; count = refl; last = λ j e. absurd (omega arith) }

  pub kept-eight : (k : ℕ) (p : Areas) → Kept s to k p → length p.list ≡ 8
  kept-eight k p w =
      let e : record { areas = p; fits = true } ≡ pack_on start (λ i. updated Keep (slots s i)) 0 (max 0 (min w.parts.page to) - 0) = w.parts.packed in
      ap (λ (b : Packed). length b.areas.list) e
      ∙ (ready_on start (λ i. updated Keep (slots s i)) 0 (max 0 (min w.parts.page to) - 0) ready-start).eight

  -- no page of the next area goes on where the last one ends
  apart : (k : ℕ) (p : Areas) → Kept s to k p → k < s.count → (at k).first.0 < to
      → continues p (max (at k).first.0 0) (attributes_of (part_of (at k) 0 to)) ≡ false
  unfolding continues
  apart zero p w l d = rw w.count
  apart (suc j) p w l d =
      let e : suc j - 1 ≡ j = omega arith in
      let h : max (at (suc j)).first.0 0 ≡ (at (suc j)).first.0 = omega arith in
      let ends : end_of s j ≤ to = omega (arith, order s F j (suc j) (omega arith) l) in
      let next : j + 1 ≡ suc j = omega arith in
      rw (w.count, lt-ltb 0 (suc j) (omega arith), e, w.last j next, part-whole (at j) to ends, part-attributes (at (suc j)) to, h)
      (rw next at (F.formed.apart j (omega arith)).longest)

  pub kept_next : (k : ℕ) (p : Areas) → Kept s to k p → k < s.count → (at k).first.0 < to
      → Kept s to (k + 1) (record { count = k + 1; list = set p.list k (part_of (at k) 0 to) })
  kept_next k p w l d =
      let b : Packed = record { areas = p; fits = true } in
      let small : k < 8 = omega (arith, F.formed.few) in
      let some : eqb (part_of (at k) 0 to).pages 0 ≡ false = ne_eqb (part_of (at k) 0 to).pages 0 (λ e. omega (arith, (F.formed.each k l).some)) in
      let r : Areas = record { count = k + 1; list = set p.list k (part_of (at k) 0 to) } in
      let is : r ≡ placed p (part_of (at k) 0 to) = rw w.count in
      let pushed : record { areas = r; fits = true } ≡ push_area b (part_of (at k) 0 to) =
      push_places b (part_of (at k) 0 to) some _ refl (apart k p w l d) (omega (arith, w.count)) r is in
      record {
        parts = rw pushed (parts_more s F Keep start 0 to (omega arith) ready-start k b w.parts l);
        count = refl;
        last = λ j e. let q : j ≡ k = omega arith in
            rw q (get_or-set_same p.list k (part_of (at k) 0 to) none (omega (arith, kept-eight k p w)));
      }

  -- an area that starts behind the page, or no area more
  pub kept-stop : (k : ℕ) (p : Areas) → Kept s to k p → k < s.count → to ≤ (at k).first.0
      → record { areas = p; fits = true } ≡ pack_on start (λ i. updated Keep (slots s i)) 0 to
  kept-stop k p w l d =
      let e : to - 0 ≡ to = omega arith in rw e at (parts-stop s F Keep start 0 to (omega arith) ready-start k _ w.parts l d)

  pub kept-all : (k : ℕ) (p : Areas) → Kept s to k p → s.count ≤ k → record { areas = p; fits = true } ≡ pack_on start (λ i. updated Keep (slots s i)) 0 to
  kept-all k p w l =
      let e : to - 0 ≡ to = omega arith in rw e at (parts_all s F Keep start 0 to (omega arith) ready-start k _ w.parts l)
