-- Where areas start: "Areas are the longest runs of neighbouring pages", so well formed areas start where their slots say that one starts, and nowhere else.
use Prim.Native.Nat.{ℕ, zero, suc, ◌+◌, ◌-◌, ◌≤◌, ◌<◌}
use mathlib.Core.Path.{◌≡◌, refl, sym, ◌∙◌}
use mathlib.Core.Bool.{true, false}
use native.Mathlib.Omega.{arith}
use native.Mathlib.Decide.{ℕ_discrete, dec_lt}
use lib.ListN.{get_or}
use borrow.Author.Tests.{eq-eqb}
use Rattle.basics.proofs.TestLaws.{by_cases}
use Rattle.basics.proofs.RangeLaws.{inside-first, inside-end}
use Rattle.interface.specs.declared.page.Attributes.{Attributes}
use Rattle.interface.specs.declared.page.Slot.{Slot}
use Rattle.interface.specs.declared.page.Slot.TheVariants.{Unmapped, Mapped}
use Rattle.interface.specs.Slots.{is_mapped, joins, starts_area}
use Rattle.areas.specs.declared.area.Area.{Area}
use Rattle.areas.specs.declared.area.Areas.{Areas}
use Rattle.areas.specs.Areas.{none, attributes_of, slot_of, slots}
use Rattle.areas.specs.Formed.{goes_on, WellFormed}
use Rattle.areas.proofs.SlotLaws.{follows-more}
use Rattle.areas.proofs.WalkLaws.{end_of}
use Rattle.areas.proofs.FormedLaws.{order}
use Rattle.areas.proofs.FewAreas.{area_of, area-slot, joins-next}
use Rattle.areas.proofs.ToldLaws.{first_slot}

-- nothing joins a page that is not mapped
joins-unmapped : (x y : Slot) → is_mapped x ≡ false → joins x y ≡ false
unfolding joins
joins-unmapped Unmapped y e = refl
joins-unmapped (Mapped t) y e = cc

-- a page joins the last page of an area where it goes on there
joins-goes : (a : Area) (n : ℕ) (t : Attributes) → a.first.0 ≤ n → a.first.0 + a.pages ≡ suc n → joins (slot_of a n) (Mapped t) ≡ goes_on a (suc n) t
unfolding joins goes_on
joins-goes a n t l e =
    let on : a.pages ≡ n - a.first.0 + 1 = omega arith in
    rw (eq-eqb _ _ e, on) (rw (follows-more a.backing t.backing (n - a.first.0)))

module _ (images : ℕ) (s : Areas) (w : WellFormed images s) (k : ℕ) (l : k < s.count) where
  abbrev at : ℕ → Area
  at j = get_or s.list j none

  -- an area that ends where this one starts is the one before it
  neighbour : (j : ℕ) → j < s.count → end_of s j ≡ (at k).first.0 → j + 1 ≡ k
  neighbour j m e = go (dec_lt j k) (dec_lt (j + 1) k)
    where
      go : Dec (j < k) → Dec (j + 1 < k) → j + 1 ≡ k
      go (yes d) (no g) = omega arith
      go (yes d) (yes g) = absurd (omega (
        arith,
        order images s w j (j + 1) (omega arith) (omega arith),
        order images s w (j + 1) k g l,
        (w.each (j + 1) (omega arith)).some,
      ))
      go (no d) g = absurd (later (ℕ_discrete k j))
        where
          later : Dec (k ≡ j) → ⊥
          later (yes q) = omega (arith, (w.each k l).some, rw (sym q) at e)
          later (no q) = omega (arith, order images s w k j (omega arith) m, (w.each k l).some, (w.each j m).some)

  -- the page before an area does not join its first page
  apart-before : (n : ℕ) → (at k).first.0 ≡ suc n → joins (slots s n) (Mapped (attributes_of (at k))) ≡ false
  apart-before n e =
      by_cases (is_mapped (slots s n))
      (λ m. let r = area_of images s w n m in
      let j : ℕ = r.0.place in
      let low : (at j).first.0 ≤ n = inside-first _ (at j).pages n r.0.covered in
      let high : n < end_of s j = inside-end _ _ n r.0.covered in
      let ends : end_of s j ≡ suc n = end-of n j r.1 low high e (dec_lt j k) (ℕ_discrete k j) in
      let next : j + 1 ≡ k = neighbour j r.1 (ends ∙ sym e) in
      let far : goes_on (at j) (at k).first.0 (attributes_of (at k)) ≡ false = rw next at (w.apart j (omega arith)).longest in
      rw (area-slot images s w n j r.1 low high) (joins-goes (at j) n (attributes_of (at k)) low ends ∙ rw e at far))
      (λ m. joins-unmapped (slots s n) _ m)
    where
      end-of : (n j : ℕ) → j < s.count → (at j).first.0 ≤ n → n < end_of s j → (at k).first.0 ≡ suc n → Dec (j < k) → Dec (k ≡ j) → end_of s j ≡ suc n
      end-of n j m low high e (yes d) q = omega (arith, order images s w j k d l)
      end-of n j m low high e (no d) (yes q) = absurd (omega (arith, rw q at e))
      end-of n j m low high e (no d) (no q) = absurd (omega (arith, order images s w k j (omega arith) m, (w.each k l).some))

  -- an area starts at its first page
  starts-at : (n : ℕ) → (at k).first.0 ≡ n → starts_area (slots s) n ≡ true
  unfolding joins
  starts-at zero e = rw (first_slot images s w k 0 l e)
  starts-at (suc n) e = rw (first_slot images s w k (suc n) l e, apart-before n e)

  pub starts_first : starts_area (slots s) (at k).first.0 ≡ true
  starts_first = starts-at (at k).first.0 refl

  -- and at none of its other pages
  pub starts-inside : (i : ℕ) → (at k).first.0 < i → i < end_of s k → starts_area (slots s) i ≡ false
  starts-inside zero d u = absurd (omega arith)
  starts-inside (suc n) d u =
      rw (area-slot images s w (suc n) k l (omega arith) u, area-slot images s w n k l (omega arith) (omega arith), joins-next (at k) n (omega arith))
