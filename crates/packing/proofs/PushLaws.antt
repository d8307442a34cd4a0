-- Laws of one page pushed: when it goes on where the last area ends, and what holds after it.
use Prim.Native.Nat.{ℕ, suc, ◌+◌, ◌-◌, ◌<◌}
use mathlib.Core.Path.{◌≡◌, refl}
use mathlib.Core.Bool.{Bool, true, false, ◌&&◌}
use native.Mathlib.Omega.{arith}
use lib.Dec.{ltb, eqb}
use borrow.Author.Tests.{ltb-true, eqb-true, eq-eqb}
use Rattle.basics.specs.Choice.{same}
use Rattle.basics.proofs.TestLaws.{when-cases, and_left, and_right, same_true}
use Rattle.interface.specs.declared.page.Attributes.{Attributes}
use Rattle.interface.specs.declared.page.Slot.{Slot}
use Rattle.interface.specs.declared.page.Slot.TheVariants.{Unmapped, Mapped}
use Rattle.interface.specs.Slots.{advance, follows, joins}
use Rattle.areas.specs.declared.area.Area.{Area}
use Rattle.areas.specs.declared.area.Areas.{Areas}
use Rattle.areas.specs.Areas.{slot_of}
use Rattle.areas.specs.Formed.{goes_on}
use Rattle.areas.proofs.SlotLaws.{advance-zero, follows-true, follows-more}
use Rattle.packing.specs.declared.pack.Packed.{Packed}
use Rattle.packing.specs.Pack.{single, longer, last, continues, extended, added, push}

-- the page goes on where the area ends
pub record GoesOn (a : Area) (page : ℕ) (t : Attributes) : Type 0 where
  pub end : a.first.0 + a.pages ≡ page
  pub rights : a.rights ≡ t.rights
  pub mark : a.committed ≡ t.committed
  pub backing : advance a.backing a.pages ≡ t.backing

pub goes_on_lem : (a : Area) (page : ℕ) (t : Attributes) → goes_on a page t ≡ true → GoesOn a page t
unfolding goes_on
goes_on_lem a page t h =
    let agree : Bool = eqb a.rights t.rights && (same a.committed t.committed && follows a.backing a.pages t.backing) in
    let h₁ = and_right (eqb (a.first.0 + a.pages) page) agree h in
    let h₂ = and_right (eqb a.rights t.rights) (same a.committed t.committed && follows a.backing a.pages t.backing) h₁ in
    record {
      end = eqb-true (a.first.0 + a.pages) page (and_left (eqb (a.first.0 + a.pages) page) agree h);
      rights = eqb-true a.rights t.rights (and_left (eqb a.rights t.rights) _ h₁);
      mark = same_true a.committed t.committed (and_left (same a.committed t.committed) _ h₂);
      backing = follows-true a.backing t.backing a.pages (and_right (same a.committed t.committed) _ h₂);
    }

-- behind a page that made the area longer, or that is an area by itself, a page goes on where it joins that page
pub goes-longer : (a : Area) (n : ℕ) (u t : Attributes) → GoesOn a n u → goes_on (longer a) (suc n) t ≡ joins (Mapped u) (Mapped t)
unfolding goes_on joins
goes-longer a n u t g =
    rw (eq-eqb (a.first.0 + (a.pages + 1)) (suc n) (omega (arith, g.end)), g.rights, g.mark, ← g.backing, follows-more)

pub goes-single : (n : ℕ) (u t : Attributes) → goes_on (single n u) (suc n) t ≡ joins (Mapped u) (Mapped t)
unfolding goes_on joins
goes-single n u t = rw (eq-eqb (n + 1) (suc n) (omega arith))

-- what stands at that page
pub slot-longer : (a : Area) (n : ℕ) (u : Attributes) → GoesOn a n u → slot_of (longer a) n ≡ Mapped u
slot-longer a n u g =
    let e : n - a.first.0 ≡ a.pages = omega (arith, g.end) in
    rw (e, g.backing) (λ i. Mapped (record { rights = g.rights i; committed = g.mark i; backing = u.backing }))

pub slot-single : (n : ℕ) (u : Attributes) → slot_of (single n u) n ≡ Mapped u
slot-single n u =
    let e : n - n ≡ 0 = omega arith in
    rw (e, advance-zero u.backing)

-- there is a last area, and the page goes on there
pub continues-some : (s : Areas) (page : ℕ) (t : Attributes) → continues s page t ≡ true → 0 < s.count
unfolding continues
continues-some s page t h = ltb-true 0 s.count (and_left (ltb 0 s.count) (goes_on (last s) page t) h)

pub continues-last : (s : Areas) (page : ℕ) (t : Attributes) → continues s page t ≡ true → GoesOn (last s) page t
unfolding continues
continues-last s page t h = goes_on_lem (last s) page t (and_right (ltb 0 s.count) (goes_on (last s) page t) h)

-- what holds after a page that is not mapped, that makes the last area longer, that starts one, or that finds no place
pub push-cases : (P : Packed → Type 0) (b : Packed) (page : ℕ) (s : Slot) → (s ≡ Unmapped → P b)
    → ((t : Attributes) → s ≡ Mapped t → continues b.areas page t ≡ true → P (record { areas = extended b.areas; fits = b.fits }))
    → ((t : Attributes) → s ≡ Mapped t → continues b.areas page t ≡ false → b.areas.count < 8 → P (record {
      areas = added b.areas page t;
      fits = b.fits;
    }))
    → ((t : Attributes) → s ≡ Mapped t → continues b.areas page t ≡ false → ltb b.areas.count 8 ≡ false → P (record { areas = b.areas; fits = false }))
    → P (push b page s)
unfolding push
push-cases P b page Unmapped skip extend add full = skip refl
push-cases P b page (Mapped t) skip extend add full =
    when-cases P (continues b.areas page t) (λ e. extend t refl e)
    (λ e. when-cases P (ltb b.areas.count 8) (λ h. add t refl e (ltb-true b.areas.count 8 h)) (λ h. full t refl e h))
