-- Well formed areas are told by what they say of each page: "Areas are the longest runs of neighbouring pages".
use Prim.Native.Nat.{ℕ, zero, suc, ◌+◌, ◌-◌, ◌≤◌, ◌<◌}
use mathlib.Core.Path.{◌≡◌, refl, sym, ◌∙◌}
use mathlib.Core.Bool.{true, false≢true}
use native.Mathlib.Omega.{arith}
use native.Mathlib.Decide.{ℕ_discrete, dec_lt}
use lib.ListN.{get_or}
use lib.Seq.{ext_get_or}
use borrow.Author.Tests.{eq-eqb}
use Rattle.basics.proofs.TestLaws.{same_of}
use Rattle.basics.proofs.RangeLaws.{inside-first, inside-end}
use Rattle.interface.specs.declared.page.Backing.{Backing}
use Rattle.interface.specs.declared.page.Backing.TheVariants.{Anonymous, Image}
use Rattle.interface.specs.declared.page.Attributes.{Attributes}
use Rattle.interface.specs.declared.page.Slot.TheVariants.{Mapped}
use Rattle.interface.specs.Slots.{is_mapped, advance, follows}
use Rattle.interface.specs.Outcome.{page_on}
use Rattle.areas.specs.declared.area.Area.{Area}
use Rattle.areas.specs.declared.area.Areas.{Areas}
use Rattle.areas.specs.Areas.{none, attributes_of, slot_of, slots}
use Rattle.areas.specs.Formed.{goes_on, WellFormed}
use Rattle.areas.proofs.SlotLaws.{advance-zero}
use Rattle.areas.proofs.WalkLaws.{end_of}
use Rattle.areas.proofs.FormedLaws.{order}
use Rattle.areas.proofs.FewAreas.{area_of, area-slot}

-- the area of a place
abbrev at : Areas → ℕ → Area
at s k = get_or s.list k none

-- the backing of the page at which an area ends follows the area's
pub follows-advance : (b : Backing) (n : ℕ) → follows b n (advance b n) ≡ true
unfolding follows
follows-advance Anonymous n = refl
follows-advance (Image first) n = eq-eqb (first.0 + n) (first.0 + n) refl

-- a page goes on where the area ends if it has the attributes that the area would have there
goes_of : (a : Area) (page : ℕ) (t : Attributes) → a.first.0 + a.pages ≡ page → slot_of a page ≡ Mapped t → goes_on a page t ≡ true
unfolding goes_on
goes_of a page t e h =
    let on : page - a.first.0 ≡ a.pages = omega arith in
    let there = rw on at h in
    let rights : a.rights ≡ t.rights = cc in
    let mark : a.committed ≡ t.committed = cc in
    let backing : advance a.backing a.pages ≡ t.backing = cc in
    rw (eq-eqb _ _ e, eq-eqb _ _ rights, same_of _ _ mark, ← backing) (follows-advance a.backing a.pages)

-- a mapped page that lies behind the areas before a place: there is an area in that place, and it starts no later
reached : (images : ℕ) (s : Areas) → WellFormed images s → (k page : ℕ) → is_mapped (slots s page) ≡ true
    → ((j : ℕ) → j < k → end_of s j ≤ page) → (k < s.count) × ((at s k).first.0 ≤ page)
reached images s w k page m passed =
    let found = area_of images s w page m in
    let j : ℕ = found.0.place in
    let low : (at s j).first.0 ≤ page = inside-first _ (at s j).pages page found.0.covered in
    let high : page < end_of s j = inside-end _ _ page found.0.covered in
    go j found.1 low high (dec_lt j k) (ℕ_discrete k j)
  where
    go : (j : ℕ) → j < s.count → (at s j).first.0 ≤ page → page < end_of s j → Dec (j < k) → Dec (k ≡ j)
        → (k < s.count) × ((at s k).first.0 ≤ page)
    go j l low high (yes d) e = absurd (omega (arith, passed j d))
    go j l low high (no d) (yes e) = rw e (l, low)
    go j l low high (no d) (no e) = (omega arith, omega (arith, order images s w k j (omega arith) l))

-- what an area says of its first page
pub first_slot : (images : ℕ) (s : Areas) → WellFormed images s → (k page : ℕ) → k < s.count → (at s k).first.0 ≡ page
    → slots s page ≡ Mapped (attributes_of (at s k))
first_slot images s w k page l e =
    let zero-on : page - (at s k).first.0 ≡ 0 = omega arith in
    area-slot images s w page k l (omega arith) (omega (arith, (w.each k l).some)) ∙ rw (zero-on, advance-zero (at s k).backing)

-- ---- two well formed areas that say the same of each page and agree in the places before one

module _ (images : ℕ) (s r : Areas) (w : WellFormed images s) (v : WellFormed images r) (told : slots s ≡ slots r) (k : ℕ)
    (before : (j : ℕ) → j < k → at s j ≡ at r j) where
  -- where the first has an area, the second has one that starts no later
  starts : k < s.count → (k < r.count) × ((at r k).first.0 ≤ (at s k).first.0)
  starts l =
      reached images r v k (at s k).first.0 (rw (← told, first_slot images s w k (at s k).first.0 l refl))
      (λ j d. rw (← before j d) (order images s w j k d l))

  module _ (l : k < s.count) (m : k < r.count) (first : (at s k).first.0 ≡ (at r k).first.0) where
    -- their areas agree in what they say of the first page
    attributes : attributes_of (at s k) ≡ attributes_of (at r k)
    attributes =
        let page : ℕ = (at s k).first.0 in
        let both : Mapped (attributes_of (at s k)) ≡ Mapped (attributes_of (at r k)) =
        sym (first_slot images s w k page l refl) ∙ rw told (first_slot images r v k page m (sym first)) in
        cc

    -- the second's area ends no later: else the first's next area would go on where this one ends
    ends : (at r k).pages ≤ (at s k).pages
    ends = go (dec_lt (at s k).pages (at r k).pages)
      where
        passed : (j : ℕ) → j < k + 1 → Dec (k ≡ j) → end_of s j ≤ end_of s k
        passed j d (yes e) = rw e (omega arith)
        passed j d (no e) = omega (arith, order images s w j k (omega arith) l)

        go : Dec ((at s k).pages < (at r k).pages) → (at r k).pages ≤ (at s k).pages
        go (no d) = omega arith
        go (yes d) =
            let page : ℕ = end_of s k in
            let longer : slots r page ≡ slot_of (at r k) page = area-slot images r v page k m (omega arith) (omega arith) in
            let next = reached images s w (k + 1) page (rw (told, longer)) (λ j b. passed j b (ℕ_discrete k j)) in
            let apart = w.apart k next.0 in
            let start : (at s (k + 1)).first.0 ≡ page = omega (arith, next.1, apart.after) in
            let on : slot_of (at s k) page ≡ Mapped (attributes_of (at s (k + 1))) =
            (λ i. page_on (attributes i) (page - first i)) ∙ sym longer ∙ rw (← told) (first_slot images s w (k + 1) page next.0 start) in
            absurd (false≢true (sym apart.longest ∙ rw start (goes_of (at s k) page (attributes_of (at s (k + 1))) refl on)))

-- ---- the same, both ways

module _ (images : ℕ) (s r : Areas) (w : WellFormed images s) (v : WellFormed images r) (told : slots s ≡ slots r) where
  -- they agree in a place if they agree in those before it
  same_next : (k : ℕ) → ((j : ℕ) → j < k → at s j ≡ at r j) → at s k ≡ at r k
  same_next k before = go (dec_lt k s.count) (dec_lt k r.count)
    where
      turned : (j : ℕ) → j < k → at r j ≡ at s j
      turned j d = sym (before j d)

      there : k < s.count → (k < r.count) × ((at r k).first.0 ≤ (at s k).first.0)
      there = starts images s r w v told k before

      back : k < r.count → (k < s.count) × ((at s k).first.0 ≤ (at r k).first.0)
      back = starts images r s v w (sym told) k turned

      go : Dec (k < s.count) → Dec (k < r.count) → at s k ≡ at r k
      go (no d) (no e) = w.rest k (omega arith) ∙ sym (v.rest k (omega arith))
      go (yes d) (no e) = absurd (e (there d).0)
      go (no d) (yes e) = absurd (d (back e).0)
      go (yes d) (yes e) =
          let first : (at s k).first.0 ≡ (at r k).first.0 = omega (arith, (there d).1, (back e).1) in
          let agree = attributes images s r w v told k before d e first in
          let pages : (at s k).pages ≡ (at r k).pages =
          omega (arith, ends images s r w v told k before d e first, ends images r s v w (sym told) k turned e d (sym first)) in
          λ i. record {
            first = record { 0 = first i };
            pages = pages i;
            rights = (agree i).rights;
            committed = (agree i).committed;
            backing = (agree i).backing;
          }

  -- so they agree in every place
  same-before : (k j : ℕ) → j < k → at s j ≡ at r j
  same-before zero j d = absurd (omega arith)
  same-before (suc k) j d = go (ℕ_discrete j k) (same-before k)
    where
      go : Dec (j ≡ k) → ((j : ℕ) → j < k → at s j ≡ at r j) → at s j ≡ at r j
      go (yes e) before = rw e (same_next k before)
      go (no e) before = before j (omega arith)

  -- two lists of 8 that agree in every place
  same-list : s.list ≡ r.list
  same-list = ext_get_or none s.list r.list (w.eight ∙ sym v.eight) (λ j d. same-before (suc j) j (omega arith))

  -- an area in the place behind the last of the second would be one of the second
  most : s.count ≤ r.count
  most = go (dec_lt r.count s.count)
    where
      go : Dec (r.count < s.count) → s.count ≤ r.count
      go (no d) = omega arith
      go (yes d) = absurd (omega (arith, (starts images s r w v told r.count (same-before r.count) d).0))

-- ---- the law

-- "Areas are the longest runs of neighbouring pages that agree": what stands at each page leaves no choice of them
pub slots-tell : (images : ℕ) (s r : Areas) → WellFormed images s → WellFormed images r → slots s ≡ slots r → s ≡ r
slots-tell images s r w v told =
    let same_count : s.count ≡ r.count = omega (arith, most images s r w v told, most images r s v w (sym told)) in
    λ i. record { count = same_count i; list = same-list images s r w v told i }
