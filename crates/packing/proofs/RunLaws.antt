-- Laws of pages pushed one by one: stretches of them put together, those that are not mapped, and a run of pages that agree, which is one area.
use Prim.Native.Nat.{ℕ, zero, suc, ◌+◌, ◌-◌, ◌≤◌, ◌<◌}
use mathlib.Core.Path.{◌≡◌, refl, ◌∙◌, ap}
use mathlib.Core.Bool.{Bool, true, false}
use native.Mathlib.Omega.{arith}
use lib.Dec.{ltb, eqb}
use lib.ListN.{length, get_or, set, length-set}
use lib.Seq.{get_or-set_same, set-set}
use borrow.Author.Tests.{eq-eqb, ne_eqb, lt-ltb, le-ltb, ltb-true}
use Rattle.basics.proofs.TestLaws.{by_cases, same_of}
use Rattle.interface.specs.declared.page.Backing.{Backing}
use Rattle.interface.specs.declared.page.Backing.TheVariants.{Anonymous, Image}
use Rattle.interface.specs.declared.page.Attributes.{Attributes}
use Rattle.interface.specs.declared.page.Slot.{Slot}
use Rattle.interface.specs.declared.page.Slot.TheVariants.{Unmapped}
use Rattle.interface.specs.Slots.{Slots, advance}
use Rattle.interface.specs.Outcome.{page_on}
use Rattle.areas.specs.declared.area.Area.{Area}
use Rattle.areas.specs.declared.area.Areas.{Areas}
use Rattle.areas.specs.Areas.{none, attributes_of}
use Rattle.areas.specs.Formed.{goes_on}
use Rattle.areas.proofs.SlotLaws.{advance-zero}
use Rattle.areas.proofs.ToldLaws.{follows-advance}
use Rattle.area_parts.specs.Parts.{area_from}
use Rattle.packing.specs.declared.pack.Packed.{Packed}
use Rattle.packing.specs.Pack.{start, single, longer, last, continues, extended, push, pack_to}
use Rattle.packing.specs.ByAreas.{pack_on, Ready, longer_by, extended_by, placed, push_area}
use Rattle.packing.proofs.PushLaws.{GoesOn, continues-some, continues-last, push-cases}

-- ---- stretches of pages

pub pack-start : (f : Slots) (n : ℕ) → pack_to f n ≡ pack_on start f 0 n
unfolding pack_to pack_on
pack-start f zero = refl
pack-start f (suc n) = let e : 0 + n ≡ n = omega arith in rw (e, pack-start f n)

pub pack-split : (b : Packed) (f : Slots) (from m n : ℕ) → pack_on b f from (m + n) ≡ pack_on (pack_on b f from m) f (from + m) n
unfolding pack_on
pack-split b f from m zero = let e : m + zero ≡ m = omega arith in rw e
pack-split b f from m (suc n) =
    let e : m + suc n ≡ suc (m + n) = omega arith in
    let g : from + (m + n) ≡ from + m + n = omega arith in
    rw (e, g, pack-split b f from m n)

pub pack-alike : (b : Packed) (f g : Slots) (from n : ℕ) → ((i : ℕ) → from ≤ i → i < from + n → f i ≡ g i) → pack_on b f from n ≡ pack_on b g from n
unfolding pack_on
pack-alike b f g from zero h = refl
pack-alike b f g from (suc n) h =
    rw (h (from + n) (omega arith) (omega arith), pack-alike b f g from n (λ i l u. h i l (omega arith)))

-- pages that are not mapped
pub pack-gap : (b : Packed) (f : Slots) (from n : ℕ) → ((i : ℕ) → from ≤ i → i < from + n → f i ≡ Unmapped) → pack_on b f from n ≡ b
unfolding pack_on push
pack-gap b f from zero h = refl
pack-gap b f from (suc n) h = rw (h (from + n) (omega arith) (omega arith), pack-gap b f from n (λ i l u. h i l (omega arith)))

-- ---- what is packed ends at the page that was reached

pub ready-later : (b : Packed) (page later : ℕ) → page ≤ later → Ready b page → Ready b later
ready-later b page later l r = record { eight = r.eight; few = r.few; end = λ h. omega (arith, r.end h) }

pub ready-start : Ready start 0
ready-start = record { eight = refl; few = omega arith; end = λ h. absurd (omega arith) }

ready-push : (b : Packed) (page : ℕ) (s : Slot) → Ready b page → Ready (push b page s) (suc page)
ready-push b page s r =
    push-cases (λ p. Ready p (suc page)) b page s (λ e. ready-later b page (suc page) (omega arith) r)
    (λ t e c. record {
      eight = length-set b.areas.list (b.areas.count - 1) (longer (last b.areas)) ∙ r.eight;
      few = r.few;
      end = λ h.
          rw (get_or-set_same b.areas.list (b.areas.count - 1) (longer (last b.areas)) none (omega (arith, r.eight, r.few)))
          (omega (arith, (continues-last b.areas page t c).end));
    })
    (λ t e c l. record {
      eight = length-set b.areas.list b.areas.count (single page t) ∙ r.eight;
      few = omega arith;
      end = λ h.
          let k : b.areas.count + 1 - 1 ≡ b.areas.count = omega arith in
          rw (k, get_or-set_same b.areas.list b.areas.count (single page t) none (omega (arith, r.eight))) (omega arith);
    })
    (λ t e c l. record { eight = r.eight; few = r.few; end = λ h. omega (arith, r.end h) })

pub ready_on : (b : Packed) (f : Slots) (from n : ℕ) → Ready b from → Ready (pack_on b f from n) (from + n)
unfolding pack_on
ready_on b f from zero r = let e : from + zero ≡ from = omega arith in rw e r
ready_on b f from (suc n) r =
    let e : from + suc n ≡ suc (from + n) = omega arith in
    rw e (ready-push (pack_on b f from n) (from + n) (f (from + n)) (ready_on b f from n r))

-- ---- a run of pages that agree

pub advance-more : (b : Backing) (m n : ℕ) → advance (advance b m) n ≡ advance b (m + n)
advance-more Anonymous m n = refl
advance-more (Image first) m n = ap (λ (k : ℕ). Image (record { 0 = k })) (omega arith)

-- so many pages on
abbrev pub on_by : Attributes → ℕ → Attributes
on_by t n = record { rights = t.rights; committed = t.committed; backing = advance t.backing n }

-- an area made longer by pages that go on there goes on with the next
goes_by : (a : Area) (page n : ℕ) (t : Attributes) → GoesOn a page t → goes_on (longer_by a n) (page + n) (on_by t n) ≡ true
unfolding goes_on
goes_by a page n t g =
    rw (
      eq-eqb (a.first.0 + (a.pages + n)) (page + n) (omega (arith, g.end)),
      eq-eqb a.rights t.rights g.rights,
      same_of a.committed t.committed g.mark,
      ← g.backing,
      advance-more,
    ) (follows-advance a.backing (a.pages + n))

-- a page more behind an area that was pushed: it belongs to it
module _ (b : Packed) (page : ℕ) (t : Attributes) (n : ℕ) (r : Ready b page) (some : 0 < n) where
  abbrev s : Areas
  s = b.areas

  abbrev a : Area
  a = area_from page n t

  sized : eqb n 0 ≡ false
  sized = ne_eqb n 0 (λ e. omega arith)

  sized-more : eqb (suc n) 0 ≡ false
  sized-more = ne_eqb (suc n) 0 (λ e. omega arith)

  one_more : (x : Area) → longer (longer_by x n) ≡ longer_by x (suc n)
  one_more x = let e : x.pages + n + 1 ≡ x.pages + suc n = omega arith in λ i. record {
    first = x.first;
    pages = e i;
    rights = x.rights;
    committed = x.committed;
    backing = x.backing;
  }

  module _ (on : continues s page t ≡ true) where
    k< : s.count - 1 < length s.list
    k< = omega (arith, r.eight, r.few, continues-some s page t on)

    was : get_or (set s.list (s.count - 1) (longer_by (last s) n)) (s.count - 1) none ≡ longer_by (last s) n
    was = get_or-set_same s.list (s.count - 1) (longer_by (last s) n) none k<

    goes : continues (extended_by s n) (page + n) (on_by t n) ≡ true
    unfolding continues
    goes = rw (lt-ltb 0 s.count (continues-some s page t on), was) (goes_by (last s) page n t (continues-last s page t on))

    longer-list : extended (extended_by s n) ≡ extended_by s (suc n)
    longer-list = rw (was, set-set s.list (s.count - 1) (longer_by (last s) n), one_more (last s))

    more-extends : push (push_area b a) (page + n) (page_on t n) ≡ push_area b (area_from page (suc n) t)
    unfolding push push_area
    more-extends = rw (sized, sized-more, on, goes, longer-list)

  module _ (off : continues s page t ≡ false) where
    module _ (room : s.count < 8) where
      c< : s.count < length s.list
      c< = omega (arith, r.eight)

      same_place : s.count + 1 - 1 ≡ s.count
      same_place = omega arith

      put : get_or (set s.list s.count a) s.count none ≡ a
      put = get_or-set_same s.list s.count a none c<

      goes-placed : continues (placed s a) (page + n) (on_by t n) ≡ true
      unfolding continues goes_on
      goes-placed =
          rw (
            lt-ltb 0 (s.count + 1) (omega arith),
            same_place,
            put,
            eq-eqb (page + n) (page + n) refl,
            eq-eqb t.rights t.rights refl,
            same_of t.committed t.committed refl,
          ) (follows-advance t.backing n)

      placed-list : extended (placed s a) ≡ placed s (area_from page (suc n) t)
      placed-list =
          let e : n + 1 ≡ suc n = omega arith in
          rw (same_place, put, set-set s.list s.count a, e)

      more-places : push (push_area b a) (page + n) (page_on t n) ≡ push_area b (area_from page (suc n) t)
      unfolding push push_area
      more-places = rw (sized, sized-more, off, lt-ltb s.count 8 room, goes-placed, placed-list)

    more-full : ltb s.count 8 ≡ false → push (push_area b a) (page + n) (page_on t n) ≡ push_area b (area_from page (suc n) t)
    unfolding push push_area
    more-full full =
        let stays : continues s (page + n) (on_by t n) ≡ false =
        by_cases (continues s (page + n) (on_by t n))
        (λ h. absurd (omega (arith, some, (continues-last s (page + n) (on_by t n) h).end, r.end (continues-some s (page + n) (on_by t n) h))))
        (λ h. h) in
        rw (sized, sized-more, off, full, stays, full)

  more : push (push_area b a) (page + n) (page_on t n) ≡ push_area b (area_from page (suc n) t)
  more =
      by_cases (continues s page t) more-extends
      (λ off. by_cases (ltb s.count 8) (λ l. more-places off (ltb-true s.count 8 l)) (more-full off))

-- the pages of a run pushed one by one are one area pushed
run-some : (b : Packed) (f : Slots) (page n : ℕ) (t : Attributes) → Ready b page → ((i : ℕ) → page ≤ i → i < page + suc n → f i ≡ page_on t (i - page))
    → pack_on b f page (suc n) ≡ push_area b (area_from page (suc n) t)
unfolding pack_on push push_area
run-some b f page zero t r h =
    let e : page + zero ≡ page = omega arith in
    let z : page - page ≡ 0 = omega arith in
    rw (e, h page (omega arith) (omega arith), z, advance-zero t.backing)
run-some b f page (suc n) t r h =
    let d : page + suc n - page ≡ suc n = omega arith in
    rw (h (page + suc n) (omega arith) (omega arith), d, run-some b f page n t r (λ i l u. h i l (omega arith)))
    (more b page t (suc n) r (omega arith))

pub run : (b : Packed) (f : Slots) (page n : ℕ) (t : Attributes) → Ready b page → ((i : ℕ) → page ≤ i → i < page + n → f i ≡ page_on t (i - page))
    → pack_on b f page n ≡ push_area b (area_from page n t)
unfolding pack_on push_area
run b f page zero t r h = refl
run b f page (suc n) t r h = run-some b f page n t r h

-- ---- an area pushed, by the code's ways out

module _ (b : Packed) (a : Area) where
  pub push-nothing : a.pages ≡ 0 → b ≡ push_area b a
  unfolding push_area
  push-nothing e = rw e

  module _ (some : eqb a.pages 0 ≡ false) (on : Bool) (is : on ≡ continues b.areas a.first.0 (attributes_of a)) where
    pub push-extends : on ≡ true → (r : Areas) → r ≡ extended_by b.areas a.pages → record { areas = r; fits = b.fits } ≡ push_area b a
    unfolding push_area
    push-extends e r h = rw (h, some, ← is, e)

    pub push_places : on ≡ false → b.areas.count < 8 → (r : Areas) → r ≡ placed b.areas a → record { areas = r; fits = b.fits } ≡ push_area b a
    unfolding push_area
    push_places e l r h = rw (h, some, ← is, e, lt-ltb _ _ l)

    pub push-full : on ≡ false → 8 ≤ b.areas.count → record { areas = b.areas; fits = false } ≡ push_area b a
    unfolding push_area
    push-full e l = rw (some, ← is, e, le-ltb _ _ l)
