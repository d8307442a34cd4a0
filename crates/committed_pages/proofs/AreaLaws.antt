-- A test of every page is a test of every area's pages, where it lets unmapped pages pass.
use Prim.Native.Nat.{ℕ, ◌+◌, ◌≤◌, ◌<◌}
use mathlib.Core.Path.{◌≡◌, refl, sym, ap, ◌∙◌}
use mathlib.Core.Bool.{Bool, true, false≢true}
use native.Mathlib.Omega.{arith}
use native.Mathlib.Decide.{dec_lt}
use lib.ListN.{get_or}
use Rattle.basics.specs.Ranges.{every}
use Rattle.basics.proofs.TestLaws.{by_cases, both_ways}
use Rattle.basics.proofs.LoopLaws.{every-at, every_of}
use Rattle.basics.proofs.RangeLaws.{inside-yes, inside_past, inside-first, inside-end}
use Rattle.interface.specs.declared.page.Slot.{Slot}
use Rattle.interface.specs.declared.page.Slot.TheVariants.{Unmapped}
use Rattle.interface.specs.Slots.{is_mapped}
use Rattle.interface.proofs.SlotLaws.{unmapped}
use Rattle.areas.specs.declared.area.Area.{Area}
use Rattle.areas.specs.declared.area.Areas.{Areas}
use Rattle.areas.specs.Areas.{none, covers, slot_of, slots}
use Rattle.areas.specs.Walk.{Formed}
use Rattle.areas.proofs.SlotLaws.{covers-none, slot-hit, found}
use Rattle.areas.proofs.WalkLaws.{order}
use Rattle.committed_pages.specs.Parts.{mark_ok, backing_ok}
use Rattle.committed_pages.proofs.RestLaws.{every-alike, every-const}

-- the pages of one area agree with the snapshot in backing
abbrev pub backed_area : Areas → Area → Bool
backed_area copy a = every (λ i. backing_ok (slot_of a i) (slots copy i)) a.first.0 a.pages

module _ (s : Areas) (F : Formed s) where
  abbrev at : ℕ → Area
  at k = get_or s.list k none

  -- an area says what stands at its pages
  pub area-says : (k i : ℕ) → k < s.count → (at k).first.0 ≤ i → i < (at k).first.0 + (at k).pages → slots s i ≡ slot_of (at k) i
  area-says k i l a b =
      slot-hit s.list i k (inside-yes (at k).first.0 (at k).pages i a b) (λ j d. inside_past _ _ i (omega (arith, order s F j k d l)))

  -- the area of a mapped page
  pub mapped-by : (i : ℕ) → is_mapped (slots s i) ≡ true
      → (k : ℕ) × (k < s.count) × ((at k).first.0 ≤ i) × (i < (at k).first.0 + (at k).pages) × (slot_of (at k) i ≡ slots s i)
  mapped-by i m =
      let r = found s.list i m in
      let k : ℕ = r.place in (
        k,
        used k r.covered (dec_lt k s.count),
        inside-first (at k).first.0 (at k).pages i r.covered,
        inside-end (at k).first.0 (at k).pages i r.covered,
        r.gives,
      )
    where
      used : (k : ℕ) → covers (at k) i ≡ true → Dec (k < s.count) → k < s.count
      used k c (yes d) = d
      used k c (no d) = absurd (false≢true (sym (ap (λ (a : Area). covers a i) (F.formed.rest k (omega arith)) ∙ covers-none i) ∙ c))

  module _ (R : Slot → ℕ → Bool) (pass : (i : ℕ) → R Unmapped i ≡ true) where
    -- whether the pages of one area pass
    abbrev pub area_ok : Area → Bool
    area_ok a = every (λ i. R (slot_of a i) i) a.first.0 a.pages

    abbrev test : ℕ → Bool
    test i = R (slots s i) i

    pub by-areas : every (λ k. area_ok (at k)) 0 s.count ≡ every test 0 64
    by-areas =
        both_ways _ _
        (λ w. every_of test 0 64 (λ i l u. by_cases (is_mapped (slots s i)) (λ m. mapped w i (mapped-by i m))
        (λ m. ap (λ (x : Slot). R x i) (unmapped (slots s i) m) ∙ pass i)))
        (λ w. every_of (λ k. area_ok (at k)) 0 s.count (λ k l u. every_of (λ i. R (slot_of (at k) i) i) (at k).first.0 (at k).pages
        (λ i a b. sym (ap (λ (x : Slot). R x i) (area-says k i (omega arith) a b))
        ∙ every-at test 0 64 w i (omega arith) (omega (arith, (F.formed.each k (omega arith)).inside)))))
      where
        mapped : every (λ k. area_ok (at k)) 0 s.count ≡ true → (i : ℕ)
            → (k : ℕ) × (k < s.count) × ((at k).first.0 ≤ i) × (i < (at k).first.0 + (at k).pages) × (slot_of (at k) i ≡ slots s i) → test i ≡ true
        mapped w i m =
            ap (λ (x : Slot). R x i) (sym m.4)
            ∙ every-at (λ i. R (slot_of (at m.0) i) i) (at m.0).first.0 (at m.0).pages
            (every-at (λ k. area_ok (at k)) 0 s.count w m.0 (omega arith) (omega (arith, m.1))) i m.2 m.3

  -- the pages of the areas are committed where the areas are
  pub committed-areas : every (λ k. (at k).committed) 0 s.count ≡ every (λ i. mark_ok (slots s i)) 0 64
  committed-areas =
      every-alike (λ k. (at k).committed) (λ k. area_ok (λ x i. mark_ok x) (λ i. refl) (at k)) 0 s.count
      (λ k a b. sym (every-const (at k).committed (at k).first.0 (at k).pages (F.formed.each k (omega arith)).some))
      ∙ by-areas (λ x i. mark_ok x) (λ i. refl)

  -- and agree with the snapshot in backing where each area's do
  pub backed-areas : (copy : Areas) → every (λ k. backed_area copy (at k)) 0 s.count ≡ every (λ i. backing_ok (slots s i) (slots copy i)) 0 64
  backed-areas copy = by-areas (λ x i. backing_ok x (slots copy i)) (λ i. refl)
