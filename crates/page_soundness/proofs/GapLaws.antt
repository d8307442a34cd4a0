-- Entries that name a frame only at mapped pages: those before each area and behind the last are all 0.
use Prim.Native.Nat.{ℕ, ◌-◌, ◌≤◌, ◌<◌}
use mathlib.Core.Path.{◌≡◌, sym, ap, ◌∙◌}
use mathlib.Core.Bool.{Bool, true, false}
use native.Mathlib.Omega.{arith}
use native.Mathlib.Decide.{dec_lt}
use lib.Dec.{eqb}
use lib.ListN.{get_or}
use Rattle.basics.specs.Ranges.{every}
use Rattle.basics.proofs.LoopLaws.{every-at, every-fails}
use Rattle.interface.specs.declared.page.Slot.{Slot}
use Rattle.interface.specs.declared.page.Slot.TheVariants.{Unmapped}
use Rattle.areas.specs.declared.area.Area.{Area}
use Rattle.areas.specs.declared.area.Areas.{Areas}
use Rattle.areas.specs.Areas.{none, slots}
use Rattle.areas.specs.Walk.{Formed}
use Rattle.areas.proofs.WalkLaws.{end_of, Before, before-gap, before_last}
use Rattle.committed_pages.proofs.RestLaws.{every-over, every-not, every-alike}
use Rattle.committed_pages.proofs.AreaLaws.{area-says}
use Rattle.page_soundness.specs.Entries.{entry_ok}

module _ (s : Areas) (F : Formed s) (entry : ℕ → ℕ) where
  abbrev at : ℕ → Area
  at k = get_or s.list k none

  abbrev is_zero : ℕ → Bool
  is_zero i = eqb (entry i) 0

  abbrev test : ℕ → Bool
  test i = entry_ok (slots s i) (entry i)

  -- at an unmapped page, and at a mapped one
  bare : (i : ℕ) → slots s i ≡ Unmapped → test i ≡ is_zero i
  bare i e = ap (λ (x : Slot). entry_ok x (entry i)) e

  module _ (k page : ℕ) (b : Before s k page) where
    module _ (l : k < s.count) (r : Bool) (e : r ≡ every is_zero page ((at k).first.0 - page)) where
      -- nothing stands before the area, and its own entries may name frames
      pub gap-passes : r ≡ true → every test page (64 - page) ≡ every test (end_of s k) (64 - end_of s k)
      gap-passes t =
          every-over test 64 page (end_of s k) (omega (arith, b.ahead k (omega arith) l)) (λ i x y z. go i x y (dec_lt i (at k).first.0))
        where
          go : (i : ℕ) → page ≤ i → i < end_of s k → Dec (i < (at k).first.0) → test i ≡ true
          go i x y (yes d) = bare i (before-gap s F k page b l i x d) ∙ every-at is_zero page ((at k).first.0 - page) (sym e ∙ t) i x (omega arith)
          go i x y (no d) = ap (λ (x : Slot). entry_ok x (entry i)) (area-says s F k i l (omega arith) y)

      -- an entry before the area names a frame
      pub gap-fails : r ≡ false → every test page (64 - page) ≡ false
      gap-fails f =
          let w = every-fails is_zero page ((at k).first.0 - page) (sym e ∙ f) in
          every-not test 64 page w.0 w.1 (omega (arith, w.2, (F.formed.each k l).inside))
          (bare w.0 (before-gap s F k page b l w.0 w.1 (omega (arith, w.1, w.2))) ∙ w.3)

    -- behind the last area
    pub gap-last : s.count ≤ k → every is_zero page (64 - page) ≡ every test page (64 - page)
    gap-last l = every-alike is_zero test page (64 - page) (λ i x y. sym (bare i (before_last s F k page b l i x)))
