-- The test of a record, by each return of its code.
use Prim.Native.Nat.{ℕ, ◌≤◌, ◌<◌}
use mathlib.Core.Path.{◌≡◌, ◌∙◌}
use mathlib.Core.Bool.{Bool, true, false}
use borrow.Author.Tests.{le-leb, lt-leb}
use Rattle.interface.specs.Slots.{charge_of}
use Rattle.areas.specs.declared.area.Areas.{Areas}
use Rattle.areas.specs.Areas.{slots}
use Rattle.areas.specs.Formed.{well_formed}
use Rattle.areas.specs.Walk.{Formed}
use Rattle.areas.proofs.FormedLaws.{formed}
use Rattle.areas.proofs.WalkLaws.{settled}
use Rattle.records.specs.declared.Record.{Record}
use Rattle.records.specs.Record.{copy_of}
use Rattle.record_soundness.specs.Test.{fields_ok, record_ok}

-- areas whose test was passed are well formed, as a walk along them asks
pub tested-formed : (images : ℕ) (a : Areas) → well_formed images a ≡ true → images ≤ 64 → Formed a
tested-formed images a passed few = settled images a (formed images a passed) few

module _ (images : ℕ) (r : Record) where
  pub present-fails : well_formed images r.present ≡ false → false ≡ record_ok images r
  unfolding record_ok
  present-fails e = rw e

  module _ (present : well_formed images r.present ≡ true) where
    pub snapshot-fails : well_formed images r.snapshot ≡ false → false ≡ record_ok images r
    unfolding record_ok
    snapshot-fails e = rw (present, e)

    module _ (snapshot : well_formed images r.snapshot ≡ true) (charge : ℕ) (is : charge ≡ charge_of (slots r.present) (copy_of r)) where
      pub charge-fails : r.share < charge → false ≡ record_ok images r
      unfolding record_ok
      charge-fails h = rw (present, snapshot, ← is, lt-leb charge r.share h)

      pub fields-decide : charge ≤ r.share → (t : Bool) → t ≡ fields_ok r.opened r.share r.taken r.present.count r.snapshot.count
          → t ≡ record_ok images r
      unfolding record_ok
      fields-decide h t e = e ∙ rw (present, snapshot, ← is, le-leb charge r.share h)
