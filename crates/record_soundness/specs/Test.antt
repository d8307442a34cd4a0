-- The test of a sandbox's record, as the code computes it. (proofs/RecordLaws: what it shows of a record; every sound record passes it.)
use Rattle.std.specs.Prelude.{Bool, not, ◌&&◌, ℕ, leb, eqb}
use Rattle.basics.specs.Choice.{implies}
use Rattle.interface.specs.Slots.{charge_of}
use Rattle.interface.specs.Limits.{between}
use Rattle.areas.specs.Areas.{slots}
use Rattle.areas.specs.Formed.{well_formed}
use Rattle.records.specs.declared.Record.{Record}
use Rattle.records.specs.Record.{copy_of}

-- an open sandbox has a share of 1 to 128; one without a snapshot has no snapshot area; a closed one has nothing
unfoldable pub fields_ok : Bool → ℕ → Bool → ℕ → ℕ → Bool
fields_ok opened share taken presentAreas snapshotAreas =
    implies opened (between 1 128 share)
    && (implies (not taken) (eqb snapshotAreas 0) && implies (not opened) (eqb share 0 && (eqb presentAreas 0 && not taken)))

-- over an image of so many pages: the areas, the snapshot's too, the charge within the share, and the rest
unfoldable pub record_ok : ℕ → Record → Bool
record_ok images r =
    well_formed images r.present
    && (well_formed images r.snapshot
    && (leb (charge_of (slots r.present) (copy_of r)) r.share
    && fields_ok r.opened r.share r.taken r.present.count r.snapshot.count))
