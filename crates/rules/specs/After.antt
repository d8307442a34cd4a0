-- The record of a sandbox after an accepted request.
use Rattle.std.specs.Prelude.{Bool, true, ◌||◌}
use Rattle.basics.specs.Choice.{◌when◌else◌}
use Rattle.interface.specs.declared.request.Request.{Request}
use Rattle.interface.specs.Requests.{◌is◌, map_code, unmap_code, protect_code, snapshot_code, rewind_code}
use Rattle.interface.specs.Outcome.{slots_after, share_after}
use Rattle.areas.specs.declared.area.Areas.{Areas}
use Rattle.areas.specs.Areas.{slots}
use Rattle.packing.specs.declared.pack.Packed.{Packed}
use Rattle.packing.specs.Pack.{pack}
use Rattle.records.specs.declared.Record.{Record}
use Rattle.records.specs.Record.{with_opened, with_share, with_present, with_taken, with_snapshot, copy_of}

-- the calls after which the areas are packed anew
abbrev pub changes : Request → Bool
changes q = q is map_code || (q is unmap_code || (q is protect_code || q is snapshot_code))

-- the areas that result, and whether they fit: "more than 8 areas would result"
unfoldable pub packed_after : Request → Record → Packed
packed_after q b =
    pack (slots_after q (slots b.present) (copy_of b)) when changes q else
    record { areas = b.snapshot; fits = true } when q is rewind_code else
    record { areas = b.present; fits = true }

abbrev pub present_after : Request → Record → Areas
present_after q b = (packed_after q b).areas

-- "snapshot: every mapped page becomes committed": the snapshot's areas are those that it leaves
unfoldable pub taken_after : Request → Bool → Bool
taken_after q taken = true when q is snapshot_code else taken

unfoldable pub snapshot_after : Request → Areas → Areas → Areas
snapshot_after q present snapshot = present when q is snapshot_code else snapshot

-- the record with these areas, and what else the request changes in it
abbrev pub record_with : Request → Areas → Record → Record
record_with q present b =
    with_opened true
    (with_share (share_after q b.share)
    (with_present present (with_taken (taken_after q b.taken) (with_snapshot (snapshot_after q present b.snapshot) b))))

abbrev pub record_after : Request → Record → Record
record_after q b = record_with q (present_after q b) b
