-- The places, behind the count, are tested as a row.
use Rattle.std.proofs.Common.{◌-◌, length, drop, length-drop, take_all, arith}
use Rattle.layout.specs.Layout.{is_areas}
use Rattle.places.proofs.area.is_areas.Goals as goal

pub returns : goal.returns
unfolding is_areas
returns c =
    let bytes = c.args.bytes.now in
    rw (take_all (length bytes - 1) (drop 1 bytes) (rw (length-drop 1 bytes) (omega arith))) at c.are_canonical.ensures
