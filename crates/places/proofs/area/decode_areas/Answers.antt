-- The count is the first byte, and the places are the row behind it.
use Rattle.std.proofs.Common.{◌-◌, length, drop, length-drop, take_all, arith, slice_index_or}
use Rattle.layout.specs.Layout.{areas_from}
use Rattle.places.proofs.area.decode_areas.Goals as goal

pub returns : goal.returns
unfolding areas_from
returns c =
    let bytes = c.args.bytes.now in
    let places = rw (take_all (length bytes - 1) (drop 1 bytes) (rw (length-drop 1 bytes) (omega arith))) at c.decode_row.ensures in
    λ i. record { count = slice_index_or bytes 0 0; list = places i }
