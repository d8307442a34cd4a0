-- The places are a row of areas; with the count, stored over the first byte, they are the bytes of the areas.
use Rattle.std.proofs.Common.{[], ◌∷◌}
use Rattle.areas.specs.Areas.{none}
use Rattle.layout.specs.Rows.{part, row_bytes}
use Rattle.layout.specs.Layout.{places_size, area_bytes, areas_bytes}
use Rattle.layout.proofs.LengthLaws.{length-places}
use Rattle.layout.proofs.PartsLaws.{laid_out}
use Rattle.places.proofs.area.encode_areas.Goals as goal

pub returns : goal.returns
unfolding areas_bytes
returns c =
    let s = c.args.areas in
    rw (c.encode_row.ensures none)
    (laid_out (s.count ∷ []) (part places_size (row_bytes area_bytes none 8 s.list) ∷ []) c.args.out.now c.requires (length-places s.list, tt))
