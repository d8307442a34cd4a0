-- The six bytes stored in turn are those of the area: stores from the first byte to the last are the list of what was stored.
use Rattle.layout.specs.Layout.{area_bytes}
use Rattle.layout.proofs.PartsLaws.{stored-all}
use Rattle.fields.proofs.area.encode_area.Goals as goal

pub returns : goal.returns
unfolding area_bytes
returns c = rw (c.start_of.ensures, c.kind_of.ensures, c.flag.ensures) (stored-all (area_bytes c.args.area) c.args.out.now c.requires)
