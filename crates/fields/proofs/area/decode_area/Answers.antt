-- The area read from six bytes is the definition's, field by field.
use Rattle.layout.specs.Layout.{area_from}
use Rattle.fields.proofs.area.decode_area.Goals as goal

pub returns : goal.returns
unfolding area_from
returns c = rw c.backing_from.ensures
