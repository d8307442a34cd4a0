-- The test of an area's bytes is the definition's, to the letter.
use Rattle.std.proofs.Common.{refl}
use Rattle.layout.specs.Layout.{is_area}
use Rattle.fields.proofs.area.is_area.Goals as goal

pub returns : goal.returns
unfolding is_area
returns c = refl
