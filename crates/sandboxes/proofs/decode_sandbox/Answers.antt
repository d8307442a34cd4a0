-- The sandbox read is the definition's, field by field.
use Rattle.pages.specs.Parts.{part_at}
use Rattle.layout.specs.Layout.{sandbox_from}
use Rattle.sandboxes.proofs.decode_sandbox.Goals as goal

pub returns : goal.returns
unfolding sandbox_from part_at
returns c = rw (c.decode_areas.ensures, c.decode_areas-2.ensures, c.decode_runs.ensures)
