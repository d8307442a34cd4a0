-- The test of a sandbox's bytes is the definition's.
use Rattle.pages.specs.Parts.{part_at}
use Rattle.layout.specs.Layout.{is_sandbox}
use Rattle.sandboxes.proofs.is_sandbox.Goals as goal

pub returns : goal.returns
unfolding is_sandbox part_at
returns c = rw (c.is_areas.ensures, c.is_areas-2.ensures)
