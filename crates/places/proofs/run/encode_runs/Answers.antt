-- The runs are a row of marks.
use Rattle.frames.specs.Frames.{none_held}
use Rattle.layout.specs.Layout.{runs_bytes}
use Rattle.places.proofs.run.encode_runs.Goals as goal

pub returns : goal.returns
unfolding runs_bytes
returns c = c.encode_row.ensures none_held
