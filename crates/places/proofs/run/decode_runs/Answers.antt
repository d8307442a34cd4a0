-- The runs are a row of marks.
use Rattle.layout.specs.Layout.{runs_from}
use Rattle.places.proofs.run.decode_runs.Goals as goal

pub returns : goal.returns
unfolding runs_from
returns c = λ i. record { list = c.decode_row.ensures i }
