-- The frames of the runs that were passed are found.
use Rattle.std.proofs.Common.{◌≡◌}
use Rattle.runs.specs.Row.{row}
use Rattle.kept.specs.Test.{runs_to}
use Rattle.kept_soundness.proofs.add_runs.Given as goal

abbrev pub invariant-loop-run : goal.invariant-loop-run
invariant-loop-run l = l.all ≡ runs_to (row l.fn.runs) l.fn.found l.run-index
