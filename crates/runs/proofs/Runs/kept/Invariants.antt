-- The lengths of the runs that were passed are summed.
use Rattle.std.proofs.Common.{◌≡◌, ◌≤◌, ◌*◌}
use Rattle.basics.specs.Ranges.{sum}
use Rattle.runs.specs.Row.{lengths_of}
use Rattle.runs.proofs.Runs.kept.Given as goal

abbrev pub invariant-loop-run : goal.invariant-loop-run
invariant-loop-run l = (l.n ≤ l.run-index * 128) × (l.n ≡ sum (lengths_of l.fn.self) l.run-index)
