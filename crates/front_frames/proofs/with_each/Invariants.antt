-- The run has the frames of the entries so far.
use Rattle.std.proofs.Common.{◌≡◌}
use Rattle.front_frames.specs.Fronts.{with_entries}
use Rattle.front_frames.proofs.with_each.Given as goal

abbrev pub invariant-loop-entry : goal.invariant-loop-entry
invariant-loop-entry l = l.all ≡ with_entries l.table l.at l.fn.run l.entry-index
