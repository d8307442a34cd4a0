-- The pass over the first k groups of entries.
use Rattle.std.proofs.Common.{◌≡◌, ◌*◌}
use Rattle.marks.specs.Marks.{from}
use Rattle.entry_pass.specs.Pass.{pass_to}
use Rattle.entry_pass.proofs.marks_of.Given as goal

abbrev pub invariant-loop-k : goal.invariant-loop-k
invariant-loop-k l = l.found ≡ pass_to l.frames (from l.first l.table) (l.k * 8)
