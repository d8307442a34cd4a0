-- After each of the lines, what was read is one roll played.
use Rattle.state.specs.World.{world_of}
use Rattle.archiver.proofs.InputLaws.{SoFar}
use Rattle.archiver.proofs.roll_input.play_input.Given as goal

abbrev pub invariant-loop-line : goal.invariant-loop-line
invariant-loop-line l = SoFar l.image (world_of l.initial.machine l.initial.pool l.initial.table) l.line (world_of l.machine l.pool l.table)
