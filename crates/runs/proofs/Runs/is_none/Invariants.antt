-- So far no place has a run, or one does.
use Rattle.std.proofs.Common.{◌≡◌}
use Rattle.basics.specs.Ranges.{every}
use Rattle.frames.specs.Frames.{none_held, same_held}
use Rattle.runs.specs.Row.{row}
use Rattle.runs.proofs.Runs.is_none.Given as goal

abbrev pub invariant-loop-run : goal.invariant-loop-run
invariant-loop-run l = l.none ≡ every (λ i. same_held (row l.fn.self i) none_held) 0 l.run-index
