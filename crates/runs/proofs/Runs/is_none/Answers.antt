-- So far no place has a run, or one does.
use Rattle.std.proofs.Common.{refl, sym}
use Rattle.basics.specs.Ranges.{every}
use Rattle.basics.proofs.LoopLaws.{every-last}
use Rattle.frames.specs.Frames.{same_held, none_held}
use Rattle.runs.specs.Row.{row}
use Rattle.runs.proofs.Runs.is_none.Goals as goal

pub loop-run-init : goal.loop-run-init
unfolding every
loop-run-init c = refl

pub loop-run-preserved : goal.loop-run-preserved
loop-run-preserved c =
    rw (c.loop-run.invariant, c.eq-none.ensures, c.none.ensures) (sym (every-last (λ i. same_held (row c.args.self i) none_held) c.loop-run.run-index))
