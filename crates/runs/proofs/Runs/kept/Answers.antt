-- The lengths of the runs that were passed are summed: one more at each turn.
use Rattle.std.proofs.Common.{refl, arith, ◌∙◌}
use Rattle.basics.specs.Ranges.{sum}
use Rattle.runs.specs.Row.{lengths_of}
use Rattle.runs.proofs.RowLaws.{sum_more}
use Rattle.runs.proofs.Runs.kept.Goals as goal

pub loop-run-init : goal.loop-run-init
unfolding sum
loop-run-init c = (omega arith, refl)

pub loop-run-preserved : goal.loop-run-preserved
loop-run-preserved c =
    let l = c.loop-run in
    (omega (arith, c.from-n.ensures), sum_more (lengths_of c.args.self) l.run-index l.n _ l.invariant.1 (c.from-n.ensures ∙ c.frames_in.ensures.value))
