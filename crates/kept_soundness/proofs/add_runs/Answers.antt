-- The loop has the frames of the runs that were passed.
use Rattle.std.proofs.Common.{refl, sym, ◌∙◌}
use Rattle.runs.specs.Row.{row}
use Rattle.kept.specs.Test.{runs_to}
use Rattle.kept.proofs.TestLaws.{none-added, runs-more}
use Rattle.kept_soundness.proofs.add_runs.Goals as goal

pub returns-then-is_none : goal.returns-then-is_none
returns-then-is_none c = none-added (row c.args.runs) c.args.found (sym c.is_none.ensures ∙ c.if-is_none.true)

pub loop-run-init : goal.loop-run-init
unfolding runs_to
loop-run-init c = refl

pub loop-run-preserved : goal.loop-run-preserved
loop-run-preserved c =
    let l = c.loop-run in
    c.add_run-all.ensures ∙ runs-more (row c.args.runs) c.args.found l.all l.run-index _ l.invariant refl
