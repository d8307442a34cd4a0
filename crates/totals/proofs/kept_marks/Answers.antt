-- The marks of the runs of one sandbox more at each turn.
use Rattle.std.proofs.Common.{◌≡◌, ap, arith, get_or, length}
use Rattle.basics.proofs.TestLaws.{length-mapped}
use Rattle.basics.proofs.ListLaws.{get_d_any}
use Rattle.runs.specs.Row.{row}
use Rattle.kept.specs.Test.{kept_to}
use Rattle.kept.proofs.TestLaws.{kept_more}
use Rattle.state.specs.declared.sandbox.Sandbox.{Sandbox}
use Rattle.state.specs.World.{closed_sandbox}
use Rattle.state.proofs.SharesLaws.{zero_sandbox}
use Rattle.totals.proofs.kept_marks.Goals as goal

pub loop-sandbox-init : goal.loop-sandbox-init
unfolding kept_to
loop-sandbox-init c = rw c.none.ensures

pub loop-sandbox-preserved : goal.loop-sandbox-preserved
loop-sandbox-preserved c =
    let l = c.loop-sandbox in
    let four : length c.args.sandboxes ≡ 4 = search length-mapped in
    let same = get_d_any c.args.sandboxes l.sandbox-index zero_sandbox closed_sandbox (omega arith) in
    kept_more (λ s. row (get_or c.args.sandboxes s closed_sandbox).runs) l.sandbox-index l.found _
    (row (get_or c.args.sandboxes l.sandbox-index zero_sandbox).runs) l.invariant (ap (λ (b : Sandbox). row b.runs) same) c.add_runs-found.ensures
