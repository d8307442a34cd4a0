-- One share more at each turn.
use Rattle.std.proofs.Common.{◌≡◌, refl, ap, arith, ◌∙◌, get_or, length}
use Rattle.basics.specs.Ranges.{sum}
use Rattle.basics.proofs.TestLaws.{length-mapped}
use Rattle.basics.proofs.ListLaws.{get_d_any}
use Rattle.runs.proofs.RowLaws.{sum_more}
use Rattle.state.specs.declared.sandbox.Sandbox.{Sandbox}
use Rattle.state.specs.World.{closed_sandbox}
use Rattle.state.proofs.SharesLaws.{zero_sandbox}
use Rattle.totals.proofs.shares.Goals as goal

pub loop-b-init : goal.loop-b-init
unfolding sum
loop-b-init c = (refl, omega arith)

pub overflow_add-n : goal.overflow_add-n
overflow_add-n c = omega arith

pub loop-b-preserved : goal.loop-b-preserved
loop-b-preserved c =
    let l = c.loop-b in
    let four : length c.args.sandboxes ≡ 4 = search length-mapped in
    let same = get_d_any c.args.sandboxes l.b-index zero_sandbox closed_sandbox (omega arith) in (
      sum_more (λ s. (get_or c.args.sandboxes s closed_sandbox).rec.share) l.b-index l.n _ l.invariant.0
          (ap (λ (b : Sandbox). b.rec.share) same),
      omega arith,
    )
