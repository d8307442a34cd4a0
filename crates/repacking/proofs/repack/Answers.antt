-- The pages before the changed ones, these, and those behind them are packed one stretch behind the other.
use Rattle.std.proofs.Common.{◌≡◌, ◌≤◌, ◌+◌, min, arith}
use Rattle.areas.specs.Areas.{slots}
use Rattle.packing.specs.ByAreas.{Ready}
use Rattle.repacking.proofs.RepackLaws.{ready-up-to, ready-reached, repack-all}
use Rattle.repacking.proofs.repack.Goals as goal

pub with_change-changed-requires-clause-ready : goal.with_change-changed-requires-clause-ready
with_change-changed-requires-clause-ready c = ready-up-to _ _ c.within-from.result c.up_to-before.ensures

pub with_parts-requires-clause-ready : goal.with_parts-requires-clause-ready
with_parts-requires-clause-ready c =
    let from-is : c.within-from.result ≡ min c.args.first.0 64 = rw c.from.ensures at c.within-from.ensures in
    let to-is : c.within-to.result ≡ min (c.args.first.0 + c.args.n) 64 = rw (c.from-2.ensures, c.from-3.ensures) at c.within-to.ensures in
    ready-reached _ _ _ c.within-from.result c.within-to.result (omega (arith, from-is, to-is))
    (ready-up-to _ _ c.within-from.result c.up_to-before.ensures) c.with_change-changed.ensures

pub returns : goal.returns
returns c =
    let a = c.args in
    let from-is : c.within-from.result ≡ min a.first.0 64 = rw c.from.ensures at c.within-from.ensures in
    let to-is : c.within-to.result ≡ min (a.first.0 + a.n) 64 = rw (c.from-2.ensures, c.from-3.ensures) at c.within-to.ensures in
    repack-all (slots a.areas) a.first.0 a.n a.change c.within-from.result c.within-to.result from-is to-is _ _ _
    c.up_to-before.ensures c.with_change-changed.ensures c.with_parts.ensures
