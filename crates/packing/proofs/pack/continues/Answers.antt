-- Without areas none goes on; else the last area says it.
use Rattle.std.proofs.Common.{◌≡◌, ◌<◌, arith}
use borrow.Author.Tests.{lt-ltb}
use Rattle.packing.specs.Pack.{continues}
use Rattle.packing.proofs.pack.continues.Goals as goal

pub returns-then-areas-eq0 : goal.returns-then-areas-eq0
unfolding continues
returns-then-areas-eq0 c = rw c.if-areas-eq0.true

pub returns : goal.returns
unfolding continues
returns c =
    let some : 0 < c.args.areas.count = omega arith in
    rw (c.goes_on.ensures, c.from.ensures, c.attributes.ensures, lt-ltb 0 _ some)
