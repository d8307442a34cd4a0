-- No gap starts before the page that the walk has come to, so the lowest one starts there, if it fits before the next area, or further on.
use Rattle.std.proofs.Common.{◌≡◌, ◌≤◌, arith}
use Rattle.areas.proofs.WalkLaws.{held-length}
use Rattle.area_gaps.proofs.GapLaws.{sought-start, held-before, held-behind, gap-last, gap-none}
use Rattle.area_gaps.proofs.lowest_gap.Goals as goal

pub loop-area-init : goal.loop-area-init
loop-area-init c = sought-start c.args.areas c.args.n

pub returns-then-n-area : goal.returns-then-n-area
returns-then-n-area c =
    let l = c.loop-area in
    held-before c.args.areas c.requires c.args.n l.area-index l.page l.invariant _ c.as_slice-area-items.ensures c.loop-area-test.true c.if-n-area.true

pub loop-area-preserved : goal.loop-area-preserved
loop-area-preserved c =
    let l = c.loop-area in
    held-behind c.args.areas c.requires c.args.n l.area-index l.page l.invariant _ c.as_slice-area-items.ensures c.loop-area-test.true c.if-n-area.false

pub returns-then-n-page : goal.returns-then-n-page
returns-then-n-page c =
    let l = c.loop-area in
    let past : c.args.areas.count ≤ l.area-index =
    omega (arith, held-length c.args.areas c.requires _ c.as_slice-area-items.ensures, c.loop-area-test.false) in
    gap-last c.args.areas c.requires c.args.n l.area-index l.page l.invariant past c.if-n-page.true

pub returns : goal.returns
returns c =
    let l = c.loop-area in
    let past : c.args.areas.count ≤ l.area-index =
    omega (arith, held-length c.args.areas c.requires _ c.as_slice-area-items.ensures, c.loop-area-test.false) in
    gap-none c.args.areas c.requires c.args.n l.area-index l.page l.invariant past c.if-n-page.false
