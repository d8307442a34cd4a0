-- The pages of the areas that were passed are counted: areas stand apart, so each page is counted once.
use Rattle.std.proofs.Common.{◌≡◌, ◌+◌, arith}
use Rattle.areas.proofs.WalkLaws.{held-length}
use Rattle.area_counts.proofs.CountedLaws.{Counted, counted_start, counted-on, counted-small, counted-all}
use Rattle.area_counts.proofs.pages.Goals as goal

pub loop-area-init : goal.loop-area-init
loop-area-init c = counted_start c.args.areas c.args.committed

pub loop-area-preserved : goal.loop-area-preserved
loop-area-preserved c =
    let l = c.loop-area in
    let a = c.args in
    counted-on a.areas c.requires a.committed _ c.as_slice-area-items.ensures l.area-index l.n _ c.loop-area-test.true c.counted-n.ensures l.invariant

pub overflow_add-n : goal.overflow_add-n
overflow_add-n c =
    let l = c.loop-area in
    let a = c.args in
    let next : Counted a.areas a.committed (l.area-index + 1) (l.n + c.counted-n.result) =
    counted-on a.areas c.requires a.committed _ c.as_slice-area-items.ensures l.area-index l.n _ c.loop-area-test.true c.counted-n.ensures l.invariant in
    record { fits = omega (arith, counted-small _ _ _ _ next) }

pub returns : goal.returns
returns c =
    let l = c.loop-area in
    let a = c.args in
    counted-all a.areas c.requires a.committed l.area-index l.n
    (omega (arith, held-length a.areas c.requires _ c.as_slice-area-items.ensures, c.loop-area-test.false)) l.invariant
