-- The mapped pages of the range in the areas that were passed are counted: areas stand apart, so each page is counted once.
use Rattle.std.proofs.Common.{◌≡◌, ◌+◌, arith}
use Rattle.areas.proofs.WalkLaws.{held-length}
use Rattle.area_counts.proofs.MappedLaws.{Covered, covered-on, covered-small, covered-all}
use Rattle.area_counts.proofs.mapped_in.Goals as goal

pub loop-area-preserved : goal.loop-area-preserved
loop-area-preserved c =
    let l = c.loop-area in
    let a = c.args in
    covered-on a.areas c.requires.formed a.first.0 a.n c.requires.n_bound _ c.as_slice-area-items.ensures l.area-index l.pages _
    c.loop-area-test.true c.overlap-pages.ensures l.invariant

pub overflow_add-pages : goal.overflow_add-pages
overflow_add-pages c =
    let l = c.loop-area in
    let a = c.args in
    let next : Covered a.areas a.first.0 a.n (l.area-index + 1) (l.pages + c.overlap-pages.result) =
    covered-on a.areas c.requires.formed a.first.0 a.n c.requires.n_bound _ c.as_slice-area-items.ensures l.area-index l.pages _
    c.loop-area-test.true c.overlap-pages.ensures l.invariant in
    record { fits = omega (arith, covered-small a.areas c.requires.formed a.first.0 a.n c.requires.n_bound _ _ next) }

pub returns : goal.returns
returns c =
    let l = c.loop-area in
    let a = c.args in
    covered-all a.areas c.requires.formed a.first.0 a.n c.requires.n_bound l.area-index l.pages
    (omega (arith, held-length a.areas c.requires.formed _ c.as_slice-area-items.ensures, c.loop-area-test.false)) l.invariant
