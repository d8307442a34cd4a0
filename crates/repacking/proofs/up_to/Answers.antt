-- The areas that were passed are kept in their places; the first that starts behind the page ends the loop.
use Rattle.std.proofs.Common.{◌≡◌, ◌<◌, ◌≤◌, ◌∙◌, arith, get_or}
use Rattle.areas.specs.Areas.{none}
use Rattle.areas.proofs.WalkLaws.{held-length, held-at}
use Rattle.repacking.proofs.BeforeLaws.{Kept, kept-start, kept_next, kept-stop, kept-all}
use Rattle.repacking.proofs.up_to.Goals as goal

pub loop-area-init : goal.loop-area-init
loop-area-init c = rw c.empty-kept.ensures (kept-start c.args.areas c.requires.formed c.args.to)

pub returns-then-to-area : goal.returns-then-to-area
returns-then-to-area c =
    let a = c.args in
    let l = c.loop-area in
    let items = c.as_slice-area-items in
    let low : l.area-index < a.areas.count = omega (arith, held-length a.areas c.requires.formed _ items.ensures, c.loop-area-test.true) in
    let stop = rw (held-at a.areas c.requires.formed _ items.ensures l.area-index c.loop-area-test.true) at c.if-to-area.true in
    kept-stop a.areas c.requires.formed a.to l.area-index l.kept l.invariant low stop

pub loop-area-preserved : goal.loop-area-preserved
loop-area-preserved c =
    let a = c.args in
    let l = c.loop-area in
    let items = c.as_slice-area-items in
    let low : l.area-index < a.areas.count = omega (arith, held-length a.areas c.requires.formed _ items.ensures, c.loop-area-test.true) in
    let there : get_or items.result.now l.area-index none ≡ get_or a.areas.list l.area-index none =
    held-at a.areas c.requires.formed _ items.ensures l.area-index c.loop-area-test.true in
    let before = rw there at c.if-to-area.false in
    rw (c.from.ensures, l.invariant.count, c.part.ensures, there)
    (kept_next a.areas c.requires.formed a.to l.area-index l.kept l.invariant low (omega (arith, before)))

pub returns : goal.returns
returns c =
    let a = c.args in
    let l = c.loop-area in
    let past : a.areas.count ≤ l.area-index =
    omega (arith, held-length a.areas c.requires.formed _ c.as_slice-area-items.ensures, c.loop-area-test.false) in
    kept-all a.areas c.requires.formed a.to l.area-index l.kept l.invariant past
