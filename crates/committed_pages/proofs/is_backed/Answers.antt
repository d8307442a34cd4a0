-- An area that is not committed asks nothing; of any other the walk says how far the snapshot has its pages.
use Rattle.std.proofs.Common.{ℕ, ◌≡◌, ◌<◌, ◌+◌, ◌∙◌, arith}
use borrow.Author.Tests.{not-true, not-false}
use Rattle.areas.specs.Areas.{slots}
use Rattle.areas.proofs.WalkLaws.{held-length, held-at}
use Rattle.committed_pages.proofs.BackedLaws.{Come, come-start, come-next, come-all, uncommitted-passes, committed-is}
use Rattle.committed_pages.proofs.is_backed.Goals as goal

pub returns-then-not-area : goal.returns-then-not-area
returns-then-not-area c = let a = c.args in uncommitted-passes a.area (slots a.snapshot) (not-true _ c.if-not-area.true)

pub loop-copy-preserved : goal.loop-copy-preserved
loop-copy-preserved c =
    let a = c.args in
    let l = c.loop-copy in
    let items = c.as_slice-copy-items in
    let low : l.copy-index < a.snapshot.count = omega (arith, held-length a.snapshot c.requires _ items.ensures, c.loop-copy-test.true) in
    rw (c.reached-page.ensures, held-at a.snapshot c.requires _ items.ensures l.copy-index c.loop-copy-test.true)
    (come-next a.snapshot a.area c.requires l.copy-index l.page low l.invariant)

pub returns : goal.returns
returns c =
    let a = c.args in
    let l = c.loop-copy in
    let end : l.copy-index ≡ a.snapshot.count = omega (arith, held-length a.snapshot c.requires _ c.as_slice-copy-items.ensures) in
    let come : Come a.snapshot a.area a.snapshot.count l.page = rw end at l.invariant in
    rw (c.from.ensures, c.from-2.ensures)
    (come-all a.snapshot a.area c.requires l.page come ∙ committed-is a.area (slots a.snapshot) (not-false _ c.if-not-area.false))
