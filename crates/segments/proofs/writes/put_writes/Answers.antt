-- The writes of a snapshot: a turn for each page.
use Rattle.std.proofs.Common.{ap, refl}
use Rattle.printing.proofs.PutLaws.{turn-first, turn-room, turn-next}
use Rattle.page_writes.specs.PageLines.{page_lines}
use Rattle.segments.specs.ByPages.{writes_at}
use Rattle.segments.proofs.writes.put_writes.Goals as goal

pub loop-i-init : goal.loop-i-init
loop-i-init c = let a = c.args in turn-first a.to a.out.now (writes_at a.image.now a.pool.now a.table.now a.snapshot) 64

pub put_page-next-requires-clause-room : goal.put_page-next-requires-clause-room
put_page-next-requires-clause-room c =
    let a = c.args in
    let l = c.loop-i in
    rw c.slot.ensures
    (turn-room a.to a.out.now (writes_at a.image.now a.pool.now a.table.now a.snapshot) 64 c.requires.room l.next l.out l.i l.invariant c.loop-i-test.true
    _ refl)

pub loop-i-preserved : goal.loop-i-preserved
loop-i-preserved c =
    let a = c.args in
    let l = c.loop-i in
    let page = c.put_page-next in
    turn-next a.to a.out.now (writes_at a.image.now a.pool.now a.table.now a.snapshot) 64 c.requires.room l.next l.out l.i l.invariant c.loop-i-test.true _
    (ap (page_lines a.image.now a.pool.now a.table.now a.snapshot.sandbox l.i) c.slot.ensures) page.result page.new.out page.ensures
