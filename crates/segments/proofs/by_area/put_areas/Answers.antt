-- The lines of a segment that goes by areas: a turn for each place puts its line, or none.
use Rattle.std.proofs.Common.{refl, arith}
use Rattle.printing.proofs.PutLaws.{turn-first, turn-room, turn-next, turn_last}
use Rattle.segments.specs.ByAreas.{lines_at}
use Rattle.segments.proofs.by_area.put_areas.Goals as goal

pub loop-area-init : goal.loop-area-init
loop-area-init c = let a = c.args in turn-first a.to a.out.now (lines_at a.segment a.snapshot.sandbox a.snapshot.areas) 8

pub put_if-next-requires : goal.put_if-next-requires
put_if-next-requires c =
    let a = c.args in
    let l = c.loop-area in
    rw (c.is_told.ensures, c.line_of-line.ensures)
    (turn-room a.to a.out.now (lines_at a.segment a.snapshot.sandbox a.snapshot.areas) 8 c.requires l.next l.out l.area-index l.invariant c.loop-area-test.true
    _ refl)

pub loop-area-preserved : goal.loop-area-preserved
loop-area-preserved c =
    let a = c.args in
    let l = c.loop-area in
    let line = c.put_if-next in
    turn-next a.to a.out.now (lines_at a.segment a.snapshot.sandbox a.snapshot.areas) 8 c.requires l.next l.out l.area-index l.invariant c.loop-area-test.true
    _ (rw (c.is_told.ensures, c.line_of-line.ensures) refl) line.result line.new.out line.ensures

pub returns : goal.returns
returns c =
    let a = c.args in
    let l = c.loop-area in
    turn_last a.to a.out.now (lines_at a.segment a.snapshot.sandbox a.snapshot.areas) 8 l.next l.out l.area-index l.invariant
    (omega (arith, c.loop-area-test.false))
