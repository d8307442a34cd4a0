-- The writes of a page with a back: a turn for each byte.
use Rattle.std.proofs.Common.{arith}
use Rattle.pages.specs.Parts.{frame}
use Rattle.printing.proofs.PutLaws.{turn-first, turn-room, turn-next}
use Rattle.page_writes.specs.PageLines.{byte_line}
use Rattle.page_writes.proofs.PageLaws.{byte-line}
use Rattle.page_writes.proofs.put_bytes.Goals as goal

pub loop-j-init : goal.loop-j-init
loop-j-init c =
    let a = c.args in
    turn-first a.to a.out.now (byte_line a.image.now a.page.sandbox a.page.number.0 a.page.slot (frame 256 a.pool.now a.f.0)) 256

pub put_if-next-requires : goal.put_if-next-requires
put_if-next-requires c =
    let a = c.args in
    let p = a.page in
    let bytes = frame 256 a.pool.now a.f.0 in
    let l = c.loop-j in
    turn-room a.to a.out.now (byte_line a.image.now p.sandbox p.number.0 p.slot bytes) 256 c.requires.room l.next l.out l.j l.invariant (omega arith) _
    (byte-line a.image.now p.sandbox p.number.0 p.slot bytes l.j c.read_byte-byte.result c.backing_byte-old.result c.backing_at-backing.result _
    c.backing_at-backing.ensures c.read_byte-byte.ensures c.backing_byte-old.ensures c.write_line.ensures)

pub loop-j-preserved : goal.loop-j-preserved
loop-j-preserved c =
    let a = c.args in
    let p = a.page in
    let bytes = frame 256 a.pool.now a.f.0 in
    let l = c.loop-j in
    let put = c.put_if-next in
    turn-next a.to a.out.now (byte_line a.image.now p.sandbox p.number.0 p.slot bytes) 256 c.requires.room l.next l.out l.j l.invariant (omega arith) _
    (byte-line a.image.now p.sandbox p.number.0 p.slot bytes l.j c.read_byte-byte.result c.backing_byte-old.result c.backing_at-backing.result _
    c.backing_at-backing.ensures c.read_byte-byte.ensures c.backing_byte-old.ensures c.write_line.ensures) put.result put.new.out put.ensures
