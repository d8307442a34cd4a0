use Rattle.pages.specs.Parts.{frame}
use Rattle.printing.proofs.PutLaws.{Turn}
use Rattle.page_writes.specs.PageLines.{byte_line}
use Rattle.page_writes.proofs.put_bytes.Given as goal

abbrev pub invariant-loop-j : goal.invariant-loop-j
invariant-loop-j l =
    let p = l.page in
    Turn l.initial.next l.next l.initial.out l.out (byte_line l.image p.sandbox p.number.0 p.slot (frame 256 l.pool l.f.0)) 256 l.j
