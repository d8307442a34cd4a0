use Rattle.printing.proofs.PutLaws.{Turn}
use Rattle.segments.specs.ByPages.{writes_at}
use Rattle.segments.proofs.writes.put_writes.Given as goal

abbrev pub invariant-loop-i : goal.invariant-loop-i
invariant-loop-i l = Turn l.initial.next l.next l.initial.out l.out (writes_at l.image l.pool l.table l.snapshot) 64 l.i
