use Rattle.layout.specs.Rows.{part_in}
use Rattle.layout.proofs.RowLoops.{Tested}
use Rattle.fields.proofs.bytes.are_canonical.Given as goal

abbrev pub invariant-loop-k : goal.invariant-loop-k
invariant-loop-k g l = Tested (λ j. g.F.Canonical.is_canonical (part_in g.F.Form.SIZE l.bytes j)) l.k-end l.all l.k
