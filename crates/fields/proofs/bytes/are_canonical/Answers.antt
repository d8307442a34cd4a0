-- Each turn tests one more part.
use Rattle.std.proofs.Common.{ℕ, ◌*◌, Bool}
use Rattle.layout.specs.Rows.{part_in}
use Rattle.layout.proofs.RowLoops.{tested-none, tested-next}
use Rattle.layout.proofs.PartsLaws.{part-lent}
use Rattle.fields.proofs.bytes.are_canonical.Goals as goal

pub loop-k-init : goal.loop-k-init
loop-k-init g c = tested-none (λ j. g.F.Canonical.is_canonical (part_in g.F.Form.SIZE c.args.bytes.now j)) g.row.N

pub loop-k-preserved : goal.loop-k-preserved
loop-k-preserved g c =
    let size = g.F.Form.SIZE in
    let bytes = c.args.bytes.now in
    let passes : ℕ → Bool = λ j. g.F.Canonical.is_canonical (part_in size bytes j) in
    let at = c.loop-k in
    tested-next passes g.row.N at.all _ at.k at.invariant c.loop-k-test.true
    (rw (c.SIZE.ensures, c.SIZE-in-loop-k.ensures, part-lent bytes (at.k * size) size) at c.is_canonical-all.ensures)
