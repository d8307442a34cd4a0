use Rattle.std.proofs.Common.{◌≡◌, ◌*◌, ◌≤◌, length}
use lib.ListN.{get_or}
use Rattle.layout.proofs.RowLoops.{Written}
use Rattle.fields.proofs.bytes.encode_row.Given as goal

abbrev pub invariant-loop-k : goal.invariant-loop-k
invariant-loop-k g l =
    let m = g.F.Form in
    (l.k ≤ l.k-end) × (length l.out ≡ l.k-end * m.SIZE)
    × ((none : g.row.F-Value.Denot) → Written (λ j. m.encode (get_or l.items j none)) m.SIZE l.k-end l.initial.out l.out l.k)
