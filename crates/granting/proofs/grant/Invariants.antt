-- The first i entries have their frames, whatever pool there is.
use Rattle.std.proofs.Common.{◌≡◌, List, ℕ}
use Rattle.table.specs.Store.{kept}
use Rattle.kept.specs.Spare.{left_of, adopt_to}
use Rattle.granting.proofs.grant.Given as goal

abbrev pub invariant-loop-i : goal.invariant-loop-i
invariant-loop-i l =
    (l.granted.rest ≡ left_of l.fn.run l.i)
    × ((pool : List ℕ) → kept l.granted.held pool l.table ≡ adopt_to l.fn.first l.fn.run (kept l.fn.held pool l.fn.table) l.i)
