-- The shares of the sandboxes that were passed are summed; the sum does not wrap in the wider type.
use Rattle.std.proofs.Common.{◌≡◌, ◌≤◌, ◌*◌, get_or}
use Rattle.basics.specs.Ranges.{sum}
use Rattle.state.specs.World.{closed_sandbox}
use Rattle.totals.proofs.shares.Given as goal

abbrev pub invariant-loop-b : goal.invariant-loop-b
invariant-loop-b l =
    (l.n ≡ sum (λ s. (get_or l.fn.sandboxes s closed_sandbox).rec.share) l.b-index) × (l.n ≤ l.b-index * 255)
