-- The marks of the runs of the sandboxes that were passed are found.
use Rattle.std.proofs.Common.{◌≡◌, get_or}
use Rattle.runs.specs.Row.{row}
use Rattle.kept.specs.Test.{kept_to}
use Rattle.state.specs.World.{closed_sandbox}
use Rattle.totals.proofs.kept_marks.Given as goal

abbrev pub invariant-loop-sandbox : goal.invariant-loop-sandbox
invariant-loop-sandbox l = l.found ≡ kept_to (λ s. row (get_or l.fn.sandboxes s closed_sandbox).runs) l.sandbox-index
