-- The runs behind the place have moved up, as far as the loop has come.
use Rattle.std.proofs.Common.{◌≡◌, ◌≤◌, ◌-◌}
use Rattle.runs.specs.Row.{shift_to}
use Rattle.run_push.proofs.moved_up.Given as goal

abbrev pub invariant-loop-i : goal.invariant-loop-i
invariant-loop-i l = (l.i ≤ 7) × (l.runs ≡ shift_to l.fn.place l.fn.runs (l.i - l.fn.place))
