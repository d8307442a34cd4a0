-- So far all bytes are zero, or not.
use Rattle.std.proofs.Common.{◌≡◌}
use Rattle.std.specs.Prelude.{eqb, get_or}
use Rattle.basics.specs.Ranges.{every}
use Rattle.kept_soundness.proofs.is_zero.Given as goal

abbrev pub invariant-loop-byte : goal.invariant-loop-byte
invariant-loop-byte l = l.zero ≡ every (λ o. eqb (get_or l.fn.page o 0) 0) 0 l.byte-index
