-- The greatest frame that is not held.
use Rattle.std.specs.Prelude.{ℕ, zero, suc, eqb, Option, Some, None}
use Rattle.basics.specs.Choice.{◌when◌else◌}
use Rattle.frames.specs.declared.FrameNo.{FrameNo}

-- the greatest number below n at which the mark is 0
unfoldable pub greatest : (ℕ → ℕ) → ℕ → Option FrameNo
greatest marks zero = None
greatest marks (suc n) = Some (record { 0 = n }) when eqb (marks n) 0 else greatest marks n
