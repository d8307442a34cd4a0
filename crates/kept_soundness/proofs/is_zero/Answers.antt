-- So far all bytes are zero, or not.
use Rattle.std.proofs.Common.{refl, sym}
use Rattle.std.specs.Prelude.{eqb, get_or}
use Rattle.basics.specs.Ranges.{every}
use Rattle.basics.proofs.LoopLaws.{every-last}
use Rattle.kept_soundness.proofs.is_zero.Goals as goal

pub loop-byte-init : goal.loop-byte-init
unfolding every
loop-byte-init c = refl

pub loop-byte-preserved : goal.loop-byte-preserved
loop-byte-preserved c = rw c.loop-byte.invariant (sym (every-last (λ o. eqb (get_or c.args.page.now o 0) 0) c.loop-byte.byte-index))
