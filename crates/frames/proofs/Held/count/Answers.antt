-- Each word counts its ones, at most 64.
use mathlib.Core.Path.{sym}
use native.Mathlib.Omega.{arith}
use lib.Count.{ones-le}
use Rattle.frames.proofs.FrameLaws.{count-words}
use Rattle.frames.proofs.Held.count.Goals as goal

pub overflow_cast-result : goal.overflow_cast-result
overflow_cast-result c = omega (arith, ones-le 64)

pub overflow_cast-result-2 : goal.overflow_cast-result-2
overflow_cast-result-2 c = omega (arith, ones-le 64)

pub overflow_add-result : goal.overflow_add-result
overflow_add-result c = omega (arith, ones-le 64 c.args.self.low, ones-le 64 c.args.self.high)

pub returns : goal.returns
returns c = sym (count-words c.args.self (omega arith) (omega arith))
