-- A run without a frame has none; any other is counted.
use Rattle.std.proofs.Common.{sym, arith}
use Rattle.runs.proofs.RowLaws.{count_small, empty-count}
use Rattle.runs.proofs.frames_in.Goals as goal

pub returns-then-eq-clause-value : goal.returns-then-eq-clause-value
returns-then-eq-clause-value c = sym (empty-count c.args.run _ c.none.ensures _ c.eq.ensures c.if-eq.true)

pub returns-clause-small : goal.returns-clause-small
returns-clause-small c = omega (arith, c.count.ensures, count_small c.args.run)
