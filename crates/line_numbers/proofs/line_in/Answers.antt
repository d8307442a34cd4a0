-- The line at a place is malformed where its first number is 0, and else the call of the seven numbers behind that.
use Rattle.std.proofs.Common.{eq-eqb, ne_eqb}
use Rattle.line_numbers.specs.Numbers.{line_in}
use Rattle.line_numbers.proofs.line_in.Goals as goal

pub returns-then-numbers-at-eq0 : goal.returns-then-numbers-at-eq0
unfolding line_in
returns-then-numbers-at-eq0 c = rw (eq-eqb _ _ c.if-numbers-at-eq0.true)

pub returns : goal.returns
unfolding line_in
returns c = rw (ne_eqb _ _ c.if-numbers-at-eq0.false)
