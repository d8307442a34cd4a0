-- The numbers are put into the part at their place, and the rest stays: `part-is`.
use Rattle.std.proofs.Common.{◌++◌, ◌+◌, ◌*◌, take, drop, ap, ◌∙◌}
use Rattle.line_numbers.proofs.NumbersLaws.{part-is}
use Rattle.line_numbers.proofs.put_line.Goals as goal

pub returns : goal.returns
returns c =
    let a = c.args in
    let at = a.k * 8 in
    part-is a.numbers.now c.put.new.part at ∙ ap (λ ys. take at a.numbers.now ++ (ys ++ drop (at + 8) a.numbers.now)) c.put.ensures
