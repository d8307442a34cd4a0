-- What is put is the numbers of the line, by which of the two forms it has: eight stored one after the other are `eight-stored`.
use Rattle.std.proofs.Common.{replicate, ap, ◌∙◌}
use Rattle.line_numbers.specs.Numbers.{numbers_of}
use Rattle.line_numbers.proofs.NumbersLaws.{eight-stored}
use Rattle.line_numbers.proofs.put.Goals as goal

pub returns-in-Call : goal.returns-in-Call
unfolding numbers_of
returns-in-Call c = rw c.in-Call.is (eight-stored _ _ _ _ _ _ _ _ c.args.part.now c.requires)

pub returns-in-Malformed : goal.returns-in-Malformed
unfolding numbers_of
returns-in-Malformed c = rw c.in-Malformed.is (c.fill.ensures.after (λ y e. e) ∙ ap (λ n. replicate n 0) c.requires)
