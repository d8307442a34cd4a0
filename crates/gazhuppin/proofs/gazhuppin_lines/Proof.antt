-- The lines of a roll are counted as `lines` counts them.
use borrow.Author.Rules.{rules}
use Rattle.gazhuppin.proofs.gazhuppin_lines.Statement.{statement}
use Rattle.gazhuppin.proofs.gazhuppin_lines.Tie as tie

lines-of-requires : tie.Need-lines_of-requires
lines-of-requires c κs = search rules

returns : tie.Need-returns
returns c = c.lines_of.ensures

pub gazhuppin_lines_spec : {M : Type 1} → statement M
gazhuppin_lines_spec = tie.close (tie.spec lines-of-requires returns)
