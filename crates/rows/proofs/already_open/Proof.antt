-- Row 5, by what its two tests say.
use Rattle.interface.specs.Refusals.{applies}
use borrow.Author.Rules.{rules}
use Rattle.rows.proofs.already_open.Statement.{statement}
use Rattle.rows.proofs.already_open.Tie as tie

returns : tie.Need-returns
unfolding applies
returns c v e = rw e

pub already_open_spec : {M : Type 1} → statement M
already_open_spec = tie.close (tie.spec returns)
