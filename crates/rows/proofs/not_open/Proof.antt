-- Row 4 of a sandbox in the row, by what its two tests say.
use borrow.Author.Tests.{lt-ltb}
use Rattle.interface.specs.Refusals.{applies}
use borrow.Author.Rules.{rules}
use Rattle.rows.proofs.not_open.Statement.{statement}
use Rattle.rows.proofs.not_open.Tie as tie

returns : tie.Need-returns
unfolding applies
returns c v e = rw (lt-ltb c.args.q.sandbox 4 c.requires, e)

pub not_open_spec : {M : Type 1} → statement M
not_open_spec = tie.close (tie.spec returns)
