-- Row 7: there is a copy where a snapshot was taken.
use Rattle.interface.specs.Refusals.{applies}
use Rattle.records.proofs.SettledLaws.{taken-copy}
use borrow.Author.Rules.{rules}
use Rattle.rows.proofs.snapshot_taken.Statement.{statement}
use Rattle.rows.proofs.snapshot_taken.Tie as tie

returns : tie.Need-returns
unfolding applies
returns c v e = rw (e, taken-copy c.args.b)

pub snapshot_taken_spec : {M : Type 1} → statement M
snapshot_taken_spec = tie.close (tie.spec returns)
