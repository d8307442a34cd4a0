-- Row 8: there is a copy where a snapshot was taken.
use Rattle.interface.specs.Refusals.{applies}
use Rattle.records.proofs.SettledLaws.{taken-copy}
use borrow.Author.Rules.{rules}
use Rattle.rows.proofs.no_snapshot.Statement.{statement}
use Rattle.rows.proofs.no_snapshot.Tie as tie

needs-snapshot-requires : tie.Need-needs_snapshot-requires
needs-snapshot-requires c κs = search rules

returns : tie.Need-returns
unfolding applies
returns c v e = rw (e, taken-copy c.args.b, c.needs_snapshot.ensures)

pub no_snapshot_spec : {M : Type 1} → statement M
no_snapshot_spec = tie.close (tie.spec needs-snapshot-requires returns)
