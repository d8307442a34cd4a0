-- Row 12: only a write asks for the right.
use borrow.Author.Tests.{eq-eqb, ne_eqb}
use Rattle.interface.specs.Requests.{write_code}
use Rattle.interface.specs.Refusals.{applies}
use Rattle.rules.proofs.FitLaws.{page-small}
use borrow.Author.Rules.{rules}
use Rattle.page_rows.proofs.not_writable.Statement.{statement}
use Rattle.page_rows.proofs.not_writable.Tie as tie

returns : tie.Need-returns-then-q-ne-WRITE
unfolding applies
returns c v e = rw (ne_eqb _ write_code c.if-q-ne-WRITE.true)

page-of-requires : tie.Need-page_of-requires
page-of-requires c κs = (c.requires.1.written c.if-q-ne-WRITE.false).0

slot-requires : tie.Need-slot-requires
slot-requires c κs =
    let start = c.before.before.before in
    (start.requires.0, rw c.page_of.ensures (page-small start.args.q.p1 (start.requires.1.written c.if-q-ne-WRITE.false).0))

rights-at-requires : tie.Need-rights_at-requires
rights-at-requires c κs = search rules

returns-2 : tie.Need-returns
unfolding applies
returns-2 c v e =
    let looking = c.before.before in
    rw (e, eq-eqb _ write_code looking.if-q-ne-WRITE.false, c.rights_at.ensures, c.slot.ensures, looking.page_of.ensures)

pub not_writable_spec : {M : Type 1} → statement M
not_writable_spec =
    tie.close (tie.spec returns page-of-requires slot-requires rights-at-requires returns-2)
