-- A call by its code: a read or a write, a report or a comparison, or one that is left.
use lib.Dec.{eqb}
use borrow.Author.Tests.{eqb-false}
use Rattle.basics.proofs.TestLaws.{or_right}
use Rattle.interface.specs.Requests.{read_code, write_code}
use Rattle.in_place.proofs.WayLaws.{tried-none, tried_same}
use borrow.Author.Rules.{rules}
use Rattle.in_place.proofs.answer.Statement.{statement}
use Rattle.in_place.proofs.answer.Tie as tie

read-or-write-requires : tie.Need-read_or_write-requires
read-or-write-requires c κs = search rules

same_length : tie.Need-shape_of-pool-then-code
same_length c = search rules

returns : tie.Need-returns-then-code
returns c = search rules

look-requires : tie.Need-look-requires
look-requires c κs = search rules

same-length-2 : tie.Need-shape_of-pool-then-code-2
same-length-2 c = search rules

returns-2 : tie.Need-returns-then-code-2
returns-2 c w A = tried_same A c.look.result (c.look.ensures w A)

returns-3 : tie.Need-returns
returns-3 c w A =
    let code = c.args.q.code in
    tried-none A (eqb-false code write_code (or_right (eqb code read_code) (eqb code write_code) c.if-code.false))

pub answer_spec : {M : Type 1} → statement M
answer_spec =
    tie.close (tie.spec read-or-write-requires same_length returns look-requires same-length-2 returns-2 returns-3)
