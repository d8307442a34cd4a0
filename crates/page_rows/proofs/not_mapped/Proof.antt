-- Row 9: the pages that a call names are looked at where the limits place them.
use native.Mathlib.Omega.{arith}
use Prim.Native.Nat.{◌≤◌, ◌+◌}
use borrow.Author.Tests.{eq-eqb, ne_eqb}
use Rattle.interface.specs.Requests.{protect_code}
use Rattle.interface.specs.Refusals.{all_mapped, applies}
use Rattle.areas.proofs.WalkLaws.{near-formed}
use Rattle.rules.proofs.FitLaws.{named-address, page-small}
use borrow.Author.Rules.{rules}
use Rattle.page_rows.proofs.not_mapped.Statement.{statement}
use Rattle.page_rows.proofs.not_mapped.Tie as tie

-- a protect's pages
pages : (c : tie.Then-q-eq-PROTECT) → c.args.q.p1 + c.args.q.p2 ≤ 64
pages c = (c.requires.1.protected c.if-q-eq-PROTECT.true).0

cast-t6 : tie.Need-overflow_cast-q
cast-t6 c = omega (arith, pages c.before)

cast-all-are : tie.Need-overflow_cast-q-then-q-eq-PROTECT
cast-all-are c = omega (arith, pages c.before.before)

all-are-requires : tie.Need-all_are-requires
all-are-requires c κs = (c.requires.0, pages c.before.before)

returns : tie.Need-returns-then-q-eq-PROTECT
unfolding applies all_mapped
returns c v e = rw (e, eq-eqb _ protect_code c.if-q-eq-PROTECT.true, c.all_are.ensures)

page-of-requires : tie.Need-page_of-requires
page-of-requires c κs =
    let start = c.before.before in
    named-address start.args.q start.requires.1 c.if-q.true

slot-requires : tie.Need-slot-requires
slot-requires c κs =
    let start = c.before.before.before in
    let address = named-address start.args.q start.requires.1 c.if-q.true in
    (near-formed start.args.present start.requires.0, rw c.page_of.ensures (page-small start.args.q.p1 address))

is-mapped-requires : tie.Need-is_mapped-requires
is-mapped-requires c κs = search rules

returns-2 : tie.Need-returns-then-q
unfolding applies all_mapped
returns-2 c v e =
    let looking = c.before.before in
    let test = looking.before in
    rw (e, ne_eqb _ protect_code test.if-q-eq-PROTECT.false, test.if-q.true, c.is_mapped.ensures, c.slot.ensures, looking.page_of.ensures)

returns-3 : tie.Need-returns
unfolding applies all_mapped
returns-3 c v e = rw (ne_eqb _ protect_code c.if-q-eq-PROTECT.false, c.if-q.false)

pub not_mapped_spec : {M : Type 1} → statement M
not_mapped_spec =
    tie.close (tie.spec cast-t6 cast-all-are all-are-requires returns page-of-requires slot-requires is-mapped-requires returns-2 returns-3)
