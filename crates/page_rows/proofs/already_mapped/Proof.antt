-- Row 10: only a map at a named page looks at its pages.
use native.Mathlib.Omega.{arith}
use Prim.Native.Nat.{◌≤◌, ◌+◌}
use mathlib.Core.Path.{◌≡◌}
use mathlib.Core.Bool.{not, ◌||◌, true, false}
use lib.Dec.{eqb}
use borrow.Author.Tests.{eqb-true, eqb-false, not-false}
use Rattle.basics.proofs.TestLaws.{by_cases, or_left, or_right}
use Rattle.interface.specs.Requests.{map_code}
use Rattle.interface.specs.Refusals.{applies}
use borrow.Author.Rules.{rules}
use Rattle.page_rows.proofs.already_mapped.Statement.{statement}
use Rattle.page_rows.proofs.already_mapped.Tie as tie

-- the code is a map's, and a page is named
a-map : (c : tie.Else-q) → eqb c.args.q.code map_code ≡ true
a-map c = not-false _ (or_left (not (eqb c.args.q.code map_code)) _ c.if-q.false)

named : (c : tie.Else-q) → eqb c.args.q.p1 64 ≡ false
named c = or_right (not (eqb c.args.q.code map_code)) _ c.if-q.false

pages : (c : tie.Else-q) → c.args.q.p1 + c.args.q.p2 ≤ 64
pages c = c.requires.1.named (eqb-true _ map_code (a-map c)) (eqb-false _ 64 (named c))

returns : tie.Need-returns-then-q
unfolding applies
returns c v e =
    let q = c.args.q in
    by_cases (eqb q.code map_code) (λ m. rw (m, rw m at c.if-q.true)) (λ m. rw m)

cast-t6 : tie.Need-overflow_cast-q
cast-t6 c = omega (arith, pages c.before)

cast-all-are : tie.Need-overflow_cast-q-2
cast-all-are c = omega (arith, pages c.before.before)

all-are-requires : tie.Need-all_are-requires
all-are-requires c κs = (c.requires.0, pages c.before.before)

returns-2 : tie.Need-returns
unfolding applies
returns-2 c v e = let test = c.before.before.before in rw (e, a-map test, named test, c.all_are.ensures)

pub already_mapped_spec : {M : Type 1} → statement M
already_mapped_spec = tie.close (tie.spec returns cast-t6 cast-all-are all-are-requires returns-2)
