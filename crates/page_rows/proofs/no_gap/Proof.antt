-- Row 11: only a map at 64 looks for a gap.
use native.Mathlib.Omega.{arith}
use mathlib.Core.Path.{◌≡◌}
use mathlib.Core.Bool.{not, ◌||◌, true, false≢true}
use lib.Dec.{eqb}
use borrow.Author.Tests.{eqb-true, not-false}
use Rattle.basics.proofs.TestLaws.{by_cases, or_left, or_right}
use Rattle.interface.specs.Requests.{map_code}
use Rattle.interface.specs.Refusals.{applies}
use borrow.Author.Rules.{rules}
use Rattle.page_rows.proofs.no_gap.Statement.{statement}
use Rattle.page_rows.proofs.no_gap.Tie as tie

-- the code is a map's, and no page is named
a-map : (c : tie.Else-q) → eqb c.args.q.code map_code ≡ true
a-map c = not-false _ (or_left (not (eqb c.args.q.code map_code)) _ c.if-q.false)

unnamed : (c : tie.Else-q) → eqb c.args.q.p1 64 ≡ true
unnamed c = not-false _ (or_right (not (eqb c.args.q.code map_code)) _ c.if-q.false)

returns : tie.Need-returns-then-q
unfolding applies
returns c v e =
    let q = c.args.q in
    by_cases (eqb q.code map_code)
    (λ m. by_cases (eqb q.p1 64) (λ t. absurd (false≢true (rw (m, t) at c.if-q.true))) (λ t. rw (m, t)))
    (λ m. rw m)

cast-lowest-gap : tie.Need-overflow_cast-q
cast-lowest-gap c =
    let start = c.before.before.before.before in
    omega (arith, (start.requires.1.place (eqb-true _ map_code (a-map c.before))).1)

lowest-gap-requires : tie.Need-lowest_gap-requires
lowest-gap-requires c κs = search rules

returns-2 : tie.Need-returns
unfolding applies
returns-2 c v e = let test = c.before.before in rw (e, a-map test, unnamed test, c.lowest_gap.ensures)

pub no_gap_spec : {M : Type 1} → statement M
no_gap_spec = tie.close (tie.spec returns cast-lowest-gap lowest-gap-requires returns-2)
