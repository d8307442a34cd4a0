-- What is tested on each way is what the page meets in the case told there, and that is the only one.
use native.Mathlib.Omega.{arith}
use borrow.Author.Rules.{rules}
use Rattle.rewind_cases.specs.declared.RewindCase.TheVariants.{Copied, Zeroed, ImagePage}
use Rattle.rewind_cases.proofs.CaseLaws.{one-case}
use Rattle.page_case.proofs.case_of.Statement.{statement}
use Rattle.page_case.proofs.case_of.Tie as tie

returns : tie.Need-returns-then-front-eq0
returns c = search rules

returns-2 : tie.Need-returns-then-back-ne0
returns-2 c =
    let a = c.args in
    (one-case a.front a.back a.backing).alone Copied (omega (arith, c.if-front-eq0.false), omega (arith, c.if-back-ne0.true))

enum_told : tie.Need-enum_told-1
enum_told c = search rules

enum-known-backing : tie.Need-enum_known-backing
enum-known-backing c = search rules

returns-3 : tie.Need-returns-in-Anonymous
returns-3 c =
    let a = c.args in
    (one-case a.front a.back a.backing).alone Zeroed
    (omega (arith, c.if-front-eq0.false), omega (arith, c.if-back-ne0.false), c.in-Anonymous.is)

returns-4 : tie.Need-returns-in-Image
returns-4 c =
    let a = c.args in
    (one-case a.front a.back a.backing).alone (ImagePage c.in-Image.page)
    (omega (arith, c.if-front-eq0.false), omega (arith, c.if-back-ne0.false), c.in-Image.is)

pub case_of_spec : {M : Type 1} → statement M
case_of_spec =
    tie.close (tie.spec returns returns-2 enum_told enum-known-backing returns-3 returns-4)
