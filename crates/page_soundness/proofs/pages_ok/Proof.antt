-- A law for each way out, from what the tests before it said.
use mathlib.Core.Path.{◌≡◌, sym, ◌∙◌}
use mathlib.Core.Bool.{true}
use borrow.Author.Tests.{not-true, not-false}
use Rattle.basics.specs.Ranges.{every}
use Rattle.areas.specs.Areas.{slots}
use Rattle.committed_pages.specs.Parts.{mark_ok, backing_ok}
use Rattle.page_soundness.proofs.SplitLaws.{marks-fail, backing-fails, fronts-fail, backs-decide}
use borrow.Author.Rules.{rules}
use Rattle.page_soundness.proofs.pages_ok.Statement.{statement}
use Rattle.page_soundness.proofs.pages_ok.Tie as tie

-- the way back from where a fact is needed to where it was learned
abbrev start-of-first : tie.After-all_committed → tie.Start
start-of-first c = c.before.before

abbrev start1 : tie.Else-not-all_committed → tie.Start
start1 c = start-of-first c.before

-- what the tests that were passed say
marks-hold : (c : tie.Else-not-all_committed) → let a = (start1 c).args in every (λ i. mark_ok (slots a.snapshot i)) 0 64 ≡ true
marks-hold c = sym c.all_committed.ensures ∙ not-false _ c.if-not-all_committed.false-raw

backing-holds : (c : tie.Else-not-all_backed) →
    let a = (start1 c.before.before).args in
    every (λ i. backing_ok (slots a.present i) (slots a.snapshot i)) 0 64 ≡ true
backing-holds c = sym c.all_backed.ensures ∙ not-false _ c.if-not-all_backed.false-raw

all-committed-requires : tie.Need-all_committed-requires
all-committed-requires c κs = search rules

returns : tie.Need-returns-then-not-all_committed
returns c = λ h pool.
    let a = (start-of-first c.before).args in
    marks-fail a.present a.snapshot a.table.now a.s h pool (sym c.all_committed.ensures ∙ not-true _ c.if-not-all_committed.true-raw)

all-backed-requires : tie.Need-all_backed-requires
all-backed-requires c κs = search rules

returns-2 : tie.Need-returns-then-not-all_backed
returns-2 c = λ h pool.
    let p = c.before.before in
    let a = (start-of-first p.before).args in
    backing-fails a.present a.snapshot a.table.now a.s h pool (marks-hold p) (sym c.all_backed.ensures ∙ not-true _ c.if-not-all_backed.true-raw)

mul-first : tie.Need-overflow_mul-first
mul-first c = search rules

only-mapped-requires : tie.Need-only_mapped-requires
only-mapped-requires c κs = search rules

returns-3 : tie.Need-returns-then-not-only_mapped
returns-3 c = λ h pool.
    let q = c.before.before in
    let p = q.before.before in
    let a = (start-of-first p.before).args in
    fronts-fail a.present a.snapshot a.table.now a.s h pool (marks-hold p) (backing-holds q)
    (sym c.only_mapped.ensures ∙ not-true _ c.if-not-only_mapped.true-raw)

add-only-mapped : tie.Need-overflow_add-first
add-only-mapped c = search rules

only-mapped-requires-2 : tie.Need-only_mapped-requires-2
only-mapped-requires-2 c κs = search rules

returns-4 : tie.Need-returns
returns-4 c = λ h pool.
    let r = c.before in
    let q = r.before.before in
    let p = q.before.before in
    let a = (start-of-first p.before).args in
    c.only_mapped-2.ensures ∙ backs-decide a.present a.snapshot a.table.now a.s h pool (marks-hold p) (backing-holds q)
    (sym r.only_mapped.ensures ∙ not-false _ r.if-not-only_mapped.false-raw)

pub pages_ok_spec : {M : Type 1} → statement M
pages_ok_spec =
    tie.close
    (tie.spec
    all-committed-requires
    returns
    all-backed-requires
    returns-2
    mul-first
    only-mapped-requires
    returns-3
    add-only-mapped
    only-mapped-requires-2
    returns-4)
