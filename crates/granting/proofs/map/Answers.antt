-- The run that suits the pages best gives its smallest frames to the first new pages.
use Rattle.std.proofs.Common.{◌≡◌, refl, ap, ◌∙◌, ℕ, Bool, false, arith}
use Rattle.frames.specs.declared.Held.{Held}
use Rattle.frames.specs.Frames.{count_held}
use Rattle.runs.specs.Row.{with_run_at}
use Rattle.run_choice.specs.Runs.{takes_run}
use Rattle.granting.proofs.GrantingLaws.{named_none, image-none, untaken-store, untaken-runs, taken-store, taken_runs}
use Rattle.granting.proofs.map.Goals.{then-q-ne-ANY_PAGE-via-then-q-ne-ANY_PAGE, then-q-ne-ANY_PAGE-via-else-q-ne-ANY_PAGE+then-q-ne0}
use Rattle.granting.proofs.map.Goals as goal

pub returns-then-q-ne-ANY_PAGE-clause-by_index_2 : goal.returns-then-q-ne-ANY_PAGE-clause-by_index_2
returns-then-q-ne-ANY_PAGE-clause-by_index_2 c = λ pool.
    elim c.then-q-ne-ANY_PAGE.branch [
      | then-q-ne-ANY_PAGE-via-then-q-ne-ANY_PAGE w ↦ untaken-store c.args.q c.args.b _ (named_none c.args.q w.if-q-ne-ANY_PAGE.true)
      | then-q-ne-ANY_PAGE-via-else-q-ne-ANY_PAGE+then-q-ne0 w ↦ untaken-store c.args.q c.args.b _ (image-none c.args.q w.if-q-ne0.true)
    ]

pub returns-then-q-ne-ANY_PAGE-clause-runs : goal.returns-then-q-ne-ANY_PAGE-clause-runs
returns-then-q-ne-ANY_PAGE-clause-runs c =
    elim c.then-q-ne-ANY_PAGE.branch [
      | then-q-ne-ANY_PAGE-via-then-q-ne-ANY_PAGE w ↦ untaken-runs c.args.q c.args.b (named_none c.args.q w.if-q-ne-ANY_PAGE.true)
      | then-q-ne-ANY_PAGE-via-else-q-ne-ANY_PAGE+then-q-ne0 w ↦ untaken-runs c.args.q c.args.b (image-none c.args.q w.if-q-ne0.true)
    ]

pub returns-clause-by_index_2 : goal.returns-clause-by_index_2
returns-clause-by_index_2 c = λ pool.
    let n = rw c.count.ensures at c.min.ensures in
    c.grant-granted.ensures.by_index pool
    ∙ taken-store c.args.q c.args.b c.requires.code_value c.if-q-ne-ANY_PAGE.false c.if-q-ne0.false c.fitting-place.result c.min.result c.at-run.result
    c.fitting-place.ensures.value c.at-run.ensures n _ c.first_of-first.result _ (rw c.from.ensures refl) c.first_of-first.ensures

pub returns-clause-runs : goal.returns-clause-runs
returns-clause-runs c =
    let n = rw c.count.ensures at c.min.ensures in
    c.with.ensures ∙ ap (λ (h : Held). with_run_at c.fitting-place.result h c.args.b.runs) c.grant-granted.ensures.rest
    ∙ taken_runs c.args.q c.args.b c.requires.code_value c.if-q-ne-ANY_PAGE.false c.if-q-ne0.false c.fitting-place.result c.min.result c.at-run.result
    c.fitting-place.ensures.value c.at-run.ensures n
