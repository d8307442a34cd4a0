-- A law for each way out: a frame in two runs, one that is named too, or the kept frames tested.
use Rattle.std.proofs.Common.{sym, ◌∙◌, ℕ, List, get_or}
use borrow.Author.Tests.{not-true, not-false}
use Rattle.frames.specs.declared.Held.{Held}
use Rattle.table.specs.Store.{kept}
use Rattle.runs.specs.Row.{row}
use Rattle.state.specs.declared.sandbox.Sandbox.{Sandbox}
use Rattle.state.specs.World.{closed_sandbox}
use Rattle.run_soundness.proofs.SpareLaws.{twice, named-too, frames-decide}
use Rattle.run_soundness.proofs.spare_ok.Goals as goal

-- the runs of each sandbox
abbrev rows : List Sandbox → ℕ → ℕ → Held
rows sandboxes s = row (get_or sandboxes s closed_sandbox).runs

pub returns-then-not-found : goal.returns-then-not-found
returns-then-not-found c = λ table.
    let a = c.args in
    twice a.frames (kept a.held a.pool.now table) (rows a.sandboxes) c.kept_marks-found.result c.kept_marks-found.ensures (not-true _ c.if-not-found.true)

pub returns-then-not-apart : goal.returns-then-not-apart
returns-then-not-apart c = λ table.
    let a = c.args in
    named-too a.frames (kept a.held a.pool.now table) (rows a.sandboxes) c.kept_marks-found.result c.kept_marks-found.ensures
    (not-false _ c.if-not-found.false) (sym c.apart.ensures ∙ c.if-not-apart.true)

pub returns : goal.returns
returns c = λ table.
    let a = c.args in
    c.frames_ok.ensures
    ∙ frames-decide a.frames (kept a.held a.pool.now table) (rows a.sandboxes) c.kept_marks-found.result c.kept_marks-found.ensures
    (not-false _ c.if-not-found.false) (sym c.apart.ensures ∙ c.if-not-apart.false)
