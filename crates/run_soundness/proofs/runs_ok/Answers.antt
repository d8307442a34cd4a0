-- A law for each way out: no run, a closed sandbox that keeps one, or the count within the share.
use Rattle.std.proofs.Common.{◌≡◌, sym, ◌∙◌, length, arith}
use Rattle.basics.proofs.TestLaws.{length-mapped}
use Rattle.table.specs.Store.{kept}
use Rattle.run_soundness.specs.Test.{none_kept}
use Rattle.run_soundness.proofs.SpareLaws.{keeps-none, closed-keeps, open-keeps}
use Rattle.run_soundness.proofs.runs_ok.Goals as goal

pub returns-then-is_none : goal.returns-then-is_none
unfolding none_kept
returns-then-is_none c = λ h pool.
    let a = c.args in
    let eight : length a.runs.list ≡ 8 = search length-mapped in
    keeps-none (kept h pool a.table.now) a.s a.opened a.share a.runs eight (sym c.is_none.ensures ∙ c.if-is_none.true) c.requires.table_bound

pub returns-then-not-opened : goal.returns-then-not-opened
unfolding none_kept
returns-then-not-opened c = λ h pool.
    let a = c.args in
    let eight : length a.runs.list ≡ 8 = search length-mapped in
    closed-keeps (kept h pool a.table.now) a.s a.opened a.share a.runs eight (sym c.is_none.ensures ∙ c.if-is_none.false) c.if-not-opened.true

pub returns : goal.returns
returns c = λ h pool.
    let a = c.args in
    let eight : length a.runs.list ≡ 8 = search length-mapped in
    rw c.from.ensures
    (open-keeps (kept h pool a.table.now) a.s a.opened a.share a.runs eight _ _ c.used.ensures.value c.kept.ensures.value c.if-not-opened.false)
