-- The runs behind the place move up one by one, and the new run takes the last place.
use Rattle.std.proofs.Common.{◌≡◌, ◌-◌, ap, ◌∙◌, arith}
use Rattle.runs.specs.Row.{with_run_at, shift_to, moved_runs}
use Rattle.run_push.proofs.PushLaws.{shift-more}
use Rattle.run_push.proofs.moved_up.Goals as goal

pub loop-i-init : goal.loop-i-init
unfolding shift_to
loop-i-init c = let z : c.args.place - c.args.place ≡ 0 = omega arith in (omega (arith, c.requires), rw z)

pub loop-i-preserved : goal.loop-i-preserved
loop-i-preserved c =
    let l = c.loop-i in
    let a = c.args in (
      omega (arith, c.loop-i-test.true),
      shift-more a.place a.runs l.i l.runs _ _ (omega arith) l.invariant.1 c.at.ensures c.with-runs.ensures,
    )

pub returns : goal.returns
unfolding moved_runs
returns c =
    let l = c.loop-i in
    let a = c.args in
    let end : l.i - a.place ≡ 7 - a.place = omega (arith, l.invariant.0, c.loop-i-test.false) in
    c.with.ensures ∙ ap (with_run_at 7 a.run) (l.invariant.1 ∙ ap (shift_to a.place a.runs) end)
