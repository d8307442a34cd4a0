-- One more place at each turn, by what the test answers.
use Rattle.std.proofs.Common.{◌≡◌, sym, arith, ◌∙◌, ap}
use Rattle.basics.specs.Rows.{best}
use Rattle.runs.specs.Row.{lengths_of}
use Rattle.run_search.proofs.SearchLaws.{best-first, best-taken, best-stays}
use Rattle.run_search.proofs.best.Goals.{then-is_better, else-is_better}
use Rattle.run_search.proofs.best.Goals as goal

pub loop-i-init : goal.loop-i-init
loop-i-init g c = (omega arith, λ test a. best-first test _ _ c.count-length.ensures)

pub loop-i-preserved : goal.loop-i-preserved
loop-i-preserved g c =
    let l = c.loop-i in
    elim c.if-is_better.branch [
      | then-is_better w ↦ rw (w.place-is, w.length-is) (
        omega arith,
        λ test a. best-taken test _ l.i _ l.place l.length c.count-frames.ensures (l.invariant.1 test a)
            (sym (a _ _ _ c.is_better.ensures) ∙ w.if-is_better.true),
      )
      | else-is_better w ↦ rw (w.place-is, w.length-is) (
        l.invariant.0,
        λ test a. best-stays test _ l.i _ l.place l.length c.count-frames.ensures (l.invariant.1 test a)
            (sym (a _ _ _ c.is_better.ensures) ∙ w.if-is_better.false),
      )
    ]

pub returns-clause-value : goal.returns-clause-value
returns-clause-value g c = λ test a.
    let end : c.loop-i.i ≡ 8 = omega arith in
    (c.loop-i.invariant.1 test a).best ∙ ap (best test (lengths_of c.args.runs)) end

pub returns-clause-low : goal.returns-clause-low
returns-clause-low g c = c.loop-i.invariant.0
