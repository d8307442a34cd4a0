-- The low word first, then the high word.
use mathlib.Core.Path.{refl, sym, ◌∙◌}
use native.Mathlib.Omega.{arith}
use lib.Dec.{eqb}
use borrow.Author.Rules.{rules}
use borrow.Author.Tests.{lt-ltb, le-ltb}
use Rattle.basics.proofs.LoopLaws.{lowest-range}
use Rattle.words.specs.Word.{bit}
use Rattle.frames.proofs.PairLaws.{least-words}
use Rattle.frames.proofs.Held.least.Goals as goal

pub returns-then-low-lt-WORD : goal.returns-then-low-lt-WORD
returns-then-low-lt-WORD c =
    let self = c.args.self in
    sym (rw (lt-ltb _ 64 c.if-low-lt-WORD.true)) ∙ least-words self c.lowest_set-low.result _ c.lowest_set-low.ensures refl

pub overflow_add-result : goal.overflow_add-result
overflow_add-result c =
    let words = c.args.self in
    let range = (lowest-range (λ k. eqb (bit words.high k) 1) 0 64).1 in
    record { fits = omega (arith, c.lowest_set.ensures, range) }

pub returns : goal.returns
returns c =
    let self = c.args.self in
    sym (rw (le-ltb _ 64 c.if-low-lt-WORD.false))
    ∙ least-words self c.lowest_set-low.result c.lowest_set.result c.lowest_set-low.ensures c.lowest_set.ensures
