-- The frames of the high word first, then those of the low word.
use Rattle.std.proofs.Common.{sym, ◌∙◌, ◌-◌, arith}
use native.Mathlib.Nat.{le_of_lt}
use Rattle.words.specs.Word.{bit}
use Rattle.free_frames.proofs.GreatestLaws.{greatest-found, free-low, free-found, free-rest}
use Rattle.free_frames.proofs.greatest_free.Goals as goal

pub returns-then-frames-le-WORD : goal.returns-then-frames-le-WORD
returns-then-frames-le-WORD c = c.greatest_unset.ensures ∙ sym (free-low _ _ c.if-frames-le-WORD.true)

pub overflow_add-result : goal.overflow_add-result
overflow_add-result c =
    let found = greatest-found (bit c.args.marks.high) (c.args.frames - 64) c.in-Some.f (sym c.in-Some.ensures) in
    omega (arith, found.within, c.requires)

pub returns-in-Some : goal.returns-in-Some
returns-in-Some c = free-found c.args.marks _ _ (le_of_lt c.if-frames-le-WORD.false) (sym c.in-Some.ensures)

pub returns-in-None : goal.returns-in-None
returns-in-None c = c.greatest_unset-in-None.ensures ∙ free-rest c.args.marks _ (le_of_lt c.if-frames-le-WORD.false) (sym c.in-None.ensures)
