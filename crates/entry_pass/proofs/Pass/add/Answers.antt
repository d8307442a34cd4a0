-- The tests of the code are the lines of `pass_entry`, in its order.
use borrow.Author.Tests.{eq-eqb, ne_eqb, lt-ltb, le-ltb}
use Rattle.entry_pass.specs.Pass.{pass_entry}
use Rattle.entry_pass.proofs.Pass.add.Goals as goal

pub returns-then-entry-eq0 : goal.returns-then-entry-eq0
unfolding pass_entry
returns-then-entry-eq0 c = simp (eq-eqb _ _ c.if-entry-eq0.true)

pub returns-then-entry-frames : goal.returns-then-entry-frames
unfolding pass_entry
returns-then-entry-frames c = simp (ne_eqb _ _ c.if-entry-eq0.false, lt-ltb _ _ c.if-entry-frames.true)

pub returns : goal.returns
unfolding pass_entry
returns c = simp (ne_eqb _ _ c.if-entry-eq0.false, le-ltb _ _ c.if-entry-frames.false, c.with.ensures)
