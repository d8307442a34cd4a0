-- An entry that names a frame marks it, and an empty one changes nothing.
use borrow.Author.Tests.{eq-eqb, ne_eqb}
use Rattle.front_frames.proofs.with_entry.Goals as goal

pub returns-then-entry-eq0 : goal.returns-then-entry-eq0
returns-then-entry-eq0 c = rw (eq-eqb _ _ c.if-entry-eq0.true)

pub returns : goal.returns
returns c = rw (ne_eqb _ _ c.if-entry-eq0.false, ← c.frame_of.ensures) c.with.ensures
