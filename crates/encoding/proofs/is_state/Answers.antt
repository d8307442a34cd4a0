-- The length is right and the sandboxes pass: shown by the test of the length.
use Rattle.std.proofs.Common.{length}
use borrow.Author.Tests.{eq-eqb, ne_eqb}
use Rattle.layout.specs.Layout.{state_size, are_sandboxes, is_state}
use Rattle.encoding.proofs.is_state.Goals as goal

pub returns-then-bytes-eq-STATE : goal.returns-then-bytes-eq-STATE
unfolding is_state are_sandboxes
returns-then-bytes-eq-STATE c = rw (eq-eqb (length c.args.bytes.now) state_size c.if-bytes-eq-STATE.true) c.are_canonical.ensures

pub returns-else-bytes-eq-STATE : goal.returns-else-bytes-eq-STATE
unfolding is_state
returns-else-bytes-eq-STATE c = rw (ne_eqb (length c.args.bytes.now) state_size c.if-bytes-eq-STATE.false)
