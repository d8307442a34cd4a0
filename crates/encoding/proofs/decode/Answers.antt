-- The sandboxes are the row that the bytes begin with, and the marks stand behind them.
use Rattle.pages.specs.Parts.{part_at}
use Rattle.layout.specs.Layout.{state_from}
use Rattle.encoding.proofs.decode.Goals as goal

pub returns : goal.returns
unfolding state_from part_at
returns c = λ i. record { sandboxes = c.decode_row.ensures i; held = c.decode_marks.ensures i }
