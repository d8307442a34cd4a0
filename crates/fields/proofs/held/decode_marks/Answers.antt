-- The marks read are the words that the two halves spell.
use Rattle.pages.specs.Parts.{part_at}
use Rattle.layout.specs.Layout.{marks_from}
use Rattle.fields.proofs.held.decode_marks.Goals as goal

pub returns : goal.returns
unfolding marks_from part_at
returns c = λ i. record { low = c.decode_word.ensures i; high = c.decode_word-2.ensures i }
