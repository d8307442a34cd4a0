-- The pass over the whole table is good, and its marks are those held.
use Rattle.marks.specs.Marks.{marksb}
use Rattle.table_marks.proofs.marks_match.Goals as goal

pub returns : goal.returns
unfolding marksb
returns c = rw (c.same.ensures, c.marks_of-found.ensures)
