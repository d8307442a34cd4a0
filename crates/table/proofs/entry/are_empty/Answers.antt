-- The eight entries are a part of the table.
use Rattle.std.proofs.Common.{◌∙◌}
use Rattle.marks.proofs.EntryLaws.{none-part}
use Rattle.table.proofs.entry.are_empty.Goals as goal

pub returns : goal.returns
returns c = c.names_none.ensures ∙ none-part c.args.table.now c.args.at 8 c.requires
