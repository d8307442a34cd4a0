-- The byte of the page at the place of the address.
use mathlib.Core.Path.{◌∙◌}
use borrow.Author.Rules.{rules}
use Rattle.byte_at.proofs.read.Statement.{statement}
use Rattle.byte_at.proofs.read.Tie as tie

page-of-requires : tie.Need-page_of-number-requires
page-of-requires c κs = search rules

cast-read-byte : tie.Need-overflow_cast-page
cast-read-byte c = search rules

offset-of-requires : tie.Need-offset_of-requires
offset-of-requires c κs = search rules

read-byte-requires : tie.Need-read_byte-requires
read-byte-requires c κs = search rules

returns : tie.Need-returns
returns c h = c.read_byte.ensures h ∙ rw (c.page_of-number.ensures, c.offset_of.ensures)

pub read_spec : {M : Type 1} → statement M
read_spec = tie.close (tie.spec page-of-requires cast-read-byte offset-of-requires read-byte-requires returns)
