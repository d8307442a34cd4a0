-- The frame that is named, or the backing where none is.
use Rattle.std.proofs.Common.{◌∙◌, ap, arith}
use Rattle.pages.specs.Parts.{frame}
use Rattle.pages.proofs.PartLaws.{length-zeros}
use Rattle.table.specs.Backing.{backing_page, backing_end}
use Rattle.table.proofs.PageLaws.{page-there}
use Rattle.page_comparison.proofs.bytes_of.Goals as goal

pub returns-then-entry-ne0-clause-bytes : goal.returns-then-entry-ne0-clause-bytes
returns-then-entry-ne0-clause-bytes c =
    let a = c.args in
    c.part_of.ensures.part ∙ ap (frame 256 a.pool.now) c.frame_of.ensures
    ∙ page-there 256 a.pool.now (backing_page a.image.now a.backing) a.entry c.if-entry-ne0.true

pub returns-in-Anonymous-clause-bytes : goal.returns-in-Anonymous-clause-bytes
returns-in-Anonymous-clause-bytes c = rw (c.if-entry-ne0.false, c.in-Anonymous.is) c.requires.zero_value

pub returns-in-Anonymous-clause-len : goal.returns-in-Anonymous-clause-len
returns-in-Anonymous-clause-len c = rw c.requires.zero_value (length-zeros 256)

pub part_of-requires-in-Image : goal.part_of-requires-in-Image
part_of-requires-in-Image c = omega (arith, ap backing_end c.in-Image.is)

pub returns-in-Image-clause-bytes : goal.returns-in-Image-clause-bytes
returns-in-Image-clause-bytes c = rw (c.if-entry-ne0.false, c.in-Image.is) c.part_of-in-Image.ensures.part
