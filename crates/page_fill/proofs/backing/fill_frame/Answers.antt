-- A frame is cleared for an anonymous backing, and gets the part of the image that is its page for any other.
use Rattle.std.proofs.Common.{ap, arith}
use Rattle.table.specs.Backing.{backing_end}
use Rattle.page_fill.proofs.backing.fill_frame.Goals as goal

pub part_of-requires : goal.part_of-requires
part_of-requires c = omega (arith, ap backing_end c.in-Image.is)

pub returns-in-Anonymous : goal.returns-in-Anonymous
returns-in-Anonymous c = rw c.in-Anonymous.is c.clear_frame.ensures

pub returns-in-Image : goal.returns-in-Image
returns-in-Image c = rw (c.in-Image.is, ← c.part_of.ensures.part) c.fill_frame.ensures
