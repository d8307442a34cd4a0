-- A byte of an anonymous backing is zero; any other is read in the part of the image that is its page.
use Rattle.std.proofs.Common.{ap, arith}
use Rattle.pages.proofs.PartLaws.{get_or-zeros}
use Rattle.table.specs.Backing.{backing_end}
use Rattle.reading.proofs.backing.read_byte.Goals as goal

pub part_of-requires : goal.part_of-requires
part_of-requires c = omega (arith, ap backing_end c.in-Image.is)

pub returns-in-Anonymous : goal.returns-in-Anonymous
returns-in-Anonymous c = rw (c.in-Anonymous.is, get_or-zeros)

pub returns-in-Image : goal.returns-in-Image
returns-in-Image c = rw (c.in-Image.is, ← c.part_of.ensures.part) c.read.ensures
