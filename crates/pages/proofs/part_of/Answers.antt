use Rattle.pages.proofs.PartLaws.{part-is-frame}
use Rattle.pages.proofs.part_of.Goals as goal

pub returns-clause-part : goal.returns-clause-part
returns-clause-part c = part-is-frame 256 c.args.bytes.now c.args.number
