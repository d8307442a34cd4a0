-- The part that was lent is the frame, and comes back as the source's bytes.
use Rattle.pages.proofs.PartLaws.{frame-back-as}
use Rattle.pool.proofs.fill_frame.Goals as goal

pub returns : goal.returns
returns c = let a = c.args in frame-back-as 256 a.pool.now c.fill.new.part a.src.now a.f.0 c.fill.ensures c.requires.src_len
