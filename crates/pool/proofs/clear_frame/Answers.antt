-- The part that was lent is the frame, and comes back as zero bytes.
use Rattle.std.proofs.Common.{ap, ◌∙◌}
use Rattle.pages.specs.Parts.{zeros}
use Rattle.pages.proofs.PartLaws.{length-zeros, length-lent, frame-back-as}
use Rattle.pool.proofs.clear_frame.Goals as goal

pub returns : goal.returns
returns c =
    let a = c.args in
    frame-back-as 256 a.pool.now c.clear.new.part (zeros 256) a.f.0
    (c.clear.ensures ∙ ap zeros (length-lent 256 a.pool.now a.f.0 c.requires)) (length-zeros 256)
