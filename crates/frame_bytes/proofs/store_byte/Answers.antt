-- The part that was lent is the frame, and comes back with one byte stored.
use Rattle.std.proofs.Common.{ℕ, List, set, ap, ◌∙◌, length-set}
use Rattle.pages.specs.Parts.{frame}
use Rattle.pages.proofs.PartLaws.{length-frame, part-is-frame, frame-back-as}
use Rattle.frame_bytes.proofs.store_byte.Goals as goal

pub returns : goal.returns
returns c =
    let a = c.args in
    let page = frame 256 a.pool.now a.f.0 in
    frame-back-as 256 a.pool.now c.store.new.part (set page a.offset a.byte) a.f.0
    (c.store.ensures ∙ ap (λ (page : List ℕ). set page a.offset a.byte) (part-is-frame 256 a.pool.now a.f.0))
    (length-set page a.offset a.byte ∙ length-frame 256 a.pool.now a.f.0 c.requires)
