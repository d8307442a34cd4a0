-- The part that was lent is the frame, comes back as the source's bytes, and is what was compared with them.
use Rattle.std.proofs.Common.{ℕ, List, ap₂, ◌∙◌}
use Rattle.pages.specs.Parts.{differs}
use Rattle.pages.proofs.PartLaws.{part-is-frame, length-lent, frame-back-as}
use Rattle.pool.proofs.restore_frame.Goals as goal

pub returns-clause-pool_after : goal.returns-clause-pool_after
returns-clause-pool_after c =
    let a = c.args in frame-back-as 256 a.pool.now c.restore.new.part a.src.now a.f.0 c.restore.ensures.part_after c.requires.src_len

pub returns-clause-differed : goal.returns-clause-differed
returns-clause-differed c =
    let a = c.args in
    c.restore.ensures.differed
    ∙ ap₂ (λ (n : ℕ) (xs : List ℕ). differs n xs a.src.now) (length-lent 256 a.pool.now a.f.0 c.requires.f_in_bounds) (part-is-frame 256 a.pool.now a.f.0)
