-- The part that was lent is the frame.
use Rattle.std.proofs.Common.{ap, ◌∙◌, ℕ, List}
use Rattle.std.specs.Prelude.{eqb, get_or}
use Rattle.basics.specs.Ranges.{every}
use Rattle.pages.proofs.PartLaws.{part-is-frame}
use Rattle.kept.specs.Test.{blankb}
use Rattle.kept_soundness.proofs.is_blank.Goals as goal

pub returns : goal.returns
unfolding blankb
returns c =
    rw (← c.from-start.ensures) (c.is_zero.ensures)
    ∙ ap (λ (page : List ℕ). every (λ o. eqb (get_or page o 0) 0) 0 256) (part-is-frame 256 c.args.pool.now c.args.f.0)
