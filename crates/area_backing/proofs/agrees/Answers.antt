-- By the kind of each backing; two images agree where their first pages are as far apart as those of the areas.
use Rattle.std.proofs.Common.{◌≡◌}
use Rattle.interface.specs.Slots.{follows}
use Rattle.area_backing.proofs.ReachLaws.{agree-both}
use Rattle.area_backing.proofs.agrees.Goals as goal

pub returns-in-Anonymous-Anonymous : goal.returns-in-Anonymous-Anonymous
unfolding follows
returns-in-Anonymous-Anonymous c = λ page x y. rw (c.in-Anonymous-Anonymous.is-0, c.in-Anonymous-Anonymous.is-1)

pub returns-in-Image-Image : goal.returns-in-Image-Image
returns-in-Image-Image c = λ page x y.
    rw (c.from.ensures, c.from-in-Image-Image.ensures, c.from-in-Image-Image-2.ensures, c.from-in-Image-Image-3.ensures)
    (agree-both _ _ _ _ _ _ page c.in-Image-Image.is-0 c.in-Image-Image.is-1 x y)

pub returns-in_default : goal.returns-in_default
unfolding follows
returns-in_default c = λ page x y. rw (c.in_default.is-0, c.in_default.is-1)

pub returns-in_default-2 : goal.returns-in_default-2
unfolding follows
returns-in_default-2 c = λ page x y. rw (c.in_default.is-0, c.in_default.is-1)
