-- The test is the definition, each part computed by its own call.
use Rattle.std.proofs.Common.{◌≡◌, refl, Bool, true, false}
use Rattle.std.proofs.Math.Bool.{beq}
use Rattle.basics.specs.Choice.{same}
use Rattle.areas.specs.Formed.{goes_on}
use Rattle.areas.proofs.area.Area.goes_on.Goals as goal

beq-same : (a b : Bool) → beq a b ≡ same a b
beq-same true true = refl
beq-same true false = refl
beq-same false true = refl
beq-same false false = refl

pub returns : goal.returns
unfolding goes_on
returns c = rw (c.from.ensures, c.from-2.ensures, c.from-3.ensures, c.follows.ensures, beq-same)
