-- The test is the definition; the sum does not wrap in the wider type.
use Rattle.std.proofs.Common.{◌≡◌}
use Rattle.basics.proofs.RangeLaws.{inside-ends}
use Rattle.areas.proofs.basic.is_inside.Goals as goal

pub returns : goal.returns
returns c = rw (c.from.ensures, c.from-2.ensures, c.from-3.ensures) (inside-ends _ _ _)
