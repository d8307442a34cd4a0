-- The areas that were passed are kept in their places.
use Rattle.repacking.proofs.BeforeLaws.{Kept}
use Rattle.repacking.proofs.up_to.Given as goal

abbrev pub invariant-loop-area : goal.invariant-loop-area
invariant-loop-area l = Kept l.fn.areas l.fn.to l.area-index l.kept
