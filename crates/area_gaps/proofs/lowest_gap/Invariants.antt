-- No gap starts before the page that the walk has come to.
use Rattle.area_gaps.proofs.GapLaws.{Sought}
use Rattle.area_gaps.proofs.lowest_gap.Given as goal

abbrev pub invariant-loop-area : goal.invariant-loop-area
invariant-loop-area l = Sought l.fn.areas l.fn.n l.area-index l.page
