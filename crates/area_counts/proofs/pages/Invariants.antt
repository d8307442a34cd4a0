-- The pages of the areas that were passed are counted.
use Rattle.area_counts.proofs.CountedLaws.{Counted}
use Rattle.area_counts.proofs.pages.Given as goal

abbrev pub invariant-loop-area : goal.invariant-loop-area
invariant-loop-area l = Counted l.fn.areas l.fn.committed l.area-index l.n
