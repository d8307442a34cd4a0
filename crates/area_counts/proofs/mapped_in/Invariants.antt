-- The pages of the areas that were passed are counted.
use Rattle.area_counts.proofs.MappedLaws.{Covered}
use Rattle.area_counts.proofs.mapped_in.Given as goal

abbrev pub invariant-loop-area : goal.invariant-loop-area
invariant-loop-area l = Covered l.fn.areas l.fn.first.0 l.fn.n l.area-index l.pages
