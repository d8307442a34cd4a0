-- The parts of the areas that were passed are pushed.
use Rattle.areas.specs.Areas.{slots}
use Rattle.area_parts.specs.Parts.{updated}
use Rattle.repacking.proofs.PartLaws.{Parts}
use Rattle.repacking.proofs.with_parts.Given as goal

abbrev pub invariant-loop-area : goal.invariant-loop-area
invariant-loop-area l = Parts l.fn.areas (λ i. updated l.fn.update (slots l.fn.areas i)) l.fn.before l.fn.from l.fn.to l.area-index l.packed
