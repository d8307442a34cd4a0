use Rattle.printing.proofs.PutLaws.{Turn}
use Rattle.segments.specs.ByAreas.{lines_at}
use Rattle.segments.proofs.by_area.put_areas.Given as goal

abbrev pub invariant-loop-area : goal.invariant-loop-area
invariant-loop-area l = let b = l.fn.snapshot in Turn l.initial.next l.next l.initial.out l.out (lines_at l.segment b.sandbox b.areas) 8 l.area-index
