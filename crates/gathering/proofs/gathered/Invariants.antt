-- The runs of the areas that were passed are pushed, whatever marks and pool there are.
use Rattle.std.proofs.Common.{List, ℕ}
use Rattle.frames.specs.declared.Held.{Held}
use Rattle.table.specs.Store.{kept}
use Rattle.gathering.proofs.AreaLaws.{Gathered}
use Rattle.gathering.proofs.gathered.Given as goal

abbrev pub invariant-loop-area : goal.invariant-loop-area
invariant-loop-area l = (h : Held) (pool : List ℕ) → Gathered (kept h pool l.table) l.sandbox l.fn.present l.fn.runs l.area-index l.all
