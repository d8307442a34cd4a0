-- So far every area stays, or not.
use Rattle.std.proofs.Common.{ℕ, Bool, ◌≡◌, get_or}
use Rattle.basics.specs.Ranges.{every}
use Rattle.areas.specs.Areas.{none}
use Rattle.area_agreement.specs.Unchanged.{stays}
use Rattle.area_agreement.proofs.are_unchanged.Given as goal

abbrev pub invariant-loop-k : goal.invariant-loop-k
invariant-loop-k l = l.same ≡ every (λ k. stays (get_or l.fn.present.list k none) (get_or l.fn.snapshot.list k none)) 0 l.k
