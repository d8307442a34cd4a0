-- The areas that were passed are in the snapshot where they are committed, so whether all are is whether the rest are.
use Rattle.std.proofs.Common.{◌≡◌, ◌-◌, get_or}
use Rattle.basics.specs.Ranges.{every}
use Rattle.areas.specs.Areas.{none}
use Rattle.committed_pages.proofs.AreaLaws.{backed_area}
use Rattle.committed_pages.proofs.all_backed.Given as goal

abbrev pub invariant-loop-k : goal.invariant-loop-k
invariant-loop-k l =
    every (λ k. backed_area l.fn.snapshot (get_or l.fn.present.list k none)) 0 l.fn.present.count
    ≡ every (λ k. backed_area l.fn.snapshot (get_or l.fn.present.list k none)) l.k (l.fn.present.count - l.k)
