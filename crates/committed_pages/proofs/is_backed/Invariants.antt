-- How far the snapshot has the area's pages, after the areas that were passed.
use Rattle.committed_pages.proofs.BackedLaws.{Come}
use Rattle.committed_pages.proofs.is_backed.Given as goal

abbrev pub invariant-loop-copy : goal.invariant-loop-copy
invariant-loop-copy l = Come l.fn.snapshot l.fn.area l.copy-index l.page
