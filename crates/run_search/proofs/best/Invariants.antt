-- The best of the places that were passed, with its length.
use Rattle.std.proofs.Common.{ℕ, Bool, ◌<◌}
use Rattle.runs.specs.Row.{lengths_of}
use Rattle.run_search.specs.Search.{Answers}
use Rattle.run_search.proofs.SearchLaws.{BestOf}
use Rattle.run_search.proofs.best.Given as goal

abbrev pub invariant-loop-i : goal.invariant-loop-i
invariant-loop-i g l =
    (l.place < 8)
    × ((test : ℕ → ℕ → Bool) → Answers (goal.F-post g l.is_better) test → BestOf test (lengths_of l.fn.runs) l.i l.place l.length)
