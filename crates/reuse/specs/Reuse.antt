-- What a write gives up.
use Rattle.std.specs.Prelude.{◌≡◌, Bool, true, ℕ}
use Rattle.basics.specs.Choice.{◌when◌else◌}
use Rattle.run_choice.specs.Runs.{longest_run}
use Rattle.frames.specs.declared.Held.{Held}
use Rattle.frames.specs.Frames.{mark}
use Rattle.runs.specs.declared.Runs.{Runs}
use Rattle.runs.specs.Row.{row, lengths_of, with_run_at, InLongest}
use Rattle.reuse.specs.declared.Given.{Given}

-- where a frame is given up, it is one of the longest run, which loses it; the marks of the kept frames lose it too
pub record GaveUp (gives : Bool) (runs : Runs) (kept : Held) (r : Given) : Type 0 where
  pub given : ℕ
  pub gave : gives ≡ true → InLongest runs given
  pub left : r.runs ≡ (with_run_at (longest_run (lengths_of runs)) (mark (row runs (longest_run (lengths_of runs))) given 0) runs when gives else runs)
  pub marks : r.kept ≡ (mark kept given 0 when gives else kept)
