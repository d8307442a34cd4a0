-- The test of a sandbox's runs, as the code computes it. (proofs/RunLaws: it is true exactly of sound runs.)
use Rattle.std.specs.Prelude.{Bool, not, ◌&&◌, ℕ, ◌+◌, ◌*◌, leb, eqb, length}
use Rattle.basics.specs.Choice.{implies}
use Rattle.basics.specs.Ranges.{every}
use Rattle.frames.specs.Frames.{none_held, same_held}
use Rattle.marks.specs.Named.{used_below}
use Rattle.marks.specs.Marks.{from}
use Rattle.table.specs.Store.{Store}
use Rattle.runs.specs.declared.Runs.{Runs}
use Rattle.runs.specs.Row.{row}
use Rattle.kept.specs.Spare.{kept_by}

-- no run is kept
unfoldable pub none_kept : Runs → Bool
none_kept r = every (λ i. same_held (row r i) none_held) 0 8

-- kept frames "with fronts and backs stay within the share"; a closed sandbox keeps none
unfoldable pub runs_ok : Store → ℕ → Bool → ℕ → Runs → Bool
runs_ok st s opened share r =
    eqb (length r.list) 8
    && (leb (used_below (from (s * 128) st.table) 128 + kept_by (row r)) share && implies (not opened) (none_kept r))
