-- The test of the kept frames, as the code computes it: one pass over the runs of all sandboxes, then one over the frames.
use Rattle.std.specs.Prelude.{Bool, true, ◌&&◌, List, ℕ, zero, suc, eqb, ltb, get_or}
use Rattle.basics.specs.Choice.{implies}
use Rattle.basics.specs.Ranges.{every}
use Rattle.run_choice.specs.Runs.{run_places}
use Rattle.frames.specs.declared.Held.{Held}
use Rattle.frames.specs.Frames.{held, none_held, both_held, apart_held}
use Rattle.pages.specs.Parts.{frame}
use Rattle.marks.specs.declared.Marks.{Marks}
use Rattle.table.specs.Store.{Store}
use Rattle.kept.specs.Spare.{Row, Rows}

-- one more run: its frames come to those found, and none of them may be there already
abbrev pub add_run : Marks → Held → Marks
add_run m run = record { good = apart_held m.held run && m.good; held = both_held m.held run }

-- the first i runs of a sandbox
unfoldable pub runs_to : Row → Marks → ℕ → Marks
runs_to row m zero = m
runs_to row m (suc i) = add_run (runs_to row m i) (row i)

-- all runs of the first s sandboxes
unfoldable pub kept_to : Rows → ℕ → Marks
kept_to rows zero = record { good = true; held = none_held }
kept_to rows (suc s) = runs_to (rows s) (kept_to rows s) run_places

-- a frame of zeros
unfoldable pub blankb : List ℕ → ℕ → Bool
blankb pool f = every (λ o. eqb (get_or (frame 256 pool f) o 0) 0) 0 256

-- a frame that is kept is one of the pool, and zero
abbrev pub frame_ok : ℕ → List ℕ → Held → ℕ → Bool
frame_ok n pool kept f = implies (eqb (held kept f) 1) (ltb f n && blankb pool f)

-- 'Kept frames are held and zero, belong to one run and no entry'
unfoldable pub spareb : ℕ → Store → Rows → Bool
spareb n st rows =
    (kept_to rows 4).good
    && (apart_held st.marks (kept_to rows 4).held
    && every (frame_ok n st.pool (kept_to rows 4).held) 0 128)
