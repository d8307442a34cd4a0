-- The runs of a sandbox by their places.
use Rattle.std.specs.Prelude.{ℕ, zero, suc, ◌+◌, ◌-◌, ◌<◌, ◌≡◌, leb, List, [], ◌∷◌, get_or, set, replicate}
use Rattle.basics.specs.Choice.{◌when◌else◌}
use Rattle.basics.specs.Rows.{best, no_longer}
use Rattle.run_choice.specs.Runs.{longest_run}
use Rattle.frames.specs.declared.Held.{Held}
use Rattle.frames.specs.Frames.{held, none_held, count_held}
use Rattle.runs.specs.declared.Runs.{Runs}

-- the run in each place; none past the end
abbrev pub row : Runs → ℕ → Held
row r i = get_or r.list i none_held

-- "whose length is its number of frames"
abbrev pub lengths_of : Runs → ℕ → ℕ
lengths_of r i = count_held (row r i)

abbrev pub no_runs : Runs
no_runs = record { list = replicate 8 none_held }

-- another run in place c
abbrev pub with_run_at : ℕ → Held → Runs → Runs
with_run_at c h r = record { list = set r.list c h }

-- the runs of a row of 8
unfoldable pub row_to : ℕ → (ℕ → Held) → List Held
row_to zero f = []
row_to (suc n) f = f 0 ∷ row_to n (λ i. f (suc i))

abbrev pub tabled : (ℕ → Held) → Runs
tabled f = record { list = row_to 8 f }

-- the first j runs after place c have moved up by one
unfoldable pub shift_to : ℕ → Runs → ℕ → Runs
shift_to c r zero = r
shift_to c r (suc j) = with_run_at (c + j) (row (shift_to c r j) (c + j + 1)) (shift_to c r j)

-- all of them, and a run comes last
unfoldable pub moved_runs : ℕ → Held → Runs → Runs
moved_runs c run r = with_run_at 7 run (shift_to c r (7 - c))

-- a new run competes for the places (proofs/RowLaws: it is `push`)
unfoldable pub pushed : Runs → Held → Runs
pushed r run =
    let c = best no_longer (lengths_of r) 8 in
    r when leb (count_held run) (lengths_of r c) else moved_runs c run r

-- a frame of the longest of these runs
pub record InLongest (runs : Runs) (given : ℕ) : Type 0 where
  pub low : given < 128
  pub kept : held (row runs (longest_run (lengths_of runs))) given ≡ 1
