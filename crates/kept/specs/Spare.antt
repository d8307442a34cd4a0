-- Runs of kept frames beside the store. The store's marks stay those of the frames that entries name;
-- a kept frame is marked in its run, and in nothing else.
use Rattle.std.specs.Prelude.{◌≡◌, Bool, not, ◌&&◌, ℕ, zero, suc, ◌+◌, ◌-◌, ◌^◌, ◌≤◌, ◌<◌, eqb, set}
use Rattle.basics.specs.Choice.{◌when◌else◌}
use Rattle.basics.specs.Ranges.{sum}
use Rattle.basics.specs.Rows.{in_place, walked}
use Rattle.interface.specs.Slots.{Slots, starts_area}
use Rattle.run_choice.specs.Runs.{run_places, is_spared}
use Rattle.frames.specs.declared.Held.{Held}
use Rattle.frames.specs.Frames.{held, mark, none_held, count_held, least_held}
use Rattle.pages.specs.Parts.{frame, zeros}
use Rattle.table.specs.Store.{Store, kept, entry, front_of, take}

-- the runs of one sandbox, the oldest in place 0; a run without a frame is none
abbrev pub Row : Type 0
Row = ℕ → Held

-- those of each sandbox
abbrev pub Rows : Type 0
Rows = ℕ → Row

-- 'whose length is its number of frames'
abbrev pub lengths : Row → ℕ → ℕ
lengths row i = count_held (row i)

-- how many runs of a sandbox keep frame f, and how many of all
unfoldable pub kept_in : Row → ℕ → ℕ
kept_in row f = sum (λ i. held (row i) f) run_places

unfoldable pub kept_at : Rows → ℕ → ℕ
kept_at rows f = sum (λ s. kept_in (rows s) f) 4

-- how many frames a sandbox keeps
unfoldable pub kept_by : Row → ℕ
kept_by row = sum (lengths row) run_places

-- 'Kept frames are held and zero, belong to one run and no entry': of a pool of n frames of size bytes
pub record Spare (size n : ℕ) (st : Store) (rows : Rows) : Type 0 where
  pub once : (f : ℕ) → f < 128 → held st.marks f + kept_at rows f ≤ 1
  pub of_pool : (f : ℕ) → n ≤ f → f < 128 → kept_at rows f ≡ 0
  pub blank : (f : ℕ) → f < n → 1 ≤ kept_at rows f → frame size st.pool f ≡ zeros size

-- the runs are two words of 64 bits each: what their types say
pub record Words (row : Row) : Type 0 where
  pub low : (i : ℕ) → i < run_places → (row i).low < 2 ^ 64
  pub high : (i : ℕ) → i < run_places → (row i).high < 2 ^ 64

-- ---- a rewind makes runs

-- page i has a front that a rewind keeps
abbrev pub spares : Store → ℕ → Slots → ℕ → Bool
spares st s f i = not (eqb (entry st (front_of s i)) 0) && is_spared (f i)

-- its frame goes to the run at hand
abbrev pub gather : Store → ℕ → Slots → ℕ → Held → Held
gather st s f i run = mark run (entry st (front_of s i) - 1) 1 when spares st s f i else run

-- 'the frames of each uncommitted anonymous area, if any, are .. kept as one run'; 'At most 8 runs are kept, the longest'; found from the table before the
-- rewind, which then frees and clears these fronts like all others
unfoldable pub row_rewound : Store → ℕ → Slots → Row → Row
row_rewound st s f row = walked count_held run_places none_held (starts_area f) (gather st s f) row 64

-- ---- a map takes a run

-- a run without its j smallest frames
unfoldable pub left_of : Held → ℕ → Held
left_of run zero = run
left_of run (suc j) = mark (left_of run j) (least_held (left_of run j)) 0

-- 'The first new pages get these frames as fronts, smallest frame number first':
-- the j entries from first on take the j smallest frames of a run, which are zero
unfoldable pub grant_to : ℕ → ℕ → Held → Store → ℕ → Store
grant_to size first run st zero = st
grant_to size first run st (suc j) = take size (first + j) (least_held (left_of run j)) (zeros size) (grant_to size first run st j)

-- the rows with another run in place c of sandbox s
abbrev pub with_run : ℕ → ℕ → Held → Rows → Rows
with_run s c run rows = in_place s (in_place c run (rows s)) rows

-- the same, as the code does it: the frames are zero already, so that entries and marks change and no byte does (proofs/AdoptLaws)
unfoldable pub adopt_to : ℕ → Held → Store → ℕ → Store
adopt_to first run st zero = st
adopt_to first run st (suc j) =
    let s = adopt_to first run st j in
    let f = least_held (left_of run j) in
    kept (mark s.marks f 1) s.pool (set s.table (first + j) (f + 1))
