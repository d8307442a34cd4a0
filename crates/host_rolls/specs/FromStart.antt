-- What a roll played from a start leaves in the memory that a host lent for it.
use Rattle.std.specs.Prelude.{◌≡◌, List, ℕ, ◌*◌, ◌≤◌, ◌<◌, length}
use Rattle.lines.specs.Lines.{lines_of}
use Rattle.state.specs.declared.sandbox.Machine.{Machine}
use Rattle.state.specs.World.{world_of}
use Rattle.state.specs.Start.{started_by}
use Rattle.roll.specs.Play.{Played}

-- the memory that a host lends to be written
pub record Regions : Type 0 where
  pub pool : List ℕ
  pub table : List ℕ
  pub out : List ℕ

abbrev pub regions : (pool table out : List ℕ) → Regions
regions pool table out = record { pool = pool; table = table; out = out }

-- "at least 19 * gazhuppin_lines(roll_bytes)": "3 fields a line, same columns" are 19 bytes with the line feed
abbrev pub Room : List ℕ → List ℕ → Type 0
Room roll out = lines_of (length roll) * 19 ≤ length out

-- With room in out for every reply, the whole roll is played from what a start leaves, "line number from 1"; where a lent length is wrong that is "refusal 3 on
-- each line not refused 1 or 2", and pool and table as they were. Lent memory of the wrong length "changes nothing": without that room, neither pool nor table
-- nor out.
pub record FromStart (image roll : List ℕ) (before after : Regions) (lines : ℕ) : Type 0 where
  pub answered : Room roll before.out → lines ≡ lines_of (length roll)
  pub played : Room roll before.out
      → (m : Machine)
      × Played image (started_by before.pool before.table image) roll (lines_of (length roll)) 1 before.out after.out
      (world_of m after.pool after.table)
  pub refused : length before.out < lines_of (length roll) * 19 → (lines ≡ 0) × (after ≡ before)
