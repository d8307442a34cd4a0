-- What is read of a roll, and that it is played.
use Rattle.std.specs.Prelude.{◌≡◌, List, [], ◌++◌, ℕ, ◌+◌, ◌≤◌, ◌<◌, length}
use Rattle.lines.specs.Lines.{lines_of}
use Rattle.state.specs.World.{World}
use Rattle.roll.specs.Play.{Played}

-- what was read from the line with this number on, "43 bytes" after 43 bytes, until a line is short. "Lines after the 65,535th are not read."
pub data LinesRead : ℕ → List ℕ → Type 0 where
  full : LinesRead 65536 []
  last : {number : ℕ} (line : List ℕ) → number ≤ 65535 → length line < 43 → LinesRead number line
  next : {number : ℕ} (line rest : List ℕ) → number ≤ 65535 → length line ≡ 43 → LinesRead (number + 1) rest → LinesRead number (line ++ rest)

-- all that was read is one roll that is played from one world to another, "line number from 1"; its replies are printed nowhere
pub record RollPlayed (image : List ℕ) (w v : World) : Type 0 where
  pub roll : List ℕ
  pub read : LinesRead 1 roll
  pub replies : List ℕ
  pub played : Played image w roll (lines_of (length roll)) 1 [] replies v
