-- Whether so many bytes of output are enough for the replies to a roll of so many bytes, and how many of its lines are then answered.
use Rattle.std.specs.Prelude.{ℕ, ◌*◌, ltb, Option, Some, None}
use Rattle.basics.specs.Choice.{◌when◌else◌}
use Rattle.lines.specs.Lines.{lines_of}

-- each reply has 19 bytes; all lines are answered, or none
abbrev pub room_for : ℕ → ℕ → Option ℕ
room_for roll out = None when ltb out (lines_of roll * 19) else Some (lines_of roll)
