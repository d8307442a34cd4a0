-- What host/library/include/gazhuppin.h promises of `gazhuppin_play`, each of its sentences a field. It follows from `FromStart` (proofs/PromisedLaws).
use Rattle.std.specs.Prelude.{◌≡◌, Bool, true, false, List, [], ◌++◌, ℕ, ◌*◌, ◌<◌, length, drop}
use Rattle.pages.specs.Parts.{zeros}
use Rattle.lines.specs.Lines.{lines_of}
use Rattle.state.specs.World.{lengths_ok}
use Rattle.roll.specs.Play.{lines_in, requests}
use Rattle.roll.specs.Replies.{lent, plain_replies, refused_replies}
use Rattle.host_rolls.specs.FromStart.{Regions, regions, Room}
use Rattle.host_rolls.specs.Left.{Left}

-- whether image, pool and table have lengths that a machine takes
abbrev pub right_lengths : List ℕ → Regions → Bool
right_lengths image before = lengths_ok (length before.pool) (length before.table) (length image)

pub record Promised (image roll : List ℕ) (before after : Regions) (lines : ℕ) : Type 0 where
  -- "Returns the number of lines played, which is that of the replies: gazhuppin_lines(roll_bytes)."
  pub returned : Room roll before.out → lines ≡ lines_of (length roll)
  -- "If out is too short it returns 0, and nothing has been written to any region."
  pub short : length before.out < lines_of (length roll) * 19 → (lines ≡ 0) × (after ≡ before)
  -- "The replies are written to its start, one of 19 bytes for each line .. Bytes after them are left as they are."
  pub replies : Room roll before.out → right_lengths image before ≡ true
      → after.out ≡ plain_replies (lent image before.pool) roll ++ drop (lines * 19) before.out
  -- "A wrong length of image, pool or table is no error of the call: pool and table are then left as they are, and every line is answered with a refusal:
  -- 1 if it is malformed, 2 if its code is not 1 to 10, 3 otherwise."
  pub wrong : Room roll before.out → right_lengths image before ≡ false
      → after ≡ regions before.pool before.table (refused_replies roll ++ drop (lines * 19) before.out)
  -- "Afterwards pool and table are those of the machine after the last line. .. A frame that no entry names is all zero."
  pub left : Room roll before.out → right_lengths image before ≡ true
      → Left (lent image before.pool) (requests (lines_in roll (lines_of (length roll)))) after.pool after.table
  -- "(A roll of no bytes returns 0 as well: pool and table are then cleared.)"
  pub cleared : roll ≡ [] → right_lengths image before ≡ true
      → (lines ≡ 0) × (after ≡ regions (zeros (length before.pool)) (zeros 512) before.out)
