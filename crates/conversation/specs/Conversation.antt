-- What the player says of each line that it hears, one after the other.
use Rattle.std.specs.Prelude.{◌≡◌, Bool, true, false, ◌&&◌, List, [], ◌∷◌, ◌++◌, ℕ, ◌+◌, ◌*◌, ◌≤◌, length, take, eqb}
use Rattle.lines.specs.Lines.{lines_of}
use Rattle.state.specs.declared.sandbox.Machine.{Machine}
use Rattle.state.specs.World.{World, world_of}
use Rattle.roll.specs.Play.{Played}
use Rattle.conversation.specs.declared.Progress.{Progress}

-- a turn: the bytes read, the reply's bytes as they are handed on, and whether these were written
pub record Turn : Type 0 where
  pub line : List ℕ
  pub reply : List ℕ
  pub written : Bool

-- the turn whose line and reply stand at the start of two buffers; a line's reply has 19 bytes, and where nothing was read there is none
abbrev pub turn_of : Progress → List ℕ → List ℕ → Turn
turn_of p line reply = record { line = take p.got line; reply = take (lines_of p.got * 19) reply; written = p.written }

-- whether another line is read: not after "A short last line", nor after a reply that could not be written
abbrev pub goes_on : Turn → Bool
goes_on t = t.written && eqb (length t.line) 43

-- what is read in a turn, "43 bytes" or fewer, is played with its line's number, and its reply is what `Played` prints
pub record Answers (image : List ℕ) (number : ℕ) (w : World) (t : Turn) (v : World) : Type 0 where
  pub numbered : number ≤ 65535
  pub one : length t.line ≤ 43
  pub played : Played image w t.line (lines_of (length t.line)) number [] t.reply v

-- turns one after the other, each from what the one before left, under the next number, until one does not go on. "Lines after the 65,535th are not read."
pub data Conversation (image : List ℕ) : ℕ → World → List Turn → World → Type 0 where
  full : {number : ℕ} {w : World} → number ≡ 65536 → Conversation image number w [] w
  last : {number : ℕ} {w v : World} {t : Turn} → Answers image number w t v → goes_on t ≡ false → Conversation image number w (t ∷ []) v
  next : {number : ℕ} {w v u : World} {t : Turn} {ts : List Turn}
      → Answers image number w t v → goes_on t ≡ true → Conversation image (number + 1) v ts u → Conversation image number w (t ∷ ts) u

-- all that was read, in order
unfoldable pub roll_of : List Turn → List ℕ
roll_of [] = []
roll_of (t ∷ ts) = t.line ++ roll_of ts

-- all that was handed on to be written, in order
unfoldable pub replies_of : List Turn → List ℕ
replies_of [] = []
replies_of (t ∷ ts) = t.reply ++ replies_of ts

-- whether every reply was written
unfoldable pub all_written : List Turn → Bool
all_written [] = true
all_written (t ∷ ts) = t.written && all_written ts

-- What the player does from a start: a conversation, "line number from 1"; all that was read is one roll that is played, and all replies are the print of it.
pub record Talked (image : List ℕ) (w : World) (pool table : List ℕ) (written : Bool) : Type 0 where
  pub machine : Machine
  pub turns : List Turn
  pub talk : Conversation image 1 w turns (world_of machine pool table)
  pub played : Played image w (roll_of turns) (lines_of (length (roll_of turns))) 1 [] (replies_of turns) (world_of machine pool table)
  pub told : written ≡ all_written turns
