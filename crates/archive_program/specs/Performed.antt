-- What the program reads, answers and writes.
use Rattle.std.specs.Prelude.{◌≡◌, List, ℕ, ◌*◌, take}
use Rattle.interface.specs.Answers.{Answer}
use Rattle.interface.specs.Answers.{value_of}
use Rattle.state.specs.World.{World}
use Rattle.replay.specs.Snapshot.{written}
use Rattle.whole_roll.specs.Whole.{left}
use Rattle.roll.specs.Input.{RollPlayed}

-- The roll is played from a world, and answer and output are those of the archive roll of what it leaves.
pub record Performed (image : List ℕ) (w : World) (sandbox : ℕ) (out₀ : List ℕ) (answer : Answer) (out : List ℕ) : Type 0 where
  pub world : World
  pub input : RollPlayed image w world
  pub archived : left answer out ≡ written image world sandbox out₀

-- what is handed on to be written, of an answer and the output: 43 bytes for each line, and none where it is refused
abbrev pub handed_on : Answer → List ℕ → List ℕ
handed_on answer out = take (value_of answer * 43) out
