-- What is answered when the archive roll of a sandbox is asked for, and what output memory then holds.
use Rattle.std.specs.Prelude.{ℕ, ◌*◌, List, [], ◌++◌, eqb, length, drop}
use Rattle.std.proofs.Math.Option.{Option, some, none}
use Rattle.basics.specs.Choice.{◌when◌else◌}
use Rattle.interface.specs.declared.request.Request.{Request}
use Rattle.interface.specs.Answers.{Answered}
use Rattle.interface.specs.Refusals.{archive_refusal}
use Rattle.plain.specs.Machine.{Given, Pages, Core, Plain, view_of, shares}
use Rattle.archive.specs.Archive.{archive}
use Rattle.archive.specs.Text.{printed_roll}

-- an answer, and the output memory that is left
pub record Written : Type 0 where
  pub answer : Answered
  pub out : List ℕ

-- of a roll, refused with this number or, where it is 0, not refused. "The answer is the number of lines; output memory past them is untouched. .. any refusal
-- leaves all output memory untouched."
unfoldable pub written_as : ℕ → List Request → List ℕ → Written
written_as number roll out = record {
  answer = record { number = number; value = length roll when eqb number 0 else 0 };
  out = (printed_roll roll ++ drop (length roll * 43) out) when eqb number 0 else out;
}

-- the roll of the copy that the plain machine keeps; without one there is none
abbrev pub roll_from : ℕ → ℕ → Option Pages → List ℕ → List Request
roll_from s share none image = []
roll_from s share (some d) image = archive s share d image

abbrev pub roll_of : Given → Plain → ℕ → List Request
roll_of g p s = roll_from s (p s).core.share (p s).core.copy g.image

-- what the plain machine answers and writes
unfoldable pub plain_written : Given → Plain → ℕ → List ℕ → Written
plain_written g p s out =
    written_as (archive_refusal (view_of g (shares p) (p s).core) s (length (roll_of g p s) * 43) (length out)) (roll_of g p s) out
