-- What the program answers and hands on to be written, of a roll played from a start (`Performed`, which `perform` promises).
use Rattle.std.specs.Prelude.{◌≡◌, true, false, List, [], ℕ, ◌≤◌, ◌<◌, length}
use Rattle.std.proofs.Math.Option.{some}
use Rattle.interface.specs.Numbers.{sandbox_count}
use Rattle.interface.specs.Answers.{Answer}
use Rattle.interface.specs.Answers.{answered}
use Rattle.interface.specs.Examples.{refused}
use Rattle.lines.specs.Lines.{lines_of}
use Rattle.state.specs.World.{World, lengths_ok}
use Rattle.state.specs.Start.{started_by}
use Rattle.plain.specs.Machine.{Given, Pages, Plain}
use Rattle.plain_claims.specs.Lists.{up_to}
use Rattle.roll.specs.Play.{lines_in, requests}
use Rattle.roll.specs.Replies.{lent}
use Rattle.archive.specs.Archive.{archive}
use Rattle.archive.specs.Text.{printed_roll}
use Rattle.archive.specs.Written.{plain_written}
use Rattle.whole_roll.specs.Whole.{left}
use Rattle.roll.specs.Input.{RollPlayed}
use Rattle.image_file.specs.declared.Found.TheVariants.{Unreadable}
use Rattle.image_file.specs.Image.{image_bytes}
use Rattle.archive_program.specs.Performed.{Performed, handed_on}

-- the plain machine after all that was read
abbrev pub plain_after : (g : Given) {image : List ℕ} {w v : World} → RollPlayed image w v → Plain
plain_after g input = up_to g (requests (lines_in input.roll (lines_of (length input.roll))))

-- where each length is right, answer and output are the plain machine's, "with the image and the pool's number of frames"
abbrev pub AnswersPlain : Type 0
AnswersPlain =
    (image pool₀ table₀ : List ℕ) (s : ℕ) (out₀ : List ℕ) (answer : Answer) (out : List ℕ)
    → lengths_ok (length pool₀) (length table₀) (length image) ≡ true
    → (p : Performed image (started_by pool₀ table₀ image) s out₀ answer out)
    → let g = lent image pool₀ in left answer out ≡ plain_written g (plain_after g p.input) s out₀

-- so of a sandbox that then has a snapshot, with room for the longest roll, what is handed on is the text of the snapshot's archive roll, all of it
abbrev pub PrintsArchive : Type 0
PrintsArchive =
    (image pool₀ table₀ : List ℕ) (s : ℕ) (out₀ : List ℕ) (answer : Answer) (out : List ℕ)
    → lengths_ok (length pool₀) (length table₀) (length image) ≡ true
    → (p : Performed image (started_by pool₀ table₀ image) s out₀ answer out)
    → 705286 ≤ length out₀ → s < sandbox_count
    → let k = plain_after (lent image pool₀) p.input s in
    (d : Pages) → k.core.copy ≡ some d → handed_on answer out ≡ printed_roll (archive s k.core.share d image)

-- refused with this number; the output is as it was, and nothing is handed on
pub record RefusedBy (number : ℕ) (out₀ : List ℕ) (answer : Answer) (out : List ℕ) : Type 0 where
  pub told : answered answer ≡ refused number
  pub kept : out ≡ out₀
  pub silent : handed_on answer out ≡ []

-- where a length is wrong: refusal 3
abbrev pub RefusesWrongLength : Type 0
RefusesWrongLength =
    (image pool₀ table₀ : List ℕ) (s : ℕ) (out₀ : List ℕ) (answer : Answer) (out : List ℕ)
    → lengths_ok (length pool₀) (length table₀) (length image) ≡ false
    → Performed image (started_by pool₀ table₀ image) s out₀ answer out
    → RefusedBy 3 out₀ answer out

-- so of an image that is there and cannot be read whole, whatever pool and table
abbrev pub RefusesUnreadable : Type 0
RefusesUnreadable =
    (image pool₀ table₀ : List ℕ) (s : ℕ) (out₀ : List ℕ) (answer : Answer) (out : List ℕ)
    → length image ≡ image_bytes Unreadable
    → Performed image (started_by pool₀ table₀ image) s out₀ answer out
    → RefusedBy 3 out₀ answer out
