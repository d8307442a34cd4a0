-- A roll played: each line in turn is answered, and its reply printed.
use Rattle.std.specs.Prelude.{◌≡◌, List, [], ◌∷◌, ◌++◌, ℕ, zero, suc, ◌+◌, ◌*◌, take, drop}
use Rattle.interface.specs.declared.request.Request.{Request}
use Rattle.interface.specs.Answers.{Answered}
use Rattle.lines.specs.declared.Line.{Line}
use Rattle.lines.specs.declared.Line.TheVariants.{Call, Malformed}
use Rattle.lines.specs.Lines.{line_at}
use Rattle.columns.specs.Prints.{UpTo, printed_reply}
use Rattle.state.specs.World.{World}
use Rattle.step.specs.Step.{Outcome, Stepped}
use Rattle.claims.specs.Demands.{Run}

-- row 1, "line malformed (player only)", with value 0
abbrev pub malformed : Answered
malformed = record { number = 1; value = 0 }

-- the first n lines of a roll
unfoldable pub lines_in : List ℕ → ℕ → List Line
lines_in roll zero = []
lines_in roll (suc n) = lines_in roll n ++ (line_at roll n ∷ [])

-- the requests of the well-formed lines, in order
unfoldable pub requests : List Line → List Request
requests [] = []
requests (Call q ∷ lines) = q ∷ requests lines
requests (Malformed ∷ lines) = requests lines

-- an answer for each line: "a malformed line is refused", each other has the next answer. (Where answers are short, what is left has none.)
unfoldable pub replies : List Line → List Answered → List Answered
replies [] answers = []
replies (Malformed ∷ lines) answers = malformed ∷ replies lines answers
replies (Call q ∷ lines) [] = []
replies (Call q ∷ lines) (a ∷ answers) = a ∷ replies lines answers

-- the reply lines, numbered from first on: "line number from 1, refusal number or 0, value"
unfoldable pub printed : ℕ → List Answered → List ℕ
printed first [] = []
printed first (a ∷ answers) = printed_reply first a.number a.value ++ printed (first + 1) answers

-- "3 fields a line, same columns": each number of a reply line has room in its 6 columns
abbrev pub FitsLine : ℕ → Answered → Type 0
FitsLine line a = UpTo 999999 (line ∷ a.number ∷ a.value ∷ [])

-- the same of reply lines, numbered from first on
unfoldable pub Fits : ℕ → List Answered → Type 0
Fits first [] = Unit
Fits first (a ∷ answers) = FitsLine first a × Fits (first + 1) answers

-- what a line does: a request is called, and a malformed line leaves state, pool and table
abbrev pub Turned : List ℕ → World → Line → Outcome → Type 0
Turned image w (Call q) o = Stepped image w q o
Turned image w Malformed o = o ≡ record { answer = malformed; world = w }

-- one line with its reply: what is printed for it, 19 bytes, stands at a place of out, no number wider than its columns; the rest of it is as it was
pub record Replied (image : List ℕ) (w : World) (line : Line) (number at : ℕ) (out₀ out : List ℕ) (v : World) : Type 0 where
  pub answer : Answered
  pub turned : Turned image w line (record { answer = answer; world = v })
  pub fits : FitsLine number answer
  pub prints : out ≡ take at out₀ ++ (printed_reply number answer.number answer.value ++ drop (at + 19) out₀)

-- n lines of a roll are played from one world to another: some answers are those of a run of the well-formed lines' requests, and what is printed
-- for each line, 19 bytes, stands at the start of out, no number wider than its columns; the rest of it is as it was
pub record Played (image : List ℕ) (w : World) (roll : List ℕ) (n first : ℕ) (out₀ out : List ℕ) (v : World) : Type 0 where
  pub answers : List Answered
  pub run : Run image w (requests (lines_in roll n)) answers v
  pub fits : Fits first (replies (lines_in roll n) answers)
  pub prints : out ≡ printed first (replies (lines_in roll n) answers) ++ drop (n * 19) out₀
