-- "Checked by hand (★: proved)": the starred cases as one table of rolls with their answers, without an image and with 128 frames.
use Rattle.std.specs.Prelude.{Bool, true, false, ◌&&◌, List, [], ◌∷◌, eqb}
use Rattle.interface.specs.Answers.{Answered}
use Rattle.interface.specs.Requests.{open_code, unmap_code, read_code, write_code, snapshot_code, rewind_code, report_code}
use Rattle.interface.specs.Examples.{Line, ◌gives◌, ok, refused, requests_of, gets_of, call₂, call₁, call, map_at}
use Rattle.plain.specs.Machine.{Given, fresh, answers}

abbrev pub cases : List (List Line)
cases =
    -- the roll of "The roll and its player", all 12 lines: "the two reads and two reports above"; line 8 printed 0 in document 01, and "line 8 of document 01's
    -- roll then prints 2" (A4)
    (call₁ open_code 8 gives ok 0 ∷ map_at 64 2 gives ok 0 ∷ call₂ write_code 5 7 gives ok 0 ∷ call snapshot_code gives ok 2 ∷ call₂ write_code 5 9 gives ok 0 ∷
    call₂ write_code 300 4 gives ok 0 ∷ call report_code gives ok 3 ∷ call rewind_code gives ok 2 ∷ call₁ read_code 5 gives ok 7 ∷ call₁ read_code 300 gives ok 0 ∷
    call report_code gives ok 3 ∷ call snapshot_code gives refused 7 ∷ []) ∷
    -- "share 8, 4 pages mapped: snapshot answers 4"; "that snapshot of 4, then one more page: refused 13"
    (call₁ open_code 8 gives ok 0 ∷ map_at 64 4 gives ok 0 ∷ call snapshot_code gives ok 4 ∷ map_at 64 1 gives refused 13 ∷ []) ∷
    -- "5 pages: refused 13"
    (call₁ open_code 8 gives ok 0 ∷ map_at 64 5 gives ok 0 ∷ call snapshot_code gives refused 13 ∷ []) ∷
    -- "a snapshot of no pages answers 0, and rewind is accepted"
    (call₁ open_code 8 gives ok 0 ∷ call snapshot_code gives ok 0 ∷ call rewind_code gives ok 0 ∷ []) ∷
    -- "committed page unmapped, rewound, reads its snapshot byte"
    (call₁ open_code 8 gives ok 0 ∷ map_at 0 1 gives ok 0 ∷ call₂ write_code 9 77 gives ok 0 ∷ call snapshot_code gives ok 1 ∷ call₂ unmap_code 0 1 gives ok 0 ∷
    call₁ read_code 9 gives refused 9 ∷ call rewind_code gives ok 0 ∷ call₁ read_code 9 gives ok 77 ∷ []) ∷
    -- "named map of 64 pages at 0, share 128: accepted; share 63: refused 13"
    (call₁ open_code 128 gives ok 0 ∷ map_at 0 64 gives ok 0 ∷ []) ∷
    (call₁ open_code 63 gives ok 0 ∷ map_at 0 64 gives refused 13 ∷ []) ∷
    []

-- a roll with what it is played over
pub record Case : Type 0 where
  pub over : Given
  pub lines : List Line

abbrev pub cases_over : Given → List (List Line) → List Case
cases_over g [] = []
cases_over g (c ∷ cs) = record { over = g; lines = c } ∷ cases_over g cs

-- "without an image", "with 128 frames", as the player
abbrev pub no_image : Given
no_image = record { image = []; frames = 128 }

abbrev pub same_answer : Answered → Answered → Bool
same_answer a b = eqb a.number b.number && eqb a.value b.value

abbrev pub same_answers : List Answered → List Answered → Bool
same_answers [] [] = true
same_answers [] (b ∷ m) = false
same_answers (a ∷ l) [] = false
same_answers (a ∷ l) (b ∷ m) = same_answer a b && same_answers l m

-- every roll of the table gets its answers
unfoldable pub all_given : List Case → Bool
all_given [] = true
all_given (c ∷ cs) = same_answers (answers c.over fresh (requests_of c.lines)) (gets_of c.lines) && all_given cs
