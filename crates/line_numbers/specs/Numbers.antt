-- A line of the roll as eight numbers, and the line whose numbers stand at a place of a list.
use Rattle.std.specs.Prelude.{ℕ, ◌+◌, ◌*◌, List, [], ◌∷◌, get_or, eqb}
use Rattle.basics.specs.Choice.{◌when◌else◌}
use Rattle.lines.specs.declared.Line.{Line}
use Rattle.lines.specs.declared.Line.TheVariants.{Call, Malformed}

-- the numbers that a line has: whether it is a call, and the call's seven fields
abbrev pub line_number_count : ℕ
line_number_count = 8

-- a line as numbers: 1, and the call's fields in their order, "call, sandbox, p1 to p5"; of a malformed line eight zeros
unfoldable pub numbers_of : Line → List ℕ
numbers_of (Call q) = 1 ∷ q.code ∷ q.sandbox ∷ q.p1 ∷ q.p2 ∷ q.p3 ∷ q.p4 ∷ q.p5 ∷ []
numbers_of Malformed = 0 ∷ 0 ∷ 0 ∷ 0 ∷ 0 ∷ 0 ∷ 0 ∷ 0 ∷ []

-- the line whose numbers stand at place k of a list, from 0 on
unfoldable pub line_in : List ℕ → ℕ → Line
line_in ns k =
    Malformed when eqb (get_or ns (k * 8) 0) 0 else Call (record {
      code = get_or ns (k * 8 + 1) 0;
      sandbox = get_or ns (k * 8 + 2) 0;
      p1 = get_or ns (k * 8 + 3) 0;
      p2 = get_or ns (k * 8 + 4) 0;
      p3 = get_or ns (k * 8 + 5) 0;
      p4 = get_or ns (k * 8 + 6) 0;
      p5 = get_or ns (k * 8 + 7) 0;
    })
