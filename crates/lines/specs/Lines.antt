-- What a line of the roll says, and where the roll's lines stand.
use Rattle.std.specs.Prelude.{ℕ, ◌+◌, ◌*◌, ◌/◌, min, Bool, ◌&&◌, List, length, get_or, take, drop, eqb, Option}
use Rattle.basics.specs.Choice.{◌when◌else◌}
use Rattle.basics.specs.Ranges.{every}
use Rattle.interface.specs.declared.request.Request.{Request}
use Rattle.lines.specs.declared.Line.{Line}
use Rattle.lines.specs.declared.Line.TheVariants.{Call, Malformed}
use Rattle.columns.specs.Fields.{is_number, number_in, field_of}

-- field k of a line, from 0 on: "fields of 6 columns"
unfoldable pub field_at : List ℕ → ℕ → Option ℕ
field_at line k = field_of (take 6 (drop (k * 6) line))

-- whether it says a number, and which
abbrev pub has_number : List ℕ → ℕ → Bool
has_number line k = is_number (field_at line k)

abbrev pub numeral_at : List ℕ → ℕ → ℕ
numeral_at line k = number_in (field_at line k)

-- "A line is 7 fields of 6 columns and a line feed, 43 bytes"
unfoldable pub well_formed : List ℕ → Bool
well_formed line = eqb (length line) 43 && (eqb (get_or line 42 0) 10 && every (has_number line) 0 7)

-- the fields in their order: "call, sandbox, p1 to p5"
abbrev pub request_in : List ℕ → Request
request_in line =
    record {
      code = numeral_at line 0;
      sandbox = numeral_at line 1;
      p1 = numeral_at line 2;
      p2 = numeral_at line 3;
      p3 = numeral_at line 4;
      p4 = numeral_at line 5;
      p5 = numeral_at line 6;
    }

-- what a line says
unfoldable pub parsed : List ℕ → Line
parsed line = Call (request_in line) when well_formed line else Malformed

-- the bytes of line k of a roll, from 0 on; "A short last line" has fewer than 43
abbrev pub bytes_at : List ℕ → ℕ → List ℕ
bytes_at roll k = take 43 (drop (k * 43) roll)

-- what line k of a roll says: "a malformed line is refused and the next 43 bytes follow"
unfoldable pub line_at : List ℕ → ℕ → Line
line_at roll k = parsed (bytes_at roll k)

-- how many lines a roll of so many bytes has, a short rest counted: "Lines after the 65,535th are not read."
unfoldable pub lines_of : ℕ → ℕ
lines_of bytes = min ((bytes + 42) / 43) 65535
