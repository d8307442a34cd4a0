-- What 6 columns of a line say, read from left to right: a number, or none.
use Rattle.std.specs.Prelude.{ℕ, zero, suc, ◌+◌, ◌-◌, ◌*◌, Bool, true, false, List, get_or, ltb, eqb, Option, Some, None}
use Rattle.basics.specs.Choice.{◌when◌else◌}

-- what is read with one more column, which has a digit: "a number 0 to 65,535"
unfoldable pub with_digit : Option ℕ → ℕ → Option ℕ
with_digit None byte = None
with_digit (Some n) byte =
    None when ltb byte 48 else
    None when ltb 57 byte else
    None when ltb 65535 (n * 10 + (byte - 48)) else
    Some (n * 10 + (byte - 48))

-- the same where the column is not the last: before the first digit a blank, or a digit that is not 0; "right-justified over blanks, no leading zeros"
unfoldable pub with_column : Option ℕ → ℕ → Option ℕ
with_column None byte = None
with_column (Some n) byte =
    with_digit (Some n) byte when ltb 0 n else
    Some 0 when eqb byte 32 else
    None when eqb byte 48 else
    with_digit (Some n) byte

-- what the first k columns say, of which none is the last; blanks alone say 0
unfoldable pub columns_read : List ℕ → ℕ → Option ℕ
columns_read part zero = Some 0
columns_read part (suc k) = with_column (columns_read part k) (get_or part k 0)

-- what 6 columns say: the last has a digit
unfoldable pub field_of : List ℕ → Option ℕ
field_of part = with_digit (columns_read part 5) (get_or part 5 0)

-- whether a field says a number
abbrev pub is_number : Option ℕ → Bool
is_number (Some n) = true
is_number None = false

-- the number that a field says
abbrev pub number_in : Option ℕ → ℕ
number_in (Some n) = n
number_in None = 0
