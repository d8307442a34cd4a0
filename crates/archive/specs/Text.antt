-- The text of requests: their lines, one behind the other.
use Rattle.std.specs.Prelude.{ℕ, List, [], ◌∷◌, ◌++◌}
use Rattle.interface.specs.declared.request.Request.{Request}
use Rattle.columns.specs.Prints.{UpTo, numbers_of, printed_request}

-- "A line is 7 fields of 6 columns and a line feed, 43 bytes"
unfoldable pub printed_roll : List Request → List ℕ
printed_roll [] = []
printed_roll (q ∷ qs) = printed_request q ++ printed_roll qs

-- a field can say each of their numbers: "a number 0 to 65,535"
abbrev pub Sayable : List Request → Type 0
Sayable [] = Unit {0}
Sayable (q ∷ qs) = UpTo 65535 (numbers_of q) × Sayable qs
