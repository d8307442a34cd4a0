-- What is printed: a number in its 6 columns, and a line of numbers.
use Rattle.std.specs.Prelude.{ℕ, zero, suc, ◌+◌, ◌/◌, ◌%◌, ◌≤◌, List, [], ◌∷◌, ◌++◌, eqb}
use Rattle.basics.specs.Choice.{◌when◌else◌}
use Rattle.interface.specs.declared.request.Request.{Request}

-- the last digit of a number, in ASCII
abbrev pub last_digit : ℕ → ℕ
last_digit n = 48 + n % 10

-- what stands in a column that is not the last: "right-justified over blanks, no leading zeros"
abbrev pub column : ℕ → ℕ
column n = 32 when eqb n 0 else last_digit n

-- k columns that end before a field's last one, of which the number fills as many as it has digits
unfoldable pub columns : ℕ → ℕ → List ℕ
columns zero n = []
columns (suc k) n = columns k (n / 10) ++ (column n ∷ [])

-- "fields of 6 columns": the last has a digit even where the number is 0
unfoldable pub printed_field : ℕ → List ℕ
printed_field n = columns 5 (n / 10) ++ (last_digit n ∷ [])

-- fields, "and a line feed"
unfoldable pub printed_line : List ℕ → List ℕ
printed_line [] = 10 ∷ []
printed_line (n ∷ more) = printed_field n ++ printed_line more

-- numbers none of which is above a limit: "a number 0 to 65,535"; 6 columns have room for 999,999
abbrev pub UpTo : ℕ → List ℕ → Type 0
UpTo most [] = Unit
UpTo most (n ∷ more) = (n ≤ most) × UpTo most more

-- the numbers of a request in their order: "call, sandbox, p1 to p5"
abbrev pub numbers_of : Request → List ℕ
numbers_of q = q.code ∷ q.sandbox ∷ q.p1 ∷ q.p2 ∷ q.p3 ∷ q.p4 ∷ q.p5 ∷ []

-- the line of a request
unfoldable pub printed_request : Request → List ℕ
printed_request q = printed_line (numbers_of q)

-- "It prints 3 fields a line, same columns: line number from 1, refusal number or 0, value."
unfoldable pub printed_reply : ℕ → ℕ → ℕ → List ℕ
printed_reply line number value = printed_line (line ∷ number ∷ value ∷ [])
