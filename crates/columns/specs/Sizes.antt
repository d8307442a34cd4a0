-- The sizes of the roll's text.
use Rattle.std.specs.Prelude.{ℕ}

-- "A line is 7 fields of 6 columns and a line feed, 43 bytes"
abbrev pub line_bytes : ℕ
line_bytes = 43

-- "It prints 3 fields a line, same columns": 19 bytes with the line feed
abbrev pub reply_bytes : ℕ
reply_bytes = 19

-- "Lines after the 65,535th are not read."
abbrev pub most_lines : ℕ
most_lines = 65535

-- "a number 0 to 65,535"
abbrev pub most_number : ℕ
most_number = 65535

-- 6 columns have room for 999,999, and so for 1,000,000 numbers
abbrev pub most_printed : ℕ
most_printed = 999999

abbrev pub printed_numbers : ℕ
printed_numbers = 1000000
