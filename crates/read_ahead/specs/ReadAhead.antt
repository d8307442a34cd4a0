-- The lines of a roll as numbers, one line after the other.
use Rattle.std.specs.Prelude.{ℕ, zero, suc, List, [], ◌++◌}
use Rattle.lines.specs.Lines.{line_at}
use Rattle.line_numbers.specs.Numbers.{numbers_of}

-- how many lines are read ahead, at the most
abbrev pub lines_ahead : ℕ
lines_ahead = 64

-- the numbers of the first n lines of a roll, one line after the other
unfoldable pub numbers_in : List ℕ → ℕ → List ℕ
numbers_in roll zero = []
numbers_in roll (suc n) = numbers_in roll n ++ numbers_of (line_at roll n)
