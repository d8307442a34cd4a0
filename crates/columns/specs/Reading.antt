-- What the code that reads a field says on the way: what a number stands for, and blanks. No claim stands on it.
use Rattle.std.specs.Prelude.{ℕ, Bool, List, get_or, ltb, eqb, Option, Some, None}
use Rattle.basics.specs.Choice.{◌when◌else◌}
use Rattle.basics.specs.Ranges.{every}

-- what a number that was read stands for in a field: above 65,535 for none
abbrev pub as_field : ℕ → Option ℕ
as_field n = None when ltb 65535 n else Some n

-- whether the n bytes from a place on are blanks
abbrev pub blanks : List ℕ → ℕ → ℕ → Bool
blanks text at n = every (λ i. eqb (get_or text i 0) 32) at n
