-- Which sandbox the program's argument names.
use Rattle.std.specs.Prelude.{not, ℕ, ◌-◌, eqb, ltb}
use Rattle.basics.specs.Choice.{◌when◌else◌}

-- of an argument of so many bytes with this first byte: its one digit, 0 (byte 48) to 3 (byte 51), or 4, which no sandbox is
unfoldable pub named : ℕ → ℕ → ℕ
named bytes first =
    4 when not (eqb bytes 1) else
    4 when ltb first 48 else
    4 when ltb 51 first else
    (first - 48)
