-- A roll played in parts.
use Rattle.std.specs.Prelude.{◌≡◌, List, [], ◌++◌, ℕ, ◌+◌, ◌*◌, ◌≤◌, length}
use Rattle.lines.specs.Lines.{lines_of}
use Rattle.state.specs.World.{World}
use Rattle.roll.specs.Play.{Played}

-- n whole lines: "A line is 7 fields of 6 columns and a line feed, 43 bytes"
abbrev pub WholeLines : ℕ → List ℕ → Type 0
WholeLines n roll = length roll ≡ n * 43

-- "the next 43 bytes follow": whole lines that are played, and then what follows them, with its line numbers counted on, are one roll that is played, and the
-- replies to it are theirs, one after the other
abbrev pub Joins : Type 0
Joins =
    (image whole rest out₁ out₂ : List ℕ) (n more first : ℕ) (w v u : World)
    → WholeLines n whole
    → Played image w whole n first [] out₁ v
    → Played image v rest more (first + n) [] out₂ u
    → Played image w (whole ++ rest) (n + more) first [] (out₁ ++ out₂) u

-- the lines are counted on likewise, up to the limit: "Lines after the 65,535th are not read."
abbrev pub CountsOn : Type 0
CountsOn = (whole rest : List ℕ) (n : ℕ) → WholeLines n whole → n + lines_of (length rest) ≤ 65535 → lines_of (length (whole ++ rest)) ≡ n + lines_of (length rest)
