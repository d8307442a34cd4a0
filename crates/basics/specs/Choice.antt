-- A choice by a test, as a line of a table.
use Rattle.std.specs.Prelude.{Bool, true, false, not, ◌||◌}

-- x when c else y: a line of a table, and the lines below it
infixr 10 ◌when◌else◌
abbrev pub ◌when◌else◌ {ℓ} : {A : Type ℓ} → A → Bool → A → A
x when true else y = x
x when false else y = y

-- two tests with the same outcome
abbrev pub same : Bool → Bool → Bool
same true b = b
same false b = not b

-- b holds wherever a does
abbrev pub implies : Bool → Bool → Bool
implies a b = not a || b
