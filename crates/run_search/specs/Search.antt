-- What a choice of a run asks of the test that it is given.
use Rattle.std.specs.Prelude.{◌≡◌, ℕ, Bool}

-- each answer of a call is that of the test
abbrev pub Answers : (ℕ → ℕ → Bool → Type 0) → (ℕ → ℕ → Bool) → Type 0
Answers gives test = (new old : ℕ) (answer : Bool) → gives new old answer → answer ≡ test new old
