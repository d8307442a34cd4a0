-- Laws of a numeral's first column: where it is no blank, the 6 columns say none.
use Prim.Native.Nat.{ℕ, ◌/◌, ◌≤◌}
use mathlib.Core.Path.{◌≡◌, refl, sym, ap, ◌∙◌}
use mathlib.Core.List.{List}
use native.Mathlib.Omega.{arith}
use lib.ListN.{length, get_or}
use Rattle.std.specs.Prelude.{Option, Some, None}
use Rattle.columns.specs.Prints.{columns, printed_field}
use Rattle.columns.specs.Fields.{field_of}
use Rattle.columns.proofs.FieldLaws.{field-said, field-small}

-- six digits are above 65,535, so that a field that says a number begins with a blank
first-blank : (n : ℕ) → n ≤ 65535 → get_or (printed_field n) 0 0 ≡ 32
unfolding printed_field columns
first-blank n h = let none : n / 10 / 10 / 10 / 10 / 10 ≡ 0 = omega arith in rw none

pub six-field : (part : List ℕ) → length part ≡ 6 → (get_or part 0 0 ≡ 32 → ⊥) → None ≡ field_of part
six-field part h other = go (field_of part) refl
  where
    go : (f : Option ℕ) → field_of part ≡ f → None ≡ field_of part
    go None e = sym e
    go (Some n) e = absurd (other (ap (λ l. get_or l 0 0) (field-said part n h e) ∙ first-blank n (field-small part n e)))
