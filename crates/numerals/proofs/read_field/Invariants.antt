-- The columns that are passed are blanks.
use Rattle.std.proofs.Common.{◌≡◌, Some}
use Rattle.columns.specs.Fields.{columns_read}
use Rattle.numerals.proofs.read_field.Given as goal

abbrev pub invariant-loop-first : goal.invariant-loop-first
invariant-loop-first l = columns_read l.part l.first ≡ Some 0
