-- Before each digit: what the columns so far say, which is 0 before the first digit alone; behind the last, what all 6 say.
use Rattle.std.proofs.Common.{◌≡◌, ◌+◌, ◌≤◌, Some}
use Rattle.columns.specs.Fields.{columns_read, field_of}
use Rattle.digits.proofs.digits_from.Given as goal

abbrev pub invariant-loop-byte : goal.invariant-loop-byte
invariant-loop-byte l = record {
  before : l.first + l.byte-index ≤ 5 → columns_read l.part (l.first + l.byte-index) ≡ Some l.n;
  whole : l.first + l.byte-index ≡ 6 → field_of l.part ≡ Some l.n;
  begun : l.n ≡ 0 → l.byte-index ≡ 0;
}
