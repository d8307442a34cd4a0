-- The reader stands before the line whose turn it is; the lines before stand in the numbers, and the rest is as it was.
use Rattle.std.proofs.Common.{◌≡◌, ◌++◌, ◌*◌, drop}
use Rattle.read_ahead.specs.ReadAhead.{numbers_in}
use Rattle.read_ahead.proofs.read_lines.Given as goal

abbrev pub invariant-loop-place : goal.invariant-loop-place
invariant-loop-place l = record {
  src : l.reader.src.now ≡ l.roll;
  line : l.reader.line ≡ l.place;
  ahead : l.numbers ≡ numbers_in l.roll l.place ++ drop (l.place * 8) l.initial.numbers;
}
