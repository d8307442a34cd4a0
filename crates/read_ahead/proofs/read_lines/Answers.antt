-- One line more is what the reader reads, put at its place.
use Rattle.std.proofs.Common.{◌≡◌, ◌++◌, ◌*◌, ◌+◌, ℕ, List, take, drop, ap, ◌∙◌, arith}
use Rattle.lines.specs.Lines.{line_at}
use Rattle.line_numbers.specs.Numbers.{numbers_of}
use Rattle.read_ahead.specs.ReadAhead.{numbers_in}
use Rattle.read_ahead.proofs.AheadLaws.{ahead_none, ahead_more}
use Rattle.read_ahead.proofs.read_lines.Goals as goal

pub loop-place-init : goal.loop-place-init
loop-place-init c =
    let made = c.new-reader.ensures in record {
      src = ap (λ r. r.now) made.0;
      line = made.1;
      ahead = ahead_none c.args.roll.now c.args.numbers.now;
    }

pub loop-place-preserved : goal.loop-place-preserved
loop-place-preserved c =
    let was = c.loop-place.invariant in
    let moved = c.skip-reader.ensures in
    let roll : List ℕ = c.args.roll.now in
    let k : ℕ = c.loop-place.place in
    let ns : List ℕ = c.loop-place.numbers in
    let line = c.next.ensures ∙ ap (λ (r : List ℕ). line_at r c.loop-place.reader.line) was.src ∙ ap (λ (j : ℕ). line_at roll j) was.line in
    let said = c.put_line.ensures ∙ ap (λ l. take (k * 8) ns ++ (numbers_of l ++ drop (k * 8 + 8) ns)) line in record {
      src = ap (λ r. r.now) moved.0 ∙ was.src;
      line = omega (arith, moved.1, was.line);
      ahead = ahead_more roll c.args.numbers.now ns _ k was.ahead said;
    }
