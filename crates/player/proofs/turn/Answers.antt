-- A turn: at most a line is read, it is played alone, and its reply is handed on.
use Rattle.std.proofs.Common.{◌≡◌, ◌≤◌, ◌*◌, ◌&&◌, ℕ, List, length, take, eqb, sym, ap, ◌∙◌, arith}
use lib.Seq.{length-take-le}
use Rattle.lines.specs.Lines.{lines_of}
use Rattle.state.specs.World.{world_of}
use Rattle.playing.proofs.AheadLaws.{few-lines}
use Rattle.conversation.proofs.ConversationLaws.{turn-answers}
use Rattle.player.proofs.turn.Goals as goal

-- what was read fits a line, and so does its reply
few-read : (n : ℕ) (buf line : List ℕ) → n ≤ length buf → length buf ≡ length line → length line ≡ 43 → n ≤ 43
few-read n buf line h e l = omega (arith, h, e, l)

one_line : (n : ℕ) (buf line : List ℕ) → n ≤ length buf → length buf ≡ length line → length line ≡ 43 → lines_of (length (take n buf)) ≤ 1
one_line n buf line h e l = rw (length-take-le n buf h) (few-lines n (few-read n buf line h e l))

pub play-after-requires-clause-roll_in_bounds : goal.play-after-requires-clause-roll_in_bounds
play-after-requires-clause-roll_in_bounds c =
    let got = c.read_full-got in
    let few = one_line got.result got.new.buf c.args.line.now got.ensures got.auto.buf c.requires.line_len.0 in
    omega (arith, few, c.requires.line_len.1)

pub play-after-requires-clause-roll_bound : goal.play-after-requires-clause-roll_bound
play-after-requires-clause-roll_bound c =
    let got = c.read_full-got in
    let few = one_line got.result got.new.buf c.args.line.now got.ensures got.auto.buf c.requires.line_len.0 in
    omega (arith, few, c.requires.line_bound)

pub overflow_mul-size : goal.overflow_mul-size
overflow_mul-size c =
    let got = c.read_full-got in
    let few = few-lines got.result (few-read got.result got.new.buf c.args.line.now got.ensures got.auto.buf c.requires.line_len.0) in
    record { fits = omega (arith, few, c.lines_of-size.ensures) }

pub slice_bounds-write_output-end : goal.slice_bounds-write_output-end
slice_bounds-write_output-end c =
    let got = c.read_full-got in
    let few = few-lines got.result (few-read got.result got.new.buf c.args.line.now got.ensures got.auto.buf c.requires.line_len.0) in
    omega (arith, few, c.lines_of-size.ensures, c.play-after.auto.out, c.requires.line_len.1)

pub slice_bounds-write_output-end-2 : goal.slice_bounds-write_output-end-2
slice_bounds-write_output-end-2 c =
    let got = c.read_full-got in
    let few = few-lines got.result (few-read got.result got.new.buf c.args.line.now got.ensures got.auto.buf c.requires.line_len.0) in
    let fits : c.lines_of-size.result * 19 ≤ length c.play-after.new.out =
    omega (arith, few, c.lines_of-size.ensures, c.play-after.auto.out, c.requires.line_len.1) in
    sym (length-take-le _ _ fits)

pub returns : goal.returns
returns c =
    let a = c.args in
    let got = c.read_full-got in
    let played = c.play-after in
    let long : length (take got.result got.new.buf) ≡ got.result = length-take-le got.result got.new.buf got.ensures in
    let w = world_of a.player.machine a.pool.now a.table.now in
    let v = world_of played.result played.new.pool played.new.table in record {
      fact =
          turn-answers a.image.now got.new.buf a.reply.now played.new.out a.player.line got.result c.write_output-written.result w v
          c.requires.line_bound (few-read got.result got.new.buf a.line.now got.ensures got.auto.buf c.requires.line_len.0) long played.ensures;
      more_value = c.goes_on.ensures ∙ ap (λ (n : ℕ). c.write_output-written.result && eqb n 43) (sym long);
    }
