-- A line is read and played; it is the roll's last, or one more follows.
use Rattle.std.proofs.Common.{◌≡◌, ◌≤◌, ℕ, List, length, take, ap, ◌∙◌, arith}
use mathlib.Core.Bool.{not}
use lib.Seq.{length-take-le}
use Rattle.lines.specs.Lines.{lines_of}
use Rattle.state.specs.World.{world_of}
use Rattle.playing.proofs.AheadLaws.{few-lines}
use Rattle.archiver.proofs.InputLaws.{none_so_far, known-so-far, short-line, whole-line, ended, one_more, full}
use Rattle.archiver.proofs.roll_input.play_input.Goals as goal

-- what was read is a line at the most, and stands at the start of the bytes
few_read : (n : ℕ) (buf : List ℕ) → n ≤ length buf → length buf ≡ 43 → lines_of (length (take n buf)) ≤ 1
few_read n buf within long = rw (length-take-le n buf within) (few-lines n (omega (arith, within, long)))

pub loop-line-init : goal.loop-line-init
loop-line-init c = none_so_far _ _

pub play-machine-requires-clause-roll_in_bounds : goal.play-machine-requires-clause-roll_in_bounds
play-machine-requires-clause-roll_in_bounds c =
    let got = c.read_full-got in
    let few = few_read got.result got.new.buf got.ensures got.auto.buf in
    omega (arith, few)

pub play-machine-requires-clause-roll_bound : goal.play-machine-requires-clause-roll_bound
play-machine-requires-clause-roll_bound c =
    let got = c.read_full-got in
    let few = few_read got.result got.new.buf got.ensures got.auto.buf in
    omega (arith, few, c.loop-line-test.true)

pub play-machine-requires-clause-known : goal.play-machine-requires-clause-known
play-machine-requires-clause-known c =
    let a = c.args in
    let l = c.loop-line in
    known-so-far a.image.now (world_of a.machine a.pool.now a.table.now) l.line (world_of l.machine l.pool l.table) l.invariant a.sound c.requires

pub returns-then-not-is_whole : goal.returns-then-not-is_whole
returns-then-not-is_whole c =
    let a = c.args in
    let l = c.loop-line in
    let got = c.read_full-got in
    let played = c.play-machine in
    let few : got.result ≤ 43 = omega (arith, got.ensures, got.auto.buf) in
    ended a.image.now (world_of a.machine a.pool.now a.table.now) l.line (world_of l.machine l.pool l.table) l.invariant
    (omega (arith, c.loop-line-test.true)) _ _ _ (world_of played.result played.new.pool played.new.table)
    (rw (length-take-le got.result got.new.buf got.ensures)
    (short-line got.result c.is_whole.result c.is_whole.ensures few (ap not c.if-not-is_whole.true)))
    played.ensures

pub loop-line-preserved : goal.loop-line-preserved
loop-line-preserved c =
    let a = c.args in
    let l = c.loop-line in
    let got = c.read_full-got in
    let played = c.play-machine in
    let whole : got.result ≡ 43 = whole-line got.result c.is_whole.result c.is_whole.ensures (ap not c.if-not-is_whole.false) in
    one_more a.image.now (world_of a.machine a.pool.now a.table.now) l.line (world_of l.machine l.pool l.table) l.invariant
    (omega (arith, c.loop-line-test.true)) _ _ _ (world_of played.result played.new.pool played.new.table)
    (length-take-le got.result got.new.buf got.ensures ∙ whole) played.ensures

pub returns : goal.returns
returns c =
    let a = c.args in
    let l = c.loop-line in
    full a.image.now (world_of a.machine a.pool.now a.table.now) l.line (world_of l.machine l.pool l.table) l.invariant (omega (arith, l.auto.line-end))
