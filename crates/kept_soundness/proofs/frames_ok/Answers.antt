-- The smallest of the rest passes or fails, and then the rest has one frame less.
use Rattle.std.proofs.Common.{◌≡◌, ◌≤◌, ◌+◌, sym, refl, ◌∙◌, arith}
use Rattle.frames.specs.Frames.{mark, count_held}
use Rattle.frames.proofs.FrameLaws.{count-without}
use Rattle.kept.proofs.TestLaws.{none_left, least-there, least-fails, least-passes}
use Rattle.kept_soundness.proofs.frames_ok.Goals as goal

pub loop-init : goal.loop-init
loop-init c = (omega (arith, c.count-end.ensures), refl)

pub returns-then-not-frame_ok : goal.returns-then-not-frame_ok
returns-then-not-frame_ok c =
    let l = c.loop in
    sym (l.invariant.1 ∙ least-fails _ _ l.rest (omega arith) _ c.least.ensures _ c.frame_ok.ensures c.if-not-frame_ok.true)

pub without-rest-requires : goal.without-rest-requires
without-rest-requires c = (least-there c.loop.rest (omega arith) _ c.least.ensures).0

pub loop-preserved : goal.loop-preserved
loop-preserved c =
    let l = c.loop in
    let f = c.least.result in
    let some : 1 ≤ count_held l.rest = omega arith in
    let there = least-there l.rest some f c.least.ensures in
    let fewer : l.counter + 1 + count_held (mark l.rest f 0) ≡ c.count-end.result = omega (arith, l.invariant.0, count-without l.rest f there.0 there.1) in
    let passes = least-passes c.args.frames c.args.pool.now l.rest some f c.least.ensures _ c.frame_ok.ensures c.if-not-frame_ok.false in
    rw c.without-rest.ensures (fewer, l.invariant.1 ∙ passes)

pub returns : goal.returns
returns c =
    let l = c.loop in
    sym (l.invariant.1 ∙ none_left _ _ l.rest (omega arith))
