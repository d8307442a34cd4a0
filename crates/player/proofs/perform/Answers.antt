-- The loop over the lines: each turn is one more of the conversation, or its last.
use Rattle.std.proofs.Common.{true, arith}
use mathlib.Core.Path.{subst}
use Rattle.state.specs.World.{World, world_of}
use Rattle.roll.proofs.KnownLaws.{known_start}
use Rattle.conversation.specs.Conversation.{turn_of, Talked}
use Rattle.conversation.proofs.ConversationLaws.{none_so_far, known-answers, one-turn-more, ended_by, ended-full}
use Rattle.player.proofs.perform.Goals as goal

pub loop-line-init : goal.loop-line-init
loop-line-init c =
    let a = c.args in
    let begun = c.start-begun in record {
      goes = none_so_far _ _;
      known = known_start a.pool.now a.table.now a.image.now begun.result.answer c.accepted-sound.result _ begun.ensures.answer_value
          c.accepted-sound.ensures begun.ensures.world;
    }

pub turn-progress-requires-clause-known : goal.turn-progress-requires-clause-known
turn-progress-requires-clause-known c = c.loop-line.invariant.known

pub returns-then-not-progress : goal.returns-then-not-progress
returns-then-not-progress c =
    let image = c.args.image.now in
    let begun = c.start-begun in
    let l = c.loop-line in
    let got = c.turn-progress in
    subst (λ (w : World). Talked image w got.new.pool got.new.table got.result.written) begun.ensures.world
    (ended_by image (world_of begun.result.machine begun.new.pool begun.new.table) l.line (world_of l.machine l.pool l.table) l.invariant.goes
    got.result.machine got.new.pool got.new.table (turn_of got.result got.new.line got.new.reply) got.ensures.fact got.result.more
    got.ensures.more_value c.if-not-progress.true)

pub loop-line-preserved : goal.loop-line-preserved
loop-line-preserved c =
    let image = c.args.image.now in
    let begun = c.start-begun in
    let l = c.loop-line in
    let got = c.turn-progress in
    let turn = turn_of got.result got.new.line got.new.reply in
    let v = world_of got.result.machine got.new.pool got.new.table in record {
      goes =
          one-turn-more image (world_of begun.result.machine begun.new.pool begun.new.table) l.line (world_of l.machine l.pool l.table) turn v
          l.invariant.goes got.ensures.fact got.result.more got.ensures.more_value c.if-not-progress.false;
      known = known-answers _ image l.line (world_of l.machine l.pool l.table) turn v l.invariant.known got.ensures.fact;
    }

pub returns : goal.returns
returns c =
    let image = c.args.image.now in
    let begun = c.start-begun in
    let l = c.loop-line in
    subst (λ (w : World). Talked image w l.pool l.table true) begun.ensures.world
    (ended-full image (world_of begun.result.machine begun.new.pool begun.new.table) l.line l.machine l.pool l.table l.invariant.goes
    (omega (arith, l.auto.line-end)))
