-- Before each turn, whatever conversation goes on is one from the start, and whether the state is sound is known as it was there.
use Rattle.state.specs.World.{world_of}
use Rattle.roll.specs.Known.{Known}
use Rattle.conversation.proofs.ConversationLaws.{GoesOnTo}
use Rattle.player.proofs.perform.Given as goal

abbrev pub invariant-loop-line : goal.invariant-loop-line
invariant-loop-line l = record {
  goes : GoesOnTo l.image (world_of l.initial.machine l.initial.pool l.initial.table) l.line (world_of l.machine l.pool l.table);
  known : Known l.sound l.image (world_of l.machine l.pool l.table);
}
