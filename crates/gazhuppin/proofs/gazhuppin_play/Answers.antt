-- Where there is room for every reply, what `play` requires of the roll and of the start holds.
use Rattle.std.proofs.Common.{length, arith}
use Rattle.roll.proofs.KnownLaws.{known_start}
use Rattle.room.proofs.RoomLaws.{few-lines}
use Rattle.gazhuppin.proofs.gazhuppin_play.Goals as goal

pub play-requires-clause-roll_bound : goal.play-requires-clause-roll_bound
play-requires-clause-roll_bound c = omega (arith, few-lines (length c.args.roll.now))

pub play-requires-clause-known : goal.play-requires-clause-known
play-requires-clause-known c =
    let a = c.args in
    let begun = c.start-begun in
    known_start a.pool.now a.table.now a.image.now begun.result.answer c.accepted-sound.result _ begun.ensures.answer_value c.accepted-sound.ensures
    begun.ensures.world
