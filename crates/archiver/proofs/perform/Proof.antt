-- The roll is played from what a start leaves, and then the archive roll is written of what it left.
use mathlib.Core.Path.{subst}
use Rattle.state.specs.World.{world_of}
use Rattle.roll.specs.Input.{RollPlayed}
use Rattle.roll.proofs.KnownLaws.{known_start}
use Rattle.archive_program.proofs.PerformedLaws.{answered-fits}
use borrow.Author.Rules.{rules}
use Rattle.archiver.proofs.perform.Statement.{statement}
use Rattle.archiver.proofs.perform.Tie as tie

-- where the archive roll has been written, the roll played, the start's answer told, the machine started, and before that
abbrev lent : tie.After-write_archive → tie.After-slice_known-7-1
lent c = c.before.before

abbrev played : tie.After-write_archive → tie.After-play_input-machine
played c = (lent c).before.before.before.before

abbrev accepting : tie.After-play_input-arg-2-1 → tie.After-accepted-sound
accepting c = c.before.before.before

abbrev started : tie.After-accepted-sound → tie.After-start-begun
started c = c.before.before.before.before.before

abbrev first : tie.After-start-begun → tie.Start
first c = c.before.before.before.before.before.before.before

start-requires : tie.Need-start-begun-requires
start-requires c κs = search rules

accepted-requires : tie.Need-accepted-sound-requires
accepted-requires c κs = search rules

play-input-requires : tie.Need-play_input-machine-requires
play-input-requires c κs =
    let told = (accepting c).accepted-sound in
    let start = (started (accepting c)).start-begun in
    let a = (first (started (accepting c))).args in
    known_start a.pool.now a.table.now a.image.now start.result.answer told.result _ start.ensures.0 told.ensures start.ensures.1

write-archive-requires : tie.Need-write_archive-requires
write-archive-requires c κs = search rules

same_length : tie.Need-shape_of-pool
same_length c = search rules

same-length-2 : tie.Need-shape_of-table
same-length-2 c = search rules

same-length-3 : tie.Need-shape_of-out
same-length-3 c = search rules

returns : tie.Need-returns
returns c =
    let put = c.write_archive in
    let playing = played c.before.before in
    let left = playing.play_input-machine in
    let starting = started (accepting playing.before) in
    let start = first starting in
    let image = start.args.image.now in
    let w = world_of left.result left.new.pool left.new.table in (
      record {
        world = w;
        input = subst (λ v. RollPlayed image v w) starting.start-begun.ensures.1 left.ensures;
        archived = put.ensures;
      },
      rw put.auto.out (answered-fits image w start.args.sandbox start.args.out.now put.result _ put.ensures),
    )

pub perform_spec : {M : Type 1} → statement M
perform_spec =
    tie.close
    (tie.spec
    start-requires
    accepted-requires
    play-input-requires
    write-archive-requires
    same_length
    same-length-2
    same-length-3
    returns)
