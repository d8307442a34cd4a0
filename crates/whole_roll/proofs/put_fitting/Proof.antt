-- The roll is counted, and then written where it fits: room for each put, and what it leaves, by the laws of the whole roll.
use Prim.Native.Nat.{◌≤◌}
use mathlib.Core.List.{List}
use native.Mathlib.Omega.{arith}
use lib.ListN.{length}
use Rattle.interface.specs.declared.request.Request.{Request}
use Rattle.whole_roll.specs.Whole.{roll_of}
use Rattle.whole_roll.proofs.WholeLaws.{roll-most, count_room, too_long, fits-room, fits_in}
use borrow.Author.Rules.{rules}
use Rattle.whole_roll.proofs.put_fitting.Statement.{statement}
use Rattle.whole_roll.proofs.put_fitting.Tie as tie

abbrev roll : tie.Start → List Request
roll c = roll_of c.args.image.now c.args.pool.now c.args.table.now c.args.snapshot

most : (c : tie.Start) → length (roll c) ≤ 16402
most c = roll-most c.args.image.now c.args.pool.now c.args.table.now c.args.snapshot

-- the places of the proof: the start seen from the first call, and that call seen from either branch

abbrev start_of : tie.After-put_roll-arg-1 → tie.Start
start_of c = c.before.before.before.before.before

abbrev counted_no : tie.Then-out-lines → tie.After-put_roll-lines
counted_no c = c.before.before.before

abbrev counted_yes : tie.Else-out-lines → tie.After-put_roll-lines
counted_yes c = c.before.before.before

put-roll-requires : tie.Need-put_roll-lines-requires
put-roll-requires c κs =
    let start = start_of c in
    (start.requires, count_room start.args.out.now (roll start) (most start))

cast-if1 : tie.Need-overflow_cast-lines
cast-if1 c = search rules

mul-if1 : tie.Need-overflow_mul-lines
mul-if1 c = search rules

same_length : tie.Need-shape_of-out-then-out-lines
same_length c = search rules

returns : tie.Need-returns-then-out-lines
returns c =
    let start = start_of (counted_no c).before in
    let counted = (counted_no c).put_roll-lines in
    too_long start.args.out.now counted.new.out counted.result (roll start) counted.ensures (omega (arith, c.if-out-lines.true))

put-roll-requires-2 : tie.Need-put_roll-requires
put-roll-requires-2 c κs =
    let branch = c.before in
    let start = start_of (counted_yes branch).before in
    let counted = (counted_yes branch).put_roll-lines in (
      start.requires,
      fits-room start.args.out.now counted.new.out counted.result (roll start) counted.ensures
          (omega (arith, branch.if-out-lines.false)) (most start),
    )

same-length-2 : tie.Need-shape_of-out
same-length-2 c = search rules

returns-2 : tie.Need-returns
returns-2 c =
    let writing = c.before.before in
    let branch = writing.before.before in
    let start = start_of (counted_yes branch).before in
    let counted = (counted_yes branch).put_roll-lines in
    let written = writing.put_roll in
    fits_in start.args.out.now counted.new.out counted.result (roll start) counted.ensures
    (omega (arith, branch.if-out-lines.false)) written.result written.new.out written.ensures

pub put_fitting_spec : {M : Type 1} → statement M
put_fitting_spec =
    tie.close (tie.spec put-roll-requires cast-if1 mul-if1 same_length returns put-roll-requires-2 same-length-2 returns-2)
