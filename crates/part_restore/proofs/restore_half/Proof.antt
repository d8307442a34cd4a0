-- What the first part tells, and else the second; both have come back as the source's.
use Prim.Native.Nat.{◌/◌}
use mathlib.Core.Path.{sym}
use native.Mathlib.Omega.{arith}
use borrow.Author.Rules.{rules}
use lib.ListN.{length}
use lib.Seq.{length-take-le}
use Rattle.part_restore.proofs.CutLaws.{cut-lengths, first-differed, rest-tells}
use Rattle.part_restore.proofs.restore_half.Statement.{statement}
use Rattle.part_restore.proofs.restore_half.Tie as tie

slice-relend-prefix-restore-quarter : tie.Need-slice_bounds-restore_quarter-end
slice-relend-prefix-restore-quarter c = search rules

slice-aggregate-restore-quarter : tie.Need-slice_bounds-restore_quarter-end-2
slice-aggregate-restore-quarter c =
    let a = c.args in sym (length-take-le (length a.src.now / 2) a.part.now (omega arith))

slice-aggregate-restore-quarter-2 : tie.Need-slice_bounds-restore_quarter-end-3
slice-aggregate-restore-quarter-2 c =
    let a = c.args in sym (length-take-le (length a.src.now / 2) a.src.now (omega arith))

restore-quarter-requires : tie.Need-restore_quarter-requires
restore-quarter-requires c κs =
    cut-lengths c.args.part.now c.args.src.now (length c.args.src.now / 2) c.requires (omega arith)

sub-fill : tie.Need-slice_bounds-fill-count
sub-fill c = search rules

part-fill-start : tie.Need-slice_bounds-fill-start
part-fill-start c = search rules

part-fill-end : tie.Need-slice_bounds-fill-end
part-fill-end c = search rules

sub-fill-2 : tie.Need-slice_bounds-fill-count-then-restore_quarter
sub-fill-2 c = search rules

part-fill-start-2 : tie.Need-slice_bounds-fill-start-then-restore_quarter
part-fill-start-2 c = search rules

part-fill-end-2 : tie.Need-slice_bounds-fill-end-then-restore_quarter
part-fill-end-2 c = search rules

fill-requires : tie.Need-fill-requires
fill-requires c κs = search rules

same_length : tie.Need-shape_of-part-then-restore_quarter
same_length c = search rules

returns : tie.Need-returns-then-restore_quarter
returns c =
    let src = c.args.src.now in
    first-differed c.args.part.now src (length src / 2) c.requires (omega arith)
    c.restore_quarter.new.part c.restore_quarter.ensures.0 c.fill.new.part c.fill.ensures
    c.restore_quarter.result c.restore_quarter.ensures.1 c.if-restore_quarter.true

sub-restore-quarter : tie.Need-slice_bounds-restore_quarter-count
sub-restore-quarter c = search rules

part-restore-quarter-start : tie.Need-slice_bounds-restore_quarter-start
part-restore-quarter-start c = search rules

part-restore-quarter-end : tie.Need-slice_bounds-restore_quarter-end-4
part-restore-quarter-end c = search rules

sub-restore-quarter-2 : tie.Need-slice_bounds-restore_quarter-count-2
sub-restore-quarter-2 c = search rules

part-restore-quarter-start-2 : tie.Need-slice_bounds-restore_quarter-start-2
part-restore-quarter-start-2 c = search rules

part-restore-quarter-end-2 : tie.Need-slice_bounds-restore_quarter-end-5
part-restore-quarter-end-2 c = search rules

restore-quarter-requires-2 : tie.Need-restore_quarter-requires-2
restore-quarter-requires-2 c κs = search rules

same-length-2 : tie.Need-shape_of-part
same-length-2 c = search rules

returns-2 : tie.Need-returns
returns-2 c =
    let src = c.args.src.now in
    rest-tells c.args.part.now src (length src / 2) c.requires (omega arith)
    c.restore_quarter.new.part c.restore_quarter.ensures.0 c.restore_quarter-2.new.part c.restore_quarter-2.ensures.0
    c.restore_quarter.result c.restore_quarter-2.result c.restore_quarter.ensures.1 c.if-restore_quarter.false
    c.restore_quarter-2.ensures.1

pub restore_half_spec : {M : Type 1} → statement M
restore_half_spec =
    tie.close
    (tie.spec
    slice-relend-prefix-restore-quarter
    slice-aggregate-restore-quarter
    slice-aggregate-restore-quarter-2
    restore-quarter-requires
    sub-fill
    part-fill-start
    part-fill-end
    sub-fill-2
    part-fill-start-2
    part-fill-end-2
    fill-requires
    same_length
    returns
    sub-restore-quarter
    part-restore-quarter-start
    part-restore-quarter-end
    sub-restore-quarter-2
    part-restore-quarter-start-2
    part-restore-quarter-end-2
    restore-quarter-requires-2
    same-length-2
    returns-2)
