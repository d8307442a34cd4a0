-- What the first part tells, and else the second; both have come back as the source's.
use Prim.Native.Nat.{◌/◌}
use mathlib.Core.Path.{sym}
use native.Mathlib.Omega.{arith}
use borrow.Author.Rules.{rules}
use lib.ListN.{length}
use lib.Seq.{length-take-le}
use Rattle.part_restore.proofs.CutLaws.{cut-lengths, first-differed, rest-tells}
use Rattle.part_restore.proofs.restore.Statement.{statement}
use Rattle.part_restore.proofs.restore.Tie as tie

slice-relend-prefix-restore-half : tie.Need-slice_bounds-restore_half-end
slice-relend-prefix-restore-half c = search rules

slice-aggregate-restore-half : tie.Need-slice_bounds-restore_half-end-2
slice-aggregate-restore-half c =
    let a = c.args in sym (length-take-le (length a.src.now / 2) a.part.now (omega arith))

slice-aggregate-restore-half-2 : tie.Need-slice_bounds-restore_half-end-3
slice-aggregate-restore-half-2 c =
    let a = c.args in sym (length-take-le (length a.src.now / 2) a.src.now (omega arith))

restore-half-requires : tie.Need-restore_half-requires
restore-half-requires c κs =
    cut-lengths c.args.part.now c.args.src.now (length c.args.src.now / 2) c.requires (omega arith)

sub-fill : tie.Need-slice_bounds-fill-count
sub-fill c = search rules

part-fill-start : tie.Need-slice_bounds-fill-start
part-fill-start c = search rules

part-fill-end : tie.Need-slice_bounds-fill-end
part-fill-end c = search rules

sub-fill-2 : tie.Need-slice_bounds-fill-count-then-restore_half
sub-fill-2 c = search rules

part-fill-start-2 : tie.Need-slice_bounds-fill-start-then-restore_half
part-fill-start-2 c = search rules

part-fill-end-2 : tie.Need-slice_bounds-fill-end-then-restore_half
part-fill-end-2 c = search rules

fill-requires : tie.Need-fill-requires
fill-requires c κs = search rules

same_length : tie.Need-shape_of-part-then-restore_half
same_length c = search rules

returns : tie.Need-returns-then-restore_half
returns c =
    let src = c.args.src.now in
    first-differed c.args.part.now src (length src / 2) c.requires (omega arith)
    c.restore_half.new.part c.restore_half.ensures.0 c.fill.new.part c.fill.ensures
    c.restore_half.result c.restore_half.ensures.1 c.if-restore_half.true

sub-restore-half : tie.Need-slice_bounds-restore_half-count
sub-restore-half c = search rules

part-restore-half-start : tie.Need-slice_bounds-restore_half-start
part-restore-half-start c = search rules

part-restore-half-end : tie.Need-slice_bounds-restore_half-end-4
part-restore-half-end c = search rules

sub-restore-half-2 : tie.Need-slice_bounds-restore_half-count-2
sub-restore-half-2 c = search rules

part-restore-half-start-2 : tie.Need-slice_bounds-restore_half-start-2
part-restore-half-start-2 c = search rules

part-restore-half-end-2 : tie.Need-slice_bounds-restore_half-end-5
part-restore-half-end-2 c = search rules

restore-half-requires-2 : tie.Need-restore_half-requires-2
restore-half-requires-2 c κs = search rules

same-length-2 : tie.Need-shape_of-part
same-length-2 c = search rules

returns-2 : tie.Need-returns
returns-2 c =
    let src = c.args.src.now in
    rest-tells c.args.part.now src (length src / 2) c.requires (omega arith)
    c.restore_half.new.part c.restore_half.ensures.0 c.restore_half-2.new.part c.restore_half-2.ensures.0
    c.restore_half.result c.restore_half-2.result c.restore_half.ensures.1 c.if-restore_half.false
    c.restore_half-2.ensures.1

pub restore_spec : {M : Type 1} → statement M
restore_spec =
    tie.close
    (tie.spec
    slice-relend-prefix-restore-half
    slice-aggregate-restore-half
    slice-aggregate-restore-half-2
    restore-half-requires
    sub-fill
    part-fill-start
    part-fill-end
    sub-fill-2
    part-fill-start-2
    part-fill-end-2
    fill-requires
    same_length
    returns
    sub-restore-half
    part-restore-half-start
    part-restore-half-end
    sub-restore-half-2
    part-restore-half-start-2
    part-restore-half-end-2
    restore-half-requires-2
    same-length-2
    returns-2)
