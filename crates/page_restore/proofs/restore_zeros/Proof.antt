-- An array of zeros is the zero page.
use borrow.Author.Rules.{rules}
use Rattle.pages.specs.Parts.{zeros}
use Rattle.page_restore.proofs.restore_zeros.Statement.{statement}
use Rattle.page_restore.proofs.restore_zeros.Tie as tie

slice-aggregate-restore-frame : tie.Need-slice_bounds-restore_frame-end
slice-aggregate-restore-frame c = search rules

restore-frame-requires : tie.Need-restore_frame-requires
restore-frame-requires c κs = search rules

same_length : tie.Need-shape_of-pool
same_length c = search rules

returns : tie.Need-returns
unfolding zeros
returns c = c.restore_frame.ensures

pub restore_zeros_spec : {M : Type 1} → statement M
restore_zeros_spec =
    tie.close (tie.spec slice-aggregate-restore-frame restore-frame-requires same_length returns)
