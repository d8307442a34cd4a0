-- The frame gets the bytes of the frame that is named, or those of the backing where none is.
use borrow.Author.Rules.{rules}
use Rattle.table.specs.Backing.{backing_page}
use Rattle.table.proofs.PageLaws.{page-there}
use Rattle.page_fill.proofs.fill_frame.Statement.{statement}
use Rattle.page_fill.proofs.fill_frame.Tie as tie

-- behind the frame that is named
abbrev behind : tie.After-frame_of → tie.Start
behind c = c.before.before.before.before.before

fill-frame-requires : tie.Need-fill_frame-requires
fill-frame-requires c κs = search rules

same_length : tie.Need-shape_of-pool-then-entry-eq0
same_length c = search rules

returns : tie.Need-returns-then-entry-eq0
returns c = let filled = c.before.before in rw filled.if-entry-eq0.true filled.fill_frame.ensures

frame-of-requires : tie.Need-frame_of-requires
frame-of-requires c κs = search rules

copy-frame-requires : tie.Need-copy_frame-requires
copy-frame-requires c κs = search rules

same-length-2 : tie.Need-shape_of-pool
same-length-2 c = search rules

returns-2 : tie.Need-returns
returns-2 c =
    let copied = c.before.before in
    let frame = copied.before in
    let a = (behind frame).args in
    rw (
      ← page-there 256 a.pool.now (backing_page a.image.now a.backing) a.entry frame.if-entry-eq0.false,
      ← frame.frame_of.ensures,
    )
    copied.copy_frame.ensures

pub fill_frame_spec : {M : Type 1} → statement M
fill_frame_spec =
    tie.close (tie.spec fill-frame-requires same_length returns frame-of-requires copy-frame-requires same-length-2 returns-2)
