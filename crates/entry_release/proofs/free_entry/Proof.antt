-- Without a page nothing is done; else the entry, the frame and its mark are cleared, which is `free`.
use mathlib.Core.Path.{sym}
use native.Mathlib.Omega.{arith}
use borrow.Author.Rules.{rules}
use Rattle.table.specs.Store.{Store, kept}
use Rattle.table.proofs.StoreLaws.{free-none}
use Rattle.table.proofs.PageLaws.{free-some}
use Rattle.entry_release.proofs.free_entry.Statement.{statement}
use Rattle.entry_release.proofs.free_entry.Tie as tie

-- ---- what is known behind the frame and its clearing

abbrev behind : tie.After-frame_of-f → tie.Start
behind c = c.before.before.before.before.before

abbrev framed : tie.After-clear_frame → tie.After-frame_of-f
framed c = c.before.before

abbrev cleared : tie.After-without → tie.After-clear_frame
cleared c = c.before.before.before

-- ---- the needs

mul-entry : tie.Need-offset_bounds-table-at
mul-entry c = search rules

slice-read-entry : tie.Need-bounds-table-at
slice-read-entry c = search rules

returns : tie.Need-returns-then-entry-eq0
returns c = sym (free-none 256 _ _ c.if-entry-eq0.true)

frame-of-requires : tie.Need-frame_of-f-requires
frame-of-requires c κs = let s = c.before.before.before.before in (omega arith, s.requires.1.few s.args.at)

mul-table : tie.Need-offset_bounds-table-at-2
mul-table c = search rules

slice-write-table : tie.Need-bounds-table-at-2
slice-write-table c = search rules

clear-frame-requires : tie.Need-clear_frame-requires
clear-frame-requires c κs =
    let s = behind c.before in
    omega (arith, s.requires.1.room s.args.at, c.frame_of-f.ensures)

without-requires : tie.Need-without-requires
without-requires c κs =
    let frame = framed c.before.before in
    let s = behind frame in
    omega (arith, s.requires.1.few s.args.at, frame.frame_of-f.ensures)

same_length : tie.Need-shape_of-pool
same_length c = search rules

same-length-2 : tie.Need-shape_of-table
same-length-2 c = search rules

returns-2 : tie.Need-returns
returns-2 c =
    let pool = (cleared c).clear_frame in
    let frame = framed (cleared c) in
    let a = (behind frame).args in
    let st : Store = kept a.held a.pool.now a.table.now in
    free-some 256 a.at st frame.frame_of-f.result.0 c.without.result pool.new.pool frame.before.if-entry-eq0.false
    frame.frame_of-f.ensures c.without.ensures pool.ensures

pub free_entry_spec : {M : Type 1} → statement M
free_entry_spec =
    tie.close
    (tie.spec
    mul-entry
    slice-read-entry
    returns
    frame-of-requires
    mul-table
    slice-write-table
    clear-frame-requires
    without-requires
    same_length
    same-length-2
    returns-2)
