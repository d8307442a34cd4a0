-- The roll is put segment by segment: what stands in the output behind each, and room for the next.
use Prim.Native.Nat.{ℕ}
use mathlib.Core.Path.{◌≡◌, ap, ◌∙◌}
use mathlib.Core.List.{List, [], ◌∷◌, ◌++◌}
use Rattle.interface.specs.declared.request.Request.{Request}
use Rattle.archive.specs.Archive.{opening, closing}
use Rattle.printing.specs.declared.Cursor.{Cursor}
use Rattle.printing.specs.Put.{placed, put, Room}
use Rattle.printing.proofs.PutLaws.{next-room, next-put}
use Rattle.segments.specs.ByAreas.{maps_of, protects_of}
use Rattle.segments.specs.ByPages.{writes_of}
use Rattle.whole_roll.specs.Whole.{to_maps, to_writes, to_protects, roll_of}
use Rattle.whole_roll.proofs.WholeLaws.{room_open, room-maps, room-writes, room-protects, room-roll, whole}
use borrow.Author.Rules.{rules}
use Rattle.whole_roll.proofs.put_roll.Statement.{statement}
use Rattle.whole_roll.proofs.put_roll.Tie as tie

-- what is put

abbrev start : tie.Start → List Request
start s = opening s.args.snapshot.sandbox s.args.snapshot.share

abbrev writes : tie.Start → List Request
writes s = writes_of s.args.image.now s.args.pool.now s.args.table.now s.args.snapshot

abbrev until_writes : tie.Start → List Request
until_writes s = to_writes s.args.image.now s.args.pool.now s.args.table.now s.args.snapshot

abbrev until_protects : tie.Start → List Request
until_protects s = to_protects s.args.image.now s.args.pool.now s.args.table.now s.args.snapshot

-- where it is put

abbrev to : tie.Start → Cursor
to s = s.args.to

abbrev out : tie.Start → List ℕ
out s = s.args.out.now

-- behind each segment

module _ (s : tie.Start) where
  abbrev room : Room (to s) (out s) (roll_of s.args.image.now s.args.pool.now s.args.table.now s.args.snapshot)
  room = s.requires.1

  starts : Room (to s) (out s) (start s)
  starts = room_open s.args.image.now s.args.pool.now s.args.table.now s.args.snapshot (to s) (out s) room

  maps : Room (to s) (out s) (to_maps s.args.snapshot)
  maps = room-maps s.args.image.now s.args.pool.now s.args.table.now s.args.snapshot (to s) (out s) room

  written : Room (to s) (out s) (until_writes s)
  written = room-writes s.args.image.now s.args.pool.now s.args.table.now s.args.snapshot (to s) (out s) room

  protected : Room (to s) (out s) (until_protects s)
  protected = room-protects s.args.image.now s.args.pool.now s.args.table.now s.args.snapshot (to s) (out s) room

  all : Room (to s) (out s) (until_protects s ++ closing s.args.snapshot.sandbox)
  all = room-roll s.args.image.now s.args.pool.now s.args.table.now s.args.snapshot (to s) (out s) room

-- each segment, seen from before the next call, and the lines that were made first

abbrev first_line : tie.After-put_maps-arg-1 → tie.After-put_line-opened
first_line c = c.before.before.before

abbrev map_lines : tie.After-put_writes-arg-1 → tie.After-put_maps-mapped
map_lines c = c.before.before.before

abbrev write_lines : tie.After-put_protects-arg-1 → tie.After-put_writes-written
write_lines c = c.before.before.before

abbrev protect_lines : tie.After-put_line-arg-2-1 → tie.After-put_protects-protected
protect_lines c = c.before.before.before

abbrev made_lines : tie.After-put_line-opened → tie.After-line-closing
made_lines c = c.before.before

abbrev lines_made : tie.After-put_line-arg-2-1 → tie.After-line-closing
lines_made c = made_lines (first_line (map_lines (write_lines (protect_lines c).before).before).before)

-- what stands behind each segment

abbrev behind_open : tie.After-put_maps-arg-1 → tie.Start
behind_open c = (made_lines (first_line c)).before.before.before.before.before.before

opened : (c : tie.After-put_maps-arg-1) → let s = behind_open c in
    let line = (first_line c).put_line-opened in
    placed line.result line.new.out ≡ put (to s) (out s) (start s)
opened c =
    let s = behind_open c in
    let first = (made_lines (first_line c)).before.line-opening in
    (first_line c).put_line-opened.ensures ∙ ap (λ (q : Request). put (to s) (out s) (q ∷ [])) first.ensures

abbrev behind_maps : tie.After-put_writes-arg-1 → tie.Start
behind_maps c = behind_open (map_lines c).before

mapped : (c : tie.After-put_writes-arg-1) → let s = behind_maps c in
    let lines = (map_lines c).put_maps-mapped in
    placed lines.result lines.new.out ≡ put (to s) (out s) (to_maps s.args.snapshot)
mapped c =
    let before = (map_lines c).before in
    let s = behind_maps c in
    let line = (first_line before).put_line-opened in
    let lines = (map_lines c).put_maps-mapped in
    next-put (to s) line.result (out s) line.new.out (start s) (maps_of s.args.snapshot) (maps s) (opened before)
    lines.result lines.new.out lines.ensures

abbrev behind_writes : tie.After-put_protects-arg-1 → tie.Start
behind_writes c = behind_maps (write_lines c).before

wrote : (c : tie.After-put_protects-arg-1) → let s = behind_writes c in
    let lines = (write_lines c).put_writes-written in
    placed lines.result lines.new.out ≡ put (to s) (out s) (until_writes s)
wrote c =
    let before = (write_lines c).before in
    let s = behind_writes c in
    let last = (map_lines before).put_maps-mapped in
    let lines = (write_lines c).put_writes-written in
    next-put (to s) last.result (out s) last.new.out (to_maps s.args.snapshot) (writes s) (written s) (mapped before)
    lines.result lines.new.out lines.ensures

abbrev behind_protects : tie.After-put_line-arg-2-1 → tie.Start
behind_protects c = behind_writes (protect_lines c).before

locked : (c : tie.After-put_line-arg-2-1) → let s = behind_protects c in
    let lines = (protect_lines c).put_protects-protected in
    placed lines.result lines.new.out ≡ put (to s) (out s) (until_protects s)
locked c =
    let before = (protect_lines c).before in
    let s = behind_protects c in
    let last = (write_lines before).put_writes-written in
    let lines = (protect_lines c).put_protects-protected in
    next-put (to s) last.result (out s) last.new.out (until_writes s) (protects_of s.args.snapshot) (protected s) (wrote before)
    lines.result lines.new.out lines.ensures

-- the needs

line-requires : tie.Need-line-opening-requires
line-requires c κs = search rules

line-requires-2 : tie.Need-line-closing-requires
line-requires-2 c κs = search rules

put-line-requires : tie.Need-put_line-opened-requires
put-line-requires c κs = let made = c.before.before in rw made.line-opening.ensures (starts made.before.before.before.before.before)

put-maps-requires : tie.Need-put_maps-mapped-requires
put-maps-requires c κs =
    let s = behind_open c in
    let line = (first_line c).put_line-opened in
    next-room (to s) line.result (out s) line.new.out (start s) (maps_of s.args.snapshot) (maps s) (opened c)

put-writes-requires : tie.Need-put_writes-written-requires
put-writes-requires c κs =
    let s = behind_maps c in
    let last = (map_lines c).put_maps-mapped in
    (s.requires.0, next-room (to s) last.result (out s) last.new.out (to_maps s.args.snapshot) (writes s) (written s) (mapped c))

put-protects-requires : tie.Need-put_protects-protected-requires
put-protects-requires c κs =
    let s = behind_writes c in
    let last = (write_lines c).put_writes-written in
    next-room (to s) last.result (out s) last.new.out (until_writes s) (protects_of s.args.snapshot) (protected s) (wrote c)

put-line-requires-2 : tie.Need-put_line-requires
put-line-requires-2 c κs =
    let s = behind_protects c in
    let last = (protect_lines c).put_protects-protected in
    rw (lines_made c).line-closing.ensures
    (next-room (to s) last.result (out s) last.new.out (until_protects s) (closing s.args.snapshot.sandbox) (all s) (locked c))

same_length : tie.Need-shape_of-out
same_length c = search rules

returns : tie.Need-returns
returns c =
    let before = c.before.before.before in
    let s = behind_protects before in
    let last = (protect_lines before).put_protects-protected in
    let closed = c.put_line in
    next-put (to s) last.result (out s) last.new.out (until_protects s) (closing s.args.snapshot.sandbox) (all s) (locked before)
    closed.result closed.new.out
    (closed.ensures ∙ ap (λ (q : Request). put last.result last.new.out (q ∷ [])) (lines_made before).line-closing.ensures)
    ∙ whole s.args.image.now s.args.pool.now s.args.table.now s.args.snapshot (to s) (out s)

pub put_roll_spec : {M : Type 1} → statement M
put_roll_spec =
    tie.close
    (tie.spec
    line-requires
    line-requires-2
    put-line-requires
    put-maps-requires
    put-writes-requires
    put-protects-requires
    put-line-requires-2
    same_length
    returns)
