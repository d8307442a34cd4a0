-- A law for each way out, from what the tests before it said.
use mathlib.Core.Path.{◌≡◌, sym, ◌∙◌}
use mathlib.Core.Bool.{true}
use native.Mathlib.Omega.{arith}
use lib.ListN.{length}
use borrow.Author.Rules.{rules}
use borrow.Author.Tests.{not-true, not-false}
use Rattle.marks.specs.Marks.{marksb}
use Rattle.state.specs.World.{World, world_of, frames_of, lengths_ok}
use Rattle.state.proofs.LentLaws.{Lengths, lengths-true}
use Rattle.soundness.proofs.StateLaws.{lengths-fail, marks-fail, sandboxes-fail, spare-fails, shares-decide}
use Rattle.soundness.proofs.sound.sound.Statement.{statement}
use Rattle.soundness.proofs.sound.sound.Tie as tie

-- the start, from behind each test that was passed
abbrev start1 : tie.Else-not-lengths_ok → tie.Start
start1 c = c.before.before.before.before.before

abbrev start2 : tie.Else-not-marks_match → tie.Start
start2 c = start1 c.before.before.before

abbrev start3 : tie.Else-not-sandboxes_ok → tie.Start
start3 c = start2 c.before.before.before

abbrev world : tie.Start → World
world s = world_of s.args.m s.args.pool.now s.args.table.now

-- what each says
lengths-hold : (c : tie.Else-not-lengths_ok) →
    let a = (start1 c).args in
    lengths_ok (length a.pool.now) (length a.table.now) (length a.image.now) ≡ true
lengths-hold c = sym c.lengths_ok.ensures ∙ not-false c.lengths_ok.result c.if-not-lengths_ok.false-raw

lengths : (c : tie.Else-not-lengths_ok) →
    let a = (start1 c).args in
    Lengths (length a.pool.now) (length a.table.now) (length a.image.now)
lengths c = let a = (start1 c).args in lengths-true (length a.pool.now) (length a.table.now) (length a.image.now) (lengths-hold c)

marks-hold : (c : tie.Else-not-marks_match) →
    let w = world (start2 c) in
    marksb (frames_of w) w.store.marks w.store.table ≡ true
marks-hold c = sym c.marks_match.ensures ∙ not-false c.marks_match.result c.if-not-marks_match.false-raw

lengths-ok-requires : tie.Need-lengths_ok-requires
lengths-ok-requires c κs = search rules

-- the way back from where a fact is needed to where it was learned
abbrev start-of-lengths-ok : tie.After-lengths_ok → tie.Start
start-of-lengths-ok c = c.before.before.before.before

returns : tie.Need-returns-then-not-lengths_ok
returns c =
    let s = start-of-lengths-ok c.before in
    lengths-fail s.args.image.now (world s) (sym c.lengths_ok.ensures ∙ not-true c.lengths_ok.result c.if-not-lengths_ok.true-raw)

cast-frames : tie.Need-overflow_cast-frames
cast-frames c = let l = lengths c in omega arith

cast-images : tie.Need-overflow_cast-images
cast-images c = let l = lengths c in omega arith

marks-match-requires : tie.Need-marks_match-requires
marks-match-requires c κs = let l = lengths c.before in (l.entries, l.few)

abbrev else1-of-marks-match : tie.After-marks_match → tie.Else-not-lengths_ok
else1-of-marks-match c = c.before.before

returns-2 : tie.Need-returns-then-not-marks_match
returns-2 c =
    let p = else1-of-marks-match c.before in
    marks-fail (start1 p).args.image.now (world (start1 p)) (lengths-hold p)
    (sym c.marks_match.ensures ∙ not-true c.marks_match.result c.if-not-marks_match.true-raw)

abbrev else1-of-sandboxes : tie.After-sandboxes-1 → tie.Else-not-lengths_ok
else1-of-sandboxes c = else1-of-marks-match c.before.before

sandboxes-ok-requires : tie.Need-sandboxes_ok-requires
sandboxes-ok-requires c κs = let l = lengths (else1-of-sandboxes c) in (l.images, l.entries)

abbrev at-else2 : tie.After-sandboxes_ok → tie.Else-not-marks_match
at-else2 c = c.before.before

returns-3 : tie.Need-returns-then-not-sandboxes_ok
returns-3 c =
    let p = at-else2 c.before in
    let a = (start2 p).args in
    sandboxes-fail a.image.now (world (start2 p)) (lengths-hold (else1-of-marks-match p.before)) (marks-hold p)
    c.sandboxes_ok.result (c.sandboxes_ok.ensures a.m.held a.pool.now) (not-true _ c.if-not-sandboxes_ok.true-raw)

abbrev else1-of-sandboxes-ok : tie.After-sandboxes_ok → tie.Else-not-lengths_ok
else1-of-sandboxes-ok c = else1-of-sandboxes c.before

spare-ok-requires : tie.Need-spare_ok-requires
spare-ok-requires c κs = let l = lengths (else1-of-sandboxes-ok c.before) in (l.few, omega (arith, l.pages))

returns-4 : tie.Need-returns-then-not-spare_ok
returns-4 c =
    let p = c.before.before in
    let t = p.sandboxes_ok in
    let a = (start3 p).args in
    spare-fails a.image.now (world (start3 p)) (lengths-hold (else1-of-sandboxes-ok p.before)) (marks-hold (at-else2 p.before))
    t.result (t.ensures a.m.held a.pool.now) (not-false _ p.if-not-sandboxes_ok.false-raw) c.spare_ok.result
    (c.spare_ok.ensures a.table.now) (not-true _ c.if-not-spare_ok.true-raw)

shares-requires : tie.Need-shares-requires
shares-requires c κs = search rules

abbrev else1-of-shares : tie.After-shares → tie.Else-not-lengths_ok
else1-of-shares c = else1-of-sandboxes-ok c.before.before.before.before

cast-result : tie.Need-overflow_cast-result
cast-result c = let l = lengths (else1-of-shares c) in omega arith

abbrev at-else3 : tie.After-shares → tie.Else-not-sandboxes_ok
at-else3 c = c.before.before.before

returns-5 : tie.Need-returns
returns-5 c =
    let p = at-else3 c in
    let t = p.sandboxes_ok in
    let q = c.spare_ok in
    let a = (start3 p).args in
    rw c.shares.ensures.0
    (shares-decide a.image.now (world (start3 p)) (lengths-hold (else1-of-sandboxes-ok p.before))
    (marks-hold (at-else2 p.before)) t.result (t.ensures a.m.held a.pool.now) (not-false _ p.if-not-sandboxes_ok.false-raw) q.result
    (q.ensures a.table.now) (not-false _ c.if-not-spare_ok.false-raw))

pub sound_spec : {M : Type 1} → statement M
sound_spec =
    tie.close
    (tie.spec
    lengths-ok-requires
    returns
    cast-frames
    cast-images
    marks-match-requires
    returns-2
    sandboxes-ok-requires
    returns-3
    spare-ok-requires
    returns-4
    shares-requires
    cast-result
    returns-5)
