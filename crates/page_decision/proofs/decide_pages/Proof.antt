-- The rows from 9 on: each test is its row of the table, so that behind it the row does not apply, and before its refusal it is the first that does.
use mathlib.Core.Path.{◌≡◌, refl, sym, ◌∙◌}
use mathlib.Core.Bool.{Bool, true, not}
use Rattle.interface.specs.declared.answer.Refusal.{Refusal}
use Rattle.interface.specs.declared.answer.Refusal.TheVariants.{SnapshotTaken, NotMapped, AlreadyMapped, NoGap, NotWritable, ShareExceeded, TooManyAreas}
use Rattle.interface.specs.declared.request.Request.{Request}
use Rattle.interface.specs.Refusals.{View, applies}
use Rattle.interface.specs.Settled.{Settled}
use Rattle.areas.specs.Walk.{Formed}
use Rattle.areas.proofs.WalkLaws.{near-formed, settled as formed}
use Rattle.records.specs.Record.{view_from}
use Rattle.records.proofs.SettledLaws.{settled-of}
use Rattle.rules.specs.Ready.{Ready, Fit, Passed}
use Rattle.page_decision.proofs.DecideLaws.{Behind, behind-8, fit_of, passed-of, refused, accepted, packed-row}
use borrow.Author.Rules.{rules}
use Rattle.page_decision.proofs.decide_pages.Statement.{statement}
use Rattle.page_decision.proofs.decide_pages.Tie as tie

-- ---- what is handed in

abbrev view : tie.Start → View
view s = view_from true s.args.frames s.args.images s.args.shares s.args.b

abbrev request : tie.Start → Request
request s = s.args.q

ready : (s : tie.Start) → Ready s.args.images s.args.b
ready s = s.requires.1

settled : (s : tie.Start) → Settled (view s)
settled s = settled-of s.args.images s.args.b (ready s).sound true s.args.frames s.args.images s.args.shares

-- no row before this one applies
abbrev Past : Refusal → tie.Start → Type 0
Past row s = Behind (view s) (request s) row

-- this row applies, or not
abbrev Row : Refusal → tie.Start → Bool
Row row s = applies (view s) (request s) row

past8 : (s : tie.Start) → Past NotMapped s
past8 s = behind-8 (view s) (request s) s.requires.0

-- the present areas can be looked at where the request fits
to-look-at : (s : tie.Start) → Past SnapshotTaken s → Formed s.args.b.present × Fit (request s)
to-look-at s p =
    (formed s.args.images s.args.b.present (ready s).sound.present (ready s).few, fit_of (view s) (request s) (ready s).few p)

passed : (s : tie.Start) → Past NotWritable s → Passed (view s) (request s)
passed s p = passed-of (view s) (request s) (ready s).few p

-- ---- what each test says of its row: the state at the test, the rows passed, the row's outcome

abbrev at9 : tie.After-not_mapped → tie.Start
at9 c = c.before.before

row9 : (c : tie.After-not_mapped) → c.not_mapped.result ≡ Row NotMapped (at9 c)
row9 c = c.not_mapped.ensures (view (at9 c)) refl

past9 : (c : tie.Else-not_mapped) → Past AlreadyMapped (at9 c.before)
past9 c = (sym (row9 c.before) ∙ c.if-not_mapped.false, past8 (at9 c.before))

abbrev at10 : tie.After-already_mapped → tie.Start
at10 c = at9 c.before.before

row10 : (c : tie.After-already_mapped) → c.already_mapped.result ≡ Row AlreadyMapped (at10 c)
row10 c = c.already_mapped.ensures (view (at10 c)) refl

past10 : (c : tie.Else-already_mapped) → Past NoGap (at10 c.before)
past10 c = (sym (row10 c.before) ∙ c.if-already_mapped.false, past9 c.before.before)

abbrev at11 : tie.After-no_gap → tie.Start
at11 c = at10 c.before.before

row11 : (c : tie.After-no_gap) → c.no_gap.result ≡ Row NoGap (at11 c)
row11 c = c.no_gap.ensures (view (at11 c)) refl

past11 : (c : tie.Else-no_gap) → Past NotWritable (at11 c.before)
past11 c = (sym (row11 c.before) ∙ c.if-no_gap.false, past10 c.before.before)

abbrev at12 : tie.After-not_writable → tie.Start
at12 c = at11 c.before.before

row12 : (c : tie.After-not_writable) → c.not_writable.result ≡ Row NotWritable (at12 c)
row12 c = c.not_writable.ensures (view (at12 c)) refl

past12 : (c : tie.Else-not_writable) → Past ShareExceeded (at12 c.before)
past12 c = (sym (row12 c.before) ∙ c.if-not_writable.false, past11 c.before.before)

abbrev at13 : tie.After-share_exceeded → tie.Start
at13 c = at12 c.before.before

row13 : (c : tie.After-share_exceeded) → c.share_exceeded.result ≡ Row ShareExceeded (at13 c)
row13 c = c.share_exceeded.ensures (at13 c).args.images (passed (at13 c) (past12 c.before).1)

past13 : (c : tie.Else-share_exceeded) → Past TooManyAreas (at13 c.before)
past13 c = (sym (row13 c.before) ∙ c.if-share_exceeded.false, past12 c.before.before)

abbrev at14 : tie.After-packed_after-packed → tie.Start
at14 c = at13 c.before.before

row14 : (c : tie.After-packed_after-packed) → Row TooManyAreas (at14 c) ≡ not c.packed_after-packed.result.fits
row14 c =
    let s = at14 c in
    packed-row s.args.frames s.args.images s.args.shares s.args.b (request s) (settled s) c.packed_after-packed.result c.packed_after-packed.ensures

-- ---- the needs

not-mapped-requires : tie.Need-not_mapped-requires
not-mapped-requires c κs = to-look-at c.before (past8 c.before).1.1

returns : tie.Need-returns-then-not_mapped
returns c =
    let test = c.before in
    let s = at9 test in
    refused (view s) (request s) s.args.b NotMapped (past8 s) (sym (row9 test) ∙ c.if-not_mapped.true)

already-mapped-requires : tie.Need-already_mapped-requires
already-mapped-requires c κs = to-look-at (at9 c.before) (past9 c).1.1.1

returns-2 : tie.Need-returns-then-already_mapped
returns-2 c =
    let test = c.before in
    let s = at10 test in
    refused (view s) (request s) s.args.b AlreadyMapped (past9 test.before) (sym (row10 test) ∙ c.if-already_mapped.true)

no-gap-requires : tie.Need-no_gap-requires
no-gap-requires c κs = to-look-at (at10 c.before) (past10 c).1.1.1.1

returns-3 : tie.Need-returns-then-no_gap
returns-3 c =
    let test = c.before in
    let s = at11 test in
    refused (view s) (request s) s.args.b NoGap (past10 test.before) (sym (row11 test) ∙ c.if-no_gap.true)

not-writable-requires : tie.Need-not_writable-requires
not-writable-requires c κs =
    let s = at11 c.before in
    let ready-to = to-look-at s (past11 c).1.1.1.1.1 in
    (near-formed s.args.b.present ready-to.0, ready-to.1)

returns-4 : tie.Need-returns-then-not_writable
returns-4 c =
    let test = c.before in
    let s = at12 test in
    refused (view s) (request s) s.args.b NotWritable (past11 test.before) (sym (row12 test) ∙ c.if-not_writable.true)

share-exceeded-requires : tie.Need-share_exceeded-requires
share-exceeded-requires c κs = let s = at12 c.before in (s.args.images, ready s)

returns-5 : tie.Need-returns-then-share_exceeded
returns-5 c =
    let test = c.before in
    let s = at13 test in
    refused (view s) (request s) s.args.b ShareExceeded (past12 test.before) (sym (row13 test) ∙ c.if-share_exceeded.true)

packed-after-requires : tie.Need-packed_after-packed-requires
packed-after-requires c κs = let s = at13 c.before in ((s.args.images, ready s), (passed s (past13 c).1.1).fit)

returns-6 : tie.Need-returns-then-not-packed
returns-6 c =
    let test = c.before.before in
    let s = at14 test in
    refused (view s) (request s) s.args.b TooManyAreas (past13 test.before) (row14 test ∙ c.if-not-packed.true)

returns-7 : tie.Need-returns
returns-7 c =
    let test = c.before.before.before in
    let s = at14 test in
    accepted (view s) (request s) s.args.b test.packed_after-packed.result test.packed_after-packed.ensures
    (row14 test ∙ c.if-not-packed.false, past13 test.before)

pub decide_pages_spec : {M : Type 1} → statement M
decide_pages_spec =
    tie.close
    (tie.spec
    not-mapped-requires
    returns
    already-mapped-requires
    returns-2
    no-gap-requires
    returns-3
    not-writable-requires
    returns-4
    share-exceeded-requires
    returns-5
    packed-after-requires
    returns-6
    returns-7)
