-- Rows 4 to 8: each test is its row of the table, so that behind it the row does not apply, and before its refusal it is the first that does; then the rows
-- from 9 on.
use mathlib.Core.Path.{◌≡◌, refl, sym, ap, ◌∙◌}
use mathlib.Core.Bool.{Bool, true, not}
use Rattle.interface.specs.declared.answer.Refusal.{Refusal}
use Rattle.interface.specs.declared.answer.Refusal.TheVariants.{NotOpen, AlreadyOpen, OutsideLimits, SnapshotTaken, NoSnapshot, NotMapped}
use Rattle.interface.specs.declared.request.Request.{Request}
use Rattle.interface.specs.Refusals.{View, applies}
use Rattle.records.specs.Record.{view_from}
use Rattle.page_decision.proofs.DecideLaws.{Behind, sound-call, limits-row, none-before-9, refused}
use borrow.Author.Rules.{rules}
use Rattle.decision.proofs.decide.Statement.{statement}
use Rattle.decision.proofs.decide.Tie as tie

-- ---- what is handed in

abbrev view : tie.Start → View
view s = view_from true s.args.frames s.args.images s.args.shares s.args.b

abbrev request : tie.Start → Request
request s = s.args.q

-- no row before this one applies
abbrev Past : Refusal → tie.Start → Type 0
Past row s = Behind (view s) (request s) row

-- this row applies, or not
abbrev Row : Refusal → tie.Start → Bool
Row row s = applies (view s) (request s) row

past3 : (s : tie.Start) → Past NotOpen s
past3 s = sound-call (view s) (request s) refl s.requires.0

-- ---- what each test says of its row: the state at the test, the rows passed, the row's outcome

abbrev at4 : tie.After-not_open → tie.Start
at4 c = c.before

row4 : (c : tie.After-not_open) → c.not_open.result ≡ Row NotOpen (at4 c)
row4 c = c.not_open.ensures (view (at4 c)) refl

past4 : (c : tie.Else-not_open) → Past AlreadyOpen (at4 c.before)
past4 c = (sym (row4 c.before) ∙ c.if-not_open.false, past3 (at4 c.before))

abbrev at5 : tie.After-already_open → tie.Start
at5 c = at4 c.before.before

row5 : (c : tie.After-already_open) → c.already_open.result ≡ Row AlreadyOpen (at5 c)
row5 c = c.already_open.ensures (view (at5 c)) refl

past5 : (c : tie.Else-already_open) → Past OutsideLimits (at5 c.before)
past5 c = (sym (row5 c.before) ∙ c.if-already_open.false, past4 c.before.before)

abbrev at6 : tie.After-within_limits → tie.Start
at6 c = at5 c.before.before

row6 : (c : tie.After-within_limits) → not c.within_limits.result ≡ Row OutsideLimits (at6 c)
row6 c = ap not c.within_limits.ensures ∙ limits-row (view (at6 c)) (request (at6 c))

past6 : (c : tie.Else-not-within_limits) → Past SnapshotTaken (at6 c.before)
past6 c = (sym (row6 c.before) ∙ c.if-not-within_limits.false-raw, past5 c.before.before)

abbrev at7 : tie.After-snapshot_taken-taken → tie.Start
at7 c = at6 c.before.before

row7 : (c : tie.After-snapshot_taken-taken) → c.snapshot_taken-taken.result ≡ Row SnapshotTaken (at7 c)
row7 c = c.snapshot_taken-taken.ensures (view (at7 c)) refl

past7 : (c : tie.Else-taken) → Past NoSnapshot (at7 c.before)
past7 c = (sym (row7 c.before) ∙ c.if-taken.false, past6 c.before.before)

abbrev at8 : tie.After-no_snapshot → tie.Start
at8 c = at7 c.before.before

row8 : (c : tie.After-no_snapshot) → c.no_snapshot.result ≡ Row NoSnapshot (at8 c)
row8 c = c.no_snapshot.ensures (view (at8 c)) refl

past8 : (c : tie.Else-no_snapshot) → Past NotMapped (at8 c.before)
past8 c = (sym (row8 c.before) ∙ c.if-no_snapshot.false, past7 c.before.before)

-- ---- the needs

not-open-requires : tie.Need-not_open-requires
not-open-requires c κs = search rules

returns : tie.Need-returns-then-not_open
returns c =
    let test = c.before in
    let s = at4 test in
    refused (view s) (request s) s.args.b NotOpen (past3 s) (sym (row4 test) ∙ c.if-not_open.true)

already-open-requires : tie.Need-already_open-requires
already-open-requires c κs = search rules

returns-2 : tie.Need-returns-then-already_open
returns-2 c =
    let test = c.before in
    let s = at5 test in
    refused (view s) (request s) s.args.b AlreadyOpen (past4 test.before) (sym (row5 test) ∙ c.if-already_open.true)

within-limits-requires : tie.Need-within_limits-requires
within-limits-requires c κs = search rules

returns-3 : tie.Need-returns-then-not-within_limits
returns-3 c =
    let test = c.before in
    let s = at6 test in
    refused (view s) (request s) s.args.b OutsideLimits (past5 test.before) (sym (row6 test) ∙ c.if-not-within_limits.true-raw)

snapshot-taken-requires : tie.Need-snapshot_taken-taken-requires
snapshot-taken-requires c κs = search rules

returns-4 : tie.Need-returns-then-taken
returns-4 c =
    let test = c.before in
    let s = at7 test in
    refused (view s) (request s) s.args.b SnapshotTaken (past6 test.before) (sym (row7 test) ∙ c.if-taken.true)

no-snapshot-requires : tie.Need-no_snapshot-requires
no-snapshot-requires c κs = search rules

returns-5 : tie.Need-returns-then-no_snapshot
returns-5 c =
    let test = c.before in
    let s = at8 test in
    refused (view s) (request s) s.args.b NoSnapshot (past7 test.before) (sym (row8 test) ∙ c.if-no_snapshot.true)

decide-pages-requires : tie.Need-decide_pages-requires
decide-pages-requires c κs =
    let s = at8 c.before in
    (none-before-9 (view s) (request s) (past8 c), s.requires.1.1)

returns-6 : tie.Need-returns
returns-6 c = c.decide_pages.ensures

pub decide_spec : {M : Type 1} → statement M
decide_spec =
    tie.close
    (tie.spec
    not-open-requires
    returns
    already-open-requires
    returns-2
    within-limits-requires
    returns-3
    snapshot-taken-requires
    returns-4
    no-snapshot-requires
    returns-5
    decide-pages-requires
    returns-6)
