-- Each test is its row of the table, whatever the frames and the shares: rows 4, 6 and 8, and behind them no row applies.
use Prim.Native.Nat.{ℕ}
use mathlib.Core.Path.{◌≡◌, refl, sym, ap, ◌∙◌}
use mathlib.Core.Bool.{true, not}
use Rattle.interface.specs.declared.answer.Refusal.TheVariants.{NotOpen, OutsideLimits, NoSnapshot}
use Rattle.interface.specs.declared.request.Request.{Request}
use Rattle.interface.specs.Refusals.{View, applies}
use Rattle.interface.specs.Settled.{Settled}
use Rattle.records.specs.Record.{view_from}
use Rattle.records.proofs.SettledLaws.{settled-of}
use Rattle.page_decision.proofs.DecideLaws.{Behind, sound-call, limits-row}
use Rattle.few_rows.proofs.RowLaws.{Few, few-unpaged, number_of, past4, past6, unpaged-accepts}
use borrow.Author.Rules.{rules}
use Rattle.few_rows.proofs.unpaged.decide.Statement.{statement}
use Rattle.few_rows.proofs.unpaged.decide.Tie as tie

-- ---- what is handed in

abbrev request : tie.Start → Request
request s = s.args.q

few : (s : tie.Start) → Few (request s)
few s = few-unpaged (request s) s.requires.0

abbrev at6 : tie.After-within_limits → tie.Start
at6 c = c.before.before.before

abbrev at8 : tie.After-no_snapshot → tie.Start
at8 c = at6 c.before.before

-- the view over so many frames, where the shares together are these
module _ (frames shares : ℕ) where
  abbrev view : tie.Start → View
  view s = view_from true frames s.args.images shares s.args.b

  settled : (s : tie.Start) → Settled (view s)
  settled s = settled-of s.args.images s.args.b s.requires.1.1.sound true frames s.args.images shares

  -- ---- what each test says of its row

  row-4 : (c : tie.After-not_open) → c.not_open.result ≡ applies (view c.before) (request c.before) NotOpen
  row-4 c = c.not_open.ensures (view c.before) refl

  past-4 : (c : tie.Else-not_open) → let s = c.before.before in Behind (view s) (request s) OutsideLimits
  past-4 c = let s = c.before.before in past4 (view s) (request s) (few s) refl (sym (row-4 c.before) ∙ c.if-not_open.false)

  row-6 : (c : tie.After-within_limits) → not c.within_limits.result ≡ applies (view (at6 c)) (request (at6 c)) OutsideLimits
  row-6 c = ap not c.within_limits.ensures ∙ limits-row (view (at6 c)) (request (at6 c))

  past-6 : (c : tie.Else-not-within_limits) → let s = at6 c.before in Behind (view s) (request s) NoSnapshot
  past-6 c = let s = at6 c.before in past6 (view s) (request s) (few s) (sym (row-6 c.before) ∙ c.if-not-within_limits.false-raw) (past-4 c.before.before)

  row-8 : (c : tie.After-no_snapshot) → c.no_snapshot.result ≡ applies (view (at8 c)) (request (at8 c)) NoSnapshot
  row-8 c = c.no_snapshot.ensures (view (at8 c)) refl

-- ---- the needs

not-open-requires : tie.Need-not_open-requires
not-open-requires c κs = search rules

returns : tie.Need-returns-then-not_open
returns c frames shares =
    let s = c.before.before in
    number_of (view frames shares s) (request s) NotOpen (sound-call (view frames shares s) (request s) refl (few s).call)
    (sym (row-4 frames shares c.before) ∙ c.if-not_open.true)

within-limits-requires : tie.Need-within_limits-requires
within-limits-requires c κs = search rules

returns-2 : tie.Need-returns-then-not-within_limits
returns-2 c frames shares =
    let s = at6 c.before in
    number_of (view frames shares s) (request s) OutsideLimits (past-4 frames shares c.before.before)
    (sym (row-6 frames shares c.before) ∙ c.if-not-within_limits.true-raw)

no-snapshot-requires : tie.Need-no_snapshot-requires
no-snapshot-requires c κs = search rules

returns-3 : tie.Need-returns-then-no_snapshot
returns-3 c frames shares =
    let s = at8 c.before in
    number_of (view frames shares s) (request s) NoSnapshot (past-6 frames shares c.before.before)
    (sym (row-8 frames shares c.before) ∙ c.if-no_snapshot.true)

returns-4 : tie.Need-returns
returns-4 c frames shares =
    let s = at8 c.before in
    sym (unpaged-accepts (view frames shares s) (request s) s.requires.0 (settled frames shares s)
    (sym (row-8 frames shares c.before) ∙ c.if-no_snapshot.false, past-6 frames shares c.before.before))

pub decide_spec : {M : Type 1} → statement M
decide_spec =
    tie.close (tie.spec not-open-requires returns within-limits-requires returns-2 no-snapshot-requires returns-3 returns-4)
