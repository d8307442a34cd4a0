-- Each test is its row of the table, whatever the frames and the shares: rows 4, 6, 9 and 12, and behind them no row applies.
use Prim.Native.Nat.{ℕ, ◌<◌}
use mathlib.Core.Path.{◌≡◌, refl, sym, ap, ◌∙◌}
use mathlib.Core.Bool.{true, not, ◌&&◌}
use lib.Dec.{eqb}
use Rattle.interface.specs.declared.answer.Refusal.{Refusal}
use Rattle.interface.specs.declared.answer.Refusal.TheVariants.{NotOpen, OutsideLimits, SnapshotTaken, NotMapped, NotWritable}
use Rattle.interface.specs.declared.request.Request.{Request}
use Rattle.interface.specs.Requests.{◌is◌, write_code, page_of}
use Rattle.interface.specs.Slots.{is_mapped, rights_at}
use Rattle.interface.specs.Refusals.{View, applies}
use Rattle.interface.specs.Settled.{Settled}
use Rattle.areas.specs.Areas.{slots}
use Rattle.areas.proofs.FormedLaws.{near}
use Rattle.records.specs.Record.{view_from}
use Rattle.records.proofs.SettledLaws.{settled-of}
use Rattle.rules.specs.Ready.{Ready}
use Rattle.rules.proofs.FitLaws.{named-address, page-small}
use Rattle.page_decision.proofs.DecideLaws.{Behind, sound-call, limits-row, fit_of}
use Rattle.few_rows.proofs.RowLaws.{Few, few-access, number_of, past4, past6, past8, past9, row9, access-accepts}
use borrow.Author.Rules.{rules}
use Rattle.few_rows.proofs.access.decide.Statement.{statement}
use Rattle.few_rows.proofs.access.decide.Tie as tie

-- ---- what is handed in

abbrev request : tie.Start → Request
request s = s.args.q

ready : (s : tie.Start) → Ready s.args.images s.args.b
ready s = s.requires.1.1

few : (s : tie.Start) → Few (request s)
few s = few-access (request s) s.requires.0

abbrev at6 : tie.After-within_limits → tie.Start
at6 c = c.before.before.before

-- the view over so many frames, where the shares together are these
module _ (frames shares : ℕ) where
  abbrev view : tie.Start → View
  view s = view_from true frames s.args.images shares s.args.b

  settled : (s : tie.Start) → Settled (view s)
  settled s = settled-of s.args.images s.args.b (ready s).sound true frames s.args.images shares

  -- no row before this one applies
  abbrev Past : Refusal → tie.Start → Type 0
  Past row s = Behind (view s) (request s) row

  -- ---- what each test says of its row

  row-4 : (c : tie.After-not_open) → c.not_open.result ≡ applies (view c.before) (request c.before) NotOpen
  row-4 c = c.not_open.ensures (view c.before) refl

  past-4 : (c : tie.Else-not_open) → Past OutsideLimits c.before.before
  past-4 c = let s = c.before.before in past4 (view s) (request s) (few s) refl (sym (row-4 c.before) ∙ c.if-not_open.false)

  row-6 : (c : tie.After-within_limits) → not c.within_limits.result ≡ applies (view (at6 c)) (request (at6 c)) OutsideLimits
  row-6 c = ap not c.within_limits.ensures ∙ limits-row (view (at6 c)) (request (at6 c))

  past-6 : (c : tie.Else-not-within_limits) → Past SnapshotTaken (at6 c.before)
  past-6 c = (sym (row-6 c.before) ∙ c.if-not-within_limits.false-raw, past-4 c.before.before)

  past-8 : (c : tie.Else-not-within_limits) → Past NotMapped (at6 c.before)
  past-8 c =
      let s = at6 c.before in
      past8 (view s) (request s) s.requires.0 (past6 (view s) (request s) (few s) (past-6 c).0 (past-6 c).1)

-- the limits place the address
address : (c : tie.Else-not-within_limits) → (request (at6 c.before)).p1 < 16384
address c =
    let s = at6 c.before in
    named-address (request s) (fit_of (view 0 0 s) (request s) (ready s).few (past-6 0 0 c)) s.requires.0

abbrev mapped : tie.After-rights_at → tie.Else-not-is_mapped
mapped c = c.before.before

-- what stands at its page
abbrev limited : tie.After-slot-slot → tie.Else-not-within_limits
limited c = c.before.before.before

abbrev start : tie.After-slot-slot → tie.Start
start c = at6 (limited c).before

slot_is : (c : tie.After-slot-slot) → c.slot-slot.result ≡ slots (start c).args.b.present (page_of (request (start c)))
slot_is c = c.slot-slot.ensures ∙ ap (slots (start c).args.b.present) c.page_of.ensures

module _ (frames shares : ℕ) where
  row-9 : (c : tie.After-is_mapped) → let s = start c.before in not c.is_mapped.result ≡ applies (view frames shares s) (request s) NotMapped
  row-9 c =
      let s = start c.before in
      ap not (c.is_mapped.ensures ∙ ap is_mapped (slot_is c.before)) ∙ row9 (view frames shares s) (request s) s.requires.0

  past-9 : (c : tie.Else-not-is_mapped) → Past frames shares NotWritable (start c.before.before)
  past-9 c =
      let looked = c.before.before in
      let s = start looked in
      past9 (view frames shares s) (request s) (few s) (sym (row-9 c.before) ∙ c.if-not-is_mapped.false-raw) (past-8 frames shares (limited looked))

  row-12 : (c : tie.After-rights_at) → let s = start (mapped c).before.before in
      (request s is write_code && not (eqb c.rights_at.result 3)) ≡ applies (view frames shares s) (request s) NotWritable
  unfolding applies
  row-12 c =
      let looked = (mapped c).before.before in
      ap (λ (rights : ℕ). request (start looked) is write_code && not (eqb rights 3)) (c.rights_at.ensures ∙ ap rights_at (slot_is looked))

-- ---- the needs

not-open-requires : tie.Need-not_open-requires
not-open-requires c κs = search rules

returns : tie.Need-returns-then-not_open
returns c frames shares =
    let s = c.before.before in
    number_of (view frames shares s) (request s) NotOpen (sound-call (view frames shares s) (request s) refl (few s).call)
    (sym (row-4 frames shares c.before) ∙ c.if-not_open.true)

within-limits-requires : tie.Need-within_limits-requires
within-limits-requires c κs = search rules

returns-2 : tie.Need-returns-then-not-within_limits
returns-2 c frames shares =
    let s = at6 c.before in
    number_of (view frames shares s) (request s) OutsideLimits (past-4 frames shares c.before.before)
    (sym (row-6 frames shares c.before) ∙ c.if-not-within_limits.true-raw)

page-of-requires : tie.Need-page_of-requires
page-of-requires c κs = address c.before

slot-requires : tie.Need-slot-slot-requires
slot-requires c κs =
    let s = c.before.before.before.before.before.before in (
      near s.args.images s.args.b.present (ready s).sound.present (ready s).few,
      rw c.page_of.ensures (page-small (request s).p1 (address c.before.before)),
    )

is-mapped-requires : tie.Need-is_mapped-requires
is-mapped-requires c κs = search rules

returns-3 : tie.Need-returns-then-not-is_mapped
returns-3 c frames shares =
    let looked = c.before.before in
    let s = start looked in
    number_of (view frames shares s) (request s) NotMapped (past-8 frames shares (limited looked)) (sym (row-9 frames shares c.before) ∙ c.if-not-is_mapped.true-raw)

rights-at-requires : tie.Need-rights_at-requires
rights-at-requires c κs = search rules

returns-4 : tie.Need-returns-then-q-rights_at
returns-4 c frames shares =
    let here = mapped c.before in
    let s = start here.before.before in
    number_of (view frames shares s) (request s) NotWritable (past-9 frames shares here) (sym (row-12 frames shares c.before) ∙ c.if-q-rights_at.true)

returns-5 : tie.Need-returns
returns-5 c frames shares =
    let here = mapped c.before in
    let looked = here.before.before in
    let s = start looked in (
      access-accepts (view frames shares s) (request s) s.requires.0 (settled frames shares s) (sym (row-12 frames shares c.before) ∙ c.if-q-rights_at.false)
          (past-9 frames shares here),
      slot_is looked,
    )

pub decide_spec : {M : Type 1} → statement M
decide_spec =
    tie.close
    (tie.spec
    not-open-requires
    returns
    within-limits-requires
    returns-2
    page-of-requires
    slot-requires
    is-mapped-requires
    returns-3
    rights-at-requires
    returns-4
    returns-5)
