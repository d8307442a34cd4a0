-- A rewind on one sandbox: refused with the number of the table, or the value is the step's, and the store, the runs and the record are those that it leaves.
use mathlib.Core.Path.{◌≡◌, sym, ap, subst, ◌∙◌}
use mathlib.Core.Bool.{true}
use mathlib.Core.List.{List}
use native.Mathlib.Omega.{arith}
use lib.ListN.{length}
use Rattle.interface.specs.declared.request.Request.{Request}
use Rattle.interface.specs.Numbers.{pages_in}
use Rattle.interface.specs.Requests.{rewind_code}
use Rattle.interface.proofs.AcceptedLaws.{accepted}
use Rattle.table.specs.Store.{Store, kept, Ranged, Filed}
use Rattle.table.proofs.FiledLaws.{filed-ranged}
use Rattle.areas.proofs.WalkLaws.{settled}
use Rattle.records.specs.declared.Record.{Record}
use Rattle.records.specs.Record.{with_present}
use Rattle.state.specs.declared.sandbox.Sandbox.{Sandbox}
use Rattle.state.specs.World.{World, frames_of}
use Rattle.totals.specs.declared.together.Together.{Together}
use Rattle.rules.specs.After.{packed_after, taken_after, snapshot_after, record_after}
use Rattle.rules.specs.Ready.{Ready}
use Rattle.std.specs.Prelude.{Ok}
use Rattle.interface.specs.Answers.{number_of}
use Rattle.few_rows.specs.Decided.{names_no_page}
use Rattle.memory.specs.Parts.{LeftBy}
use Rattle.memory.proofs.MemoryLaws.{stepped-none, rewound}
use Rattle.memory.proofs.ValueLaws.{rewind-value}
use Rattle.step.specs.Step.{number_at, view_at}
use Rattle.step.specs.Acted.{world_from, Stands}
use Rattle.step.proofs.ActedLaws.{sound-here, own-ready, own-number, acted-refused, acted-accepted}
use borrow.Author.Rules.{rules}
use Rattle.rewind_call.proofs.rewind_sandbox.Statement.{statement}
use Rattle.rewind_call.proofs.rewind_sandbox.Tie as tie

-- ---- what is handed in, and a row of sandboxes from which it is

abbrev store_in : tie.Start → Store
store_in s = kept s.args.held s.args.pool.now s.args.table.now

abbrev Row : tie.Start → Together → List Sandbox → Type 0
Row s all row = Stands s.args.image.now s.args.q s.args.b all (store_in s) row

abbrev there : tie.Start → List Sandbox
there s = s.requires.1.1.0

abbrev all : tie.Start → Together
all s = s.requires.1.1.1.0

abbrev its : (s : tie.Start) → Row s (all s) (there s)
its s = s.requires.1.1.1.1

unpaged : (q : Request) → q.code ≡ rewind_code → names_no_page q ≡ true
unpaged q e = rw e

own : (s : tie.Start) → Ready (pages_in (length s.args.image.now)) s.args.b.rec
own s = own-ready s.args.image.now s.args.q s.args.b (all s) (store_in s) (there s) (its s) s.requires.1.0

-- what a rewind makes of the record of an open sandbox: the snapshot's areas are its present ones
record-rewound : (q : Request) (r : Record) → q.code ≡ rewind_code → r.opened ≡ true → with_present r.snapshot r ≡ record_after q r
unfolding packed_after taken_after snapshot_after
record-rewound q r e o =
    rw e (λ i. record { opened = o i; share = r.share; present = r.snapshot; taken = r.taken; snapshot = r.snapshot })

-- ---- what was decided

abbrev start : tie.After-rec-1 → tie.Start
start c = c.before.before.before.before

abbrev decided : tie.After-decide → tie.Start
decided c = start c.before

number-here : (c : tie.After-decide) (all : Together) (row : List Sandbox) → Row (decided c) all row
    → let s = decided c in number_of c.decide.result ≡ number_at s.args.image.now (world_from row (store_in s)) s.args.q
number-here c all row a =
    let s = decided c in
    c.decide.ensures (frames_of (world_from row (store_in s))) all.shares
    ∙ own-number s.args.image.now s.args.q s.args.b all (store_in s) row a

accepted-here : (c : tie.After-decide) → c.decide.result ≡ Ok tt → (all : Together) (row : List Sandbox) → Row (decided c) all row
    → let s = decided c in number_at s.args.image.now (world_from row (store_in s)) s.args.q ≡ 0
accepted-here c e all row a = sym (number-here c all row a) ∙ ap number_of e

-- an accepted rewind is of an open sandbox
opened-here : (s : tie.Start) (all : Together) (row : List Sandbox) → Row s all row
    → number_at s.args.image.now (world_from row (store_in s)) s.args.q ≡ 0 → s.args.b.rec.opened ≡ true
unfolding number_at
opened-here s all row a n =
    let q : Request = s.args.q in
    let w : World = world_from row (store_in s) in
    let e : q.code ≡ rewind_code = s.requires.0 in
    ap (λ (x : Sandbox). x.rec.opened) a.handed.own ∙ (accepted (view_at s.args.image.now w q.sandbox) q n).opened (rw e)

filed : (s : tie.Start) → Filed 256 (pages_in (length s.args.pool.now)) (store_in s)
filed s = (sound-here s.args.image.now s.args.q s.args.b (all s) (store_in s) (there s) (its s)).filed

ranged : (s : tie.Start) → Ranged 256 s.args.pool.now s.args.table.now
ranged s = filed-ranged 256 (pages_in (length s.args.pool.now)) (store_in s) (filed s)

-- ---- where the runs are gathered

abbrev told_at : tie.After-gathered-arg-in-Ok-1 → tie.In-Ok
told_at c = c.before.before.before

abbrev gathering : tie.After-gathered-arg-in-Ok-1 → tie.Start
gathering c = decided (told_at c).before

-- ---- the needs

cast-images : tie.Need-overflow_cast-images
cast-images c =
    let s = start c in
    omega (arith, (sound-here s.args.image.now s.args.q s.args.b (all s) (store_in s) (there s) (its s)).images)

decide-requires : tie.Need-decide-requires
decide-requires c κs = let s = start c in (unpaged s.args.q s.requires.0, (s.requires.1.0, own s))

enum-known-why : tie.Need-enum_known-why
enum-known-why c = search rules

enum_told : tie.Need-enum_told-1
enum_told c = search rules

cast-s : tie.Need-overflow_cast-s
cast-s c = search rules

gathered-requires : tie.Need-gathered-left-requires
gathered-requires c κs =
    let s = gathering c in
    let r = ranged s in
    (s.requires.1.0, (settled (pages_in (length s.args.image.now)) s.args.b.rec.present (own s).sound.present (own s).few, (r.entries, r.few)))

rewind-requires : tie.Need-rewind-restored-requires
rewind-requires c κs =
    let s = gathering c.before.before.before in
    (s.requires.1.0, (own s, filed s))

with-present-requires : tie.Need-with_present-after-requires
with-present-requires c κs = search rules

from-requires : tie.Need-from-requires
from-requires c κs = search rules

returns : tie.Need-returns-in-Err
returns c row all a =
    let deciding = c.before in
    let s = decided deciding in
    acted-refused s.args.image.now s.args.q s.args.b all (store_in s) row a c.in-Err.why
    (ap number_of (sym c.in-Err.is) ∙ number-here deciding all row a)

same_length : tie.Need-shape_of-pool
same_length c = search rules

same-length-2 : tie.Need-shape_of-table
same-length-2 c = search rules

returns-2 : tie.Need-returns-in-Ok
returns-2 c row all a =
    let restored = c.before.before.before.before.before.before in
    let found = restored.before.before.before.before.before in
    let told = told_at found.before in
    let s = gathering found.before in
    let image = s.args.image.now in
    let q = s.args.q in
    let e = s.requires.0 in
    let w : World = world_from row (store_in s) in
    let n = accepted-here told.before told.in-Ok.is all row a in
    let after : Store = kept restored.rewind-restored.result.held restored.rewind-restored.new.pool restored.rewind-restored.new.table in
    acted-accepted image q s.args.b all (store_in s) row a c.from.result _ after found.gathered-left.result n
    (c.from.ensures ∙ rewind-value image q s.args.b (store_in s) _ e restored.rewind-restored.ensures.1)
    (c.with_present-after.ensures ∙ record-rewound q s.args.b.rec e (opened-here s all row a n))
    (stepped-none image q w after found.gathered-left.result (rw e)
    (subst (λ (x : Sandbox). LeftBy image q x (store_in s) after found.gathered-left.result) a.handed.own
    (rewound image q s.args.b (store_in s) after found.gathered-left.result e restored.rewind-restored.ensures.0
    (found.gathered-left.ensures s.args.held s.args.pool.now))))

pub rewind_sandbox_spec : {M : Type 1} → statement M
rewind_sandbox_spec =
    tie.close
    (tie.spec
    cast-images
    decide-requires
    enum-known-why
    enum_told
    cast-s
    gathered-requires
    rewind-requires
    with-present-requires
    from-requires
    returns
    same_length
    same-length-2
    returns-2)
