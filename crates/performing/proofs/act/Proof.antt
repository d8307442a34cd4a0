-- A call on one sandbox: what is decided has the number of the step, and where it is accepted the parts leave what the step leaves.
use mathlib.Core.Path.{◌≡◌, sym, ap, subst, ◌∙◌}
use mathlib.Core.List.{List}
use Prim.Native.Nat.{◌/◌}
use native.Mathlib.Omega.{arith}
use lib.ListN.{length}
use Rattle.interface.specs.Numbers.{pages_in}
use Rattle.table.specs.Store.{Store, kept}
use Rattle.table.proofs.FiledLaws.{filed-ranged}
use Rattle.areas.specs.declared.area.Areas.{Areas}
use Rattle.state.specs.declared.sandbox.Sandbox.{Sandbox}
use Rattle.state.specs.World.{World, frames_of}
use Rattle.rules.specs.After.{record_with, present_after}
use Rattle.std.specs.Prelude.{Result, Ok, IfOk}
use Rattle.interface.specs.declared.answer.Refusal.{Refusal}
use Rattle.interface.specs.Answers.{number_of}
use Rattle.memory.specs.Parts.{AskedOf}
use Rattle.step.specs.Step.{number_at}
use Rattle.step.specs.Acted.{world_from, Stands}
use Rattle.step.proofs.ActedLaws.{sound-here, own-ready, own-number, own-asked, acted-refused, acted-accepted}
use borrow.Author.Rules.{rules}
use Rattle.performing.proofs.act.Statement.{statement}
use Rattle.performing.proofs.act.Tie as tie

-- ---- what is handed in, and a row of sandboxes from which it is

abbrev store_in : tie.Start → Store
store_in s = kept s.args.all.held s.args.pool.now s.args.table.now

abbrev Row : tie.Start → List Sandbox → Type 0
Row s row = Stands s.args.image.now s.args.q s.args.b s.args.all (store_in s) row

abbrev there : tie.Start → List Sandbox
there s = s.requires.1.1.1.0

abbrev its : (s : tie.Start) → Row s (there s)
its s = s.requires.1.1.1.1

abbrev world_in : tie.Start → World
world_in s = world_from (there s) (store_in s)

-- ---- what is known behind the decision

abbrev start_of : tie.After-decide → tie.Start
start_of c = c.before.before.before.before.before

number-here : (c : tie.After-decide) (row : List Sandbox) → Row (start_of c) row
    → let s = start_of c in number_of c.decide.result ≡ number_at s.args.image.now (world_from row (store_in s)) s.args.q
number-here c row a =
    let s = start_of c in
    c.decide.ensures.number ∙ own-number s.args.image.now s.args.q s.args.b s.args.all (store_in s) row a

accepted-here : (c : tie.After-decide) (areas : Areas) → c.decide.result ≡ Ok areas → (row : List Sandbox) → Row (start_of c) row
    → let s = start_of c in number_at s.args.image.now (world_from row (store_in s)) s.args.q ≡ 0
accepted-here c areas e row a = sym (number-here c row a) ∙ ap number_of e

areas-here : (c : tie.After-decide) (areas : Areas) → c.decide.result ≡ Ok areas
    → let s = start_of c in areas ≡ present_after s.args.q s.args.b.rec
areas-here c areas e =
    let s = start_of c in
    subst (λ (r : Result Areas Refusal). IfOk r (λ x. x ≡ present_after s.args.q s.args.b.rec)) e c.decide.ensures.areas

-- what an accepted call's parts ask
asked_here : (c : tie.After-decide) (areas : Areas) → c.decide.result ≡ Ok areas → (row : List Sandbox) → Row (start_of c) row
    → let s = start_of c in AskedOf s.args.image.now s.args.q s.args.b s.args.all (store_in s) row
asked_here c areas e row a =
    let s = start_of c in
    own-asked s.args.image.now s.args.q s.args.b s.args.all (store_in s) row a (accepted-here c areas e row a)

-- ---- the parts in turn

abbrev told_as : tie.In-Ok → tie.After-decide
told_as c = c.before

abbrev valued_of : tie.After-value_of-value → tie.In-Ok
valued_of c = c.before

abbrev stored_of : tie.After-store_after-left → tie.After-value_of-value
stored_of c = c.before.before.before

-- ---- the needs

cast-frames : tie.Need-overflow_cast-frames
cast-frames c =
    let s = c.before.before.before in
    let sound = sound-here s.args.image.now s.args.q s.args.b s.args.all (store_in s) (there s) (its s) in
    omega (arith, sound.filed.few)

cast-images : tie.Need-overflow_cast-images
cast-images c =
    let s = c.before.before.before in
    let sound = sound-here s.args.image.now s.args.q s.args.b s.args.all (store_in s) (there s) (its s) in
    omega (arith, sound.images)

decide-requires : tie.Need-decide-requires
decide-requires c κs =
    let s = c.before.before.before.before in
    (s.requires.0, (s.requires.1.1.0, own-ready s.args.image.now s.args.q s.args.b s.args.all (store_in s) (there s) (its s) s.requires.1.1.0))

enum-known-why : tie.Need-enum_known-why
enum-known-why c = search rules

enum-known-areas : tie.Need-enum_known-areas
enum-known-areas c = search rules

value-of-requires : tie.Need-value_of-value-requires
value-of-requires c κs =
    let decided = told_as c in
    let s = start_of decided in
    let a = (asked_here decided c.in-Ok.areas c.in-Ok.is (there s) (its s)).1 in
    let own = own-ready s.args.image.now s.args.q s.args.b s.args.all (store_in s) (there s) (its s) a.row in
    (a.row, (a.fit, (own, (filed-ranged 256 (frames_of (world_in s)) (store_in s) a.filed, (a.filed.few, s.requires.1.0)))))

store-after-requires : tie.Need-store_after-left-requires
store-after-requires c κs =
    let told = valued_of c.before.before in
    let decided = told_as told in
    let s = start_of decided in
    (s.requires.1.0, (there s, asked_here decided told.in-Ok.areas told.in-Ok.is (there s) (its s)))

record-after-requires : tie.Need-record_after-after-requires
record-after-requires c κs =
    let told = valued_of (stored_of c.before.before.before.before.before) in
    let decided = told_as told in
    let s = start_of decided in
    (asked_here decided told.in-Ok.areas told.in-Ok.is (there s) (its s)).1.fit

returns : tie.Need-returns-in-Err
returns c row a =
    let decided = c.before.before in
    let s = start_of decided in
    acted-refused s.args.image.now s.args.q s.args.b s.args.all (store_in s) row a c.in-Err.why
    (ap number_of (sym c.in-Err.is) ∙ number-here decided row a)

same_length : tie.Need-shape_of-pool
same_length c = search rules

same-length-2 : tie.Need-shape_of-table
same-length-2 c = search rules

returns-2 : tie.Need-returns-in-Ok
returns-2 c row a =
    let stored = c.before.before.before.before.before.before.before.before in
    let valued = stored_of stored in
    let told = valued_of valued in
    let decided = told_as told in
    let s = start_of decided in
    let e = told.in-Ok.is in
    acted-accepted s.args.image.now s.args.q s.args.b s.args.all (store_in s) row a valued.value_of-value.result _ _
    stored.store_after-left.result.runs (accepted-here decided told.in-Ok.areas e row a) (valued.value_of-value.ensures s.args.all.held)
    (c.record_after-after.ensures ∙ ap (λ (present : Areas). record_with s.args.q present s.args.b.rec) (areas-here decided told.in-Ok.areas e))
    (stored.store_after-left.ensures row (asked_here decided told.in-Ok.areas e row a))

pub act_spec : {M : Type 1} → statement M
act_spec =
    tie.close
    (tie.spec
    cast-frames
    cast-images
    decide-requires
    enum-known-why
    enum-known-areas
    value-of-requires
    store-after-requires
    record-after-requires
    returns
    same_length
    same-length-2
    returns-2)
