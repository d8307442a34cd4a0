-- A read or a write: refused with the number of the table; the byte that is read; or the byte that is stored, where the page has a front.
use Prim.Native.Nat.{ℕ}
use mathlib.Core.Path.{◌≡◌, sym, subst, ◌∙◌}
use mathlib.Core.Bool.{true}
use native.Mathlib.Omega.{arith}
use lib.ListN.{length}
use borrow.Author.Tests.{eqb-true, ne_eqb}
use Rattle.std.specs.Prelude.{Result, Ok, Err}
use Rattle.interface.specs.declared.page.Slot.{Slot}
use Rattle.interface.specs.Numbers.{pages_in}
use Rattle.interface.specs.Requests.{◌is◌, read_code, write_code, page_of}
use Rattle.interface.specs.Answers.{refusal_number}
use Rattle.interface.specs.Refusals.{View, refusal}
use Rattle.areas.specs.Areas.{slots}
use Rattle.records.specs.Record.{view_from}
use Rattle.state.specs.World.{World}
use Rattle.rules.specs.Ready.{Fit}
use Rattle.step.specs.Step.{number_at}
use Rattle.step.proofs.CallLaws.{stepped-refused, asked}
use Rattle.interface.specs.declared.answer.Refusal.{Refusal}
use Rattle.few_rows.specs.Decided.{Decides}
use Rattle.in_place.specs.InPlace.{Around}
use Rattle.few_rows.proofs.RowLaws.{few-access, access-stays}
use Rattle.in_place.proofs.WayLaws.{state, ready-here, ranged-here, number-here, tried_same, looked, tried-store, placed-here, read_here}
use borrow.Author.Rules.{rules}
use Rattle.in_place.proofs.read_or_write.Statement.{statement}
use Rattle.in_place.proofs.read_or_write.Tie as tie

-- ---- what is handed in

-- this world is around it
abbrev Here : tie.Start → World → Type 0
Here s w = Around s.args.image.now s.args.q s.args.b s.args.pool.now s.args.table.now w

-- ---- what was decided

abbrev view : tie.Start → ℕ → ℕ → View
view s frames shares = view_from true frames (pages_in (length s.args.image.now)) shares s.args.b.rec

abbrev start : tie.After-decide → tie.Start
start c = c.before.before.before.before.before

-- refused
refused : (c : tie.In-Err) → let s = start c.before in
    (frames shares : ℕ) → refusal_number c.in-Err.why ≡ refusal (view s frames shares) s.args.q
refused c frames shares =
    let s = start c.before in
    subst (λ (x : Result Slot Refusal). Decides (view s frames shares) s.args.q x) c.in-Err.is (c.decide.ensures frames shares)

-- accepted, with what stands at the page
abbrev paged : tie.In-Ok → tie.Start
paged c = start c.before

abbrev slot_at : tie.In-Ok → Slot
slot_at c = c.in-Ok.slot

told : (c : tie.In-Ok) (frames shares : ℕ) → Decides (view (paged c) frames shares) (paged c).args.q (Ok (slot_at c))
told c frames shares =
    let s = paged c in
    subst (λ (x : Result Slot Refusal). Decides (view s frames shares) s.args.q x) c.in-Ok.is (c.decide.ensures frames shares)

slot_is : (c : tie.In-Ok) → slot_at c ≡ slots (paged c).args.b.rec.present (page_of (paged c).args.q)
slot_is c = (told c 0 0).1

number : (c : tie.In-Ok) (w : World) → Here (paged c) w → number_at (paged c).args.image.now w (paged c).args.q ≡ 0
number c w A = sym (number-here A 0 (λ frames shares. sym (told c frames shares).0))

fit : (c : tie.In-Ok) → Fit (paged c).args.q
fit c =
    let s = paged c in
    let A = s.requires.1.1.1 in
    (asked s.args.image.now s.requires.1.1.0 s.args.q (state A) (number c s.requires.1.1.0 A)).fit

-- where the byte is read, and where it is stored
abbrev reading : tie.Then-q-eq-READ → tie.In-Ok
reading c = c.before.before

abbrev storing : tie.After-store-arg-1 → tie.In-Ok
storing c = c.before.before.before

writes : (c : tie.After-store-arg-1) → c.args.q.code ≡ write_code
writes c =
    let q = c.args.q in
    let h : (q is write_code) ≡ true = rw (ne_eqb q.code read_code c.if-q-eq-READ.false) at c.requires.0 in
    eqb-true q.code write_code h

-- ---- the needs

cast-images : tie.Need-overflow_cast-images
cast-images c = omega (arith, (state c.requires.1.1.1).images)

decide-requires : tie.Need-decide-requires
decide-requires c κs = let p = c.requires in (p.0, (p.1.0, ready-here p.1.1.1 p.1.0))

enum-known-why : tie.Need-enum_known-why
enum-known-why c = search rules

enum-known-slot : tie.Need-enum_known-slot
enum-known-slot c = search rules

read-requires : tie.Need-read-byte-requires
read-requires c κs =
    let found = reading c in
    let A = c.requires.1.1.1 in
    (placed-here A c.requires.1.0 (slot_at found) (slot_is found) ((fit found).read c.if-q-eq-READ.true), ranged-here A)

from-requires : tie.Need-from-requires
from-requires c κs = search rules

same_length : tie.Need-shape_of-pool-then-q-eq-READ
same_length c = search rules

returns : tie.Need-returns-then-q-eq-READ
returns c w A =
    let found = reading c.before.before in
    let q = c.args.q in
    let e = c.if-q-eq-READ.true in
    tried_same A (Ok c.from.result)
    (looked A (few-access q c.requires.0) (access-stays q c.requires.0) (number found w A) (rw e) c.from.result
    (λ h. c.from.ensures ∙ read_here A c.requires.1.0 (slot_at found) (slot_is found) e c.read-byte.result c.read-byte.ensures h))

store-requires : tie.Need-store-stored-requires
store-requires c κs =
    let limits = (fit (storing c)).written (writes c) in
    (c.requires.1.0, (limits.0, (limits.1, ranged-here c.requires.1.1.1)))

then-some-requires : tie.Need-then_some-requires
then-some-requires c κs = search rules

returns-2 : tie.Need-returns-in-Err
returns-2 c w A =
    let why = c.in-Err.why in
    tried_same A (Err why) (stepped-refused c.args.image.now w c.args.q why (number-here A (refusal_number why) (refused c)))

same-length-2 : tie.Need-shape_of-pool
same-length-2 c = search rules

returns-3 : tie.Need-returns-else-q-eq-READ
returns-3 c w A =
    let stored = c.before.before.before in
    let q = c.args.q in
    rw c.then_some.ensures
    (tried-store A (few-access q c.requires.0) (access-stays q c.requires.0) (number (storing stored.before) w A) (writes stored.before)
    stored.store-stored.result _ stored.store-stored.ensures)

pub read_or_write_spec : {M : Type 1} → statement M
read_or_write_spec =
    tie.close
    (tie.spec
    cast-images
    decide-requires
    enum-known-why
    enum-known-slot
    read-requires
    from-requires
    same_length
    returns
    store-requires
    then-some-requires
    returns-2
    same-length-2
    returns-3)
