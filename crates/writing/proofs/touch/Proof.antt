-- A page without a front: a frame is given up where it must be, one that is then not held is there, and the page takes it.
use mathlib.Core.Path.{◌≡◌, sym, ap, subst, ◌∙◌}
use mathlib.Core.List.{List}
use Prim.Native.Nat.{ℕ, ◌*◌, ◌/◌, ◌≤◌, ◌<◌}
use native.Mathlib.Omega.{arith}
use lib.ListN.{length}
use Rattle.interface.specs.declared.page.Slot.{Slot}
use Rattle.interface.specs.Requests.{page_of}
use Rattle.interface.specs.Slots.{backing_at}
use Rattle.interface.specs.Numbers.{pages_in}
use Rattle.table.specs.Store.{Store, kept, front_of, take}
use Rattle.table.specs.Backing.{backing_end}
use Rattle.table.proofs.FiledLaws.{filed-ranged}
use Rattle.kept.specs.Test.{kept_to}
use Rattle.areas.specs.Areas.{slots}
use Rattle.areas.proofs.FormedLaws.{near}
use Rattle.state.specs.declared.sandbox.Sandbox.{Sandbox}
use Rattle.state.specs.World.{World, frames_of, rows_of}
use Rattle.rules.proofs.FitLaws.{page-small}
use Rattle.content.proofs.ReadingLaws.{backing-there, under-is}
use Rattle.reuse.specs.Reuse.{GaveUp}
use Rattle.memory.specs.Parts.{own_sandbox, own_front, Asked, AskedOf}
use Rattle.memory.proofs.SpareLaws.{gives, frame-there}
use Rattle.memory.proofs.MemoryLaws.{touch-kept, touch-made}
use borrow.Author.Rules.{rules}
use Rattle.writing.proofs.touch.Statement.{statement}
use Rattle.writing.proofs.touch.Tie as tie

-- ---- what is handed in, and a row of sandboxes from which it is

abbrev store_in : tie.Start → Store
store_in s = kept s.args.all.held s.args.pool.now s.args.table.now

abbrev world_in : tie.Start → List Sandbox → World
world_in s row = record { sandboxes = row; store = store_in s }

abbrev Row : tie.Start → List Sandbox → Type 0
Row s row = AskedOf s.args.image.now s.args.q s.args.b s.args.all (store_in s) row

-- one such row is there
abbrev there : tie.Start → List Sandbox
there s = s.requires.1.0

abbrev its : (s : tie.Start) → Row s (there s)
its s = s.requires.1.1

abbrev asked : (s : tie.Start) → Asked s.args.image.now s.args.q (world_in s (there s))
asked s = (its s).1

-- the sandbox handed in is that of the row
same-sandbox : (s : tie.Start) (row : List Sandbox) → Row s row → s.args.b ≡ own_sandbox s.args.q (world_in s row)
same-sandbox s row a = a.0.own

small : (s : tie.Start) → s.args.q.p1 / 256 < 64
small s = page-small s.args.q.p1 ((asked s).fit.written s.requires.0).0

-- ---- what is known behind each part

abbrev argued : tie.After-held-1 → tie.Start
argued c = c.before.before.before.before.before.before.before

abbrev fronted : tie.After-front-front → tie.Start
fronted c = argued c.before

abbrev bare : tie.Else-front-ne0 → tie.Start
bare c = fronted c.before

no_front : (c : tie.Else-front-ne0) (row : List Sandbox) → own_front (bare c).args.q (world_in (bare c) row).store ≡ 0
no_front c row = sym c.front-front.ensures ∙ c.if-front-ne0.false

abbrev spared : tie.After-give_up-given → tie.Else-front-ne0
spared c = c.before.before

-- what was given up
gave : (c : tie.After-give_up-given) (row : List Sandbox) (a : Row (bare (spared c)) row) → let s = bare (spared c) in
    GaveUp (gives s.args.image.now s.args.q (world_in s row) a.1 s.requires.0 (no_front (spared c) row))
    (own_sandbox s.args.q (world_in s row)).runs (kept_to (rows_of (world_in s row)) 4).held c.give_up-given.result
gave c row a =
    let s = bare (spared c) in
    rw (← a.0.kept s.requires.0, ← same-sandbox s row a) c.give_up-given.ensures

abbrev framed : tie.After-unheld_frame-f → tie.After-give_up-given
framed c = c.before.before.before

abbrev looked : tie.After-slot-slot → tie.After-unheld_frame-f
looked c = c.before.before

abbrev behind : tie.After-slot-slot → tie.Start
behind c = bare (spared (framed (looked c)))

slot_is : (c : tie.After-slot-slot) (row : List Sandbox) → Row (behind c) row
    → c.slot-slot.result ≡ slots (own_sandbox (behind c).args.q (world_in (behind c) row)).rec.present ((behind c).args.q.p1 / 256)
slot_is c row a = c.slot-slot.ensures ∙ ap (λ (b : Sandbox). slots b.rec.present ((behind c).args.q.p1 / 256)) (same-sandbox (behind c) row a)

-- its image page is there
backing-here : (c : tie.After-slot-slot) → backing_end (backing_at c.slot-slot.result) * 256 ≤ length (behind c).args.image.now
backing-here c =
    let s = behind c in
    let own = own_sandbox s.args.q (world_in s (there s)) in
    subst (λ (x : Slot). backing_end (backing_at x) * 256 ≤ length s.args.image.now) (sym (slot_is c (there s) (its s)))
    (backing-there s.args.image.now own.rec.present (asked s).ready.sound.present (s.args.q.p1 / 256))

-- ---- the needs

cast-s : tie.Need-overflow_cast-s
cast-s c = let row = (asked c.before.before.before.before).row in search rules

cast-t21 : tie.Need-overflow_cast-number
cast-t21 c = search rules

div-t22 : tie.Need-nonzero_div-number
div-t22 c = search rules

cast-t23 : tie.Need-overflow_cast-number-2
cast-t23 c = search rules

front-requires : tie.Need-front-front-requires
front-requires c κs = let s = argued c in ((asked s).row, (small s, (asked s).filed.entries))

same_length : tie.Need-shape_of-table-then-front-ne0
same_length c = search rules

returns : tie.Need-returns-then-front-ne0
returns c row a =
    let s = fronted c.before in
    rw (same-sandbox s row a)
    (touch-kept s.args.image.now s.args.q (world_in s row) a.1 s.requires.0 (λ z. c.if-front-ne0.true (c.front-front.ensures ∙ z)))

give-up-requires : tie.Need-give_up-given-requires
give-up-requires c κs =
    let bared = c.before in
    let s = bare bared in
    let row = there s in
    ((asked s).row, ((asked s).filed.entries, rw (same-sandbox s row (its s)) ((asked s).fits s.requires.0 (no_front bared row))))

cast-frames : tie.Need-overflow_cast-frames
cast-frames c = omega (arith, (asked (bare (spared c.before.before))).filed.few)

unheld-frame-requires : tie.Need-unheld_frame-f-requires
unheld-frame-requires c κs =
    let g = c.before.before in
    let s = bare (spared g) in
    let row = there s in (
      (asked s).filed.few,
      frame-there s.args.image.now s.args.q (world_in s row) (asked s) s.requires.0 (no_front (spared g) row) g.give_up-given.result
          (gave g row (its s)),
    )

slot-requires : tie.Need-slot-slot-requires
slot-requires c κs =
    let s = bare (spared (framed c.before)) in
    let ready = (asked s).ready in
    let own = own_sandbox s.args.q (world_in s (there s)) in (
      rw (same-sandbox s (there s) (its s)) (near (pages_in (length s.args.image.now)) own.rec.present ready.sound.present ready.few),
      small s,
    )

take-requires : tie.Need-take-h-requires
take-requires c κs =
    let found = c.before.before in
    let s = behind found in
    let low = (looked found).unheld_frame-f.ensures.0 in
    let filed = (asked s).filed in (
      record { row = (asked s).row; inside = small s; backed = backing-here found },
      (
        filed-ranged 256 (frames_of (world_in s (there s))) (store_in s) filed,
        (omega (arith, low, filed.few), omega (arith, low, filed.pages)),
      ),
    )

same-length-2 : tie.Need-shape_of-pool
same-length-2 c = search rules

same-length-3 : tie.Need-shape_of-table
same-length-3 c = search rules

returns-2 : tie.Need-returns
returns-2 c row h =
    let taken = c.before.before.before.before in
    let found = taken.before.before.before in
    let s = behind found in
    let a = s.args in
    let w = world_in s row in
    let g = framed (looked found) in
    let f = (looked found).unheld_frame-f in
    let front = front_of a.q.sandbox (page_of a.q) in
    touch-made a.image.now a.q w h.1 s.requires.0 _ g.give_up-given.result f.result.0 (no_front (spared g) row) (gave g row h)
    f.ensures.0 f.ensures.1.0 f.ensures.1.1
    (taken.take-h.ensures ∙ ap (λ (bytes : List ℕ). take 256 front f.result.0 bytes w.store)
    (under-is a.image.now w.store (own_sandbox a.q w).rec a.q.sandbox _ found.slot-slot.result (slot_is found row h)))

pub touch_spec : {M : Type 1} → statement M
touch_spec =
    tie.close
    (tie.spec
    cast-s
    cast-t21
    div-t22
    cast-t23
    front-requires
    same_length
    returns
    give-up-requires
    cast-frames
    unheld-frame-requires
    slot-requires
    take-requires
    same-length-2
    same-length-3
    returns-2)
