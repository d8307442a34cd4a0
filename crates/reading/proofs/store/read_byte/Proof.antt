-- One byte of a page, by where it stands: in the front frame, in the back frame of a committed page, or in the backing.
use mathlib.Core.List.{List}
use mathlib.Core.Path.{◌≡◌, refl, ap, ◌∙◌}
use mathlib.Core.Bool.{Bool}
use Prim.Native.Nat.{ℕ, ◌*◌, ◌≤◌}
use native.Mathlib.Omega.{arith}
use borrow.Author.Rules.{rules}
use lib.ListN.{length, get_or}
use Rattle.basics.specs.Choice.{◌when◌else◌}
use Rattle.interface.specs.Slots.{is_committed, backing_at}
use Rattle.frames.specs.declared.Held.{Held}
use Rattle.pages.specs.Parts.{frame}
use Rattle.table.specs.Store.{Store, kept}
use Rattle.table.specs.Backing.{backing_page}
use Rattle.table.specs.Virtual.{front_at, back_at}
use Rattle.table.proofs.PageLaws.{few-if, room-if, reads-front, reads-back, reads-backing}
use Rattle.reading.proofs.store.read_byte.Statement.{statement}
use Rattle.reading.proofs.store.read_byte.Tie as tie

-- ---- what is handed in

abbrev store_in : tie.Start → Held → Store
store_in s h = kept h s.args.pool.now s.args.table.now

-- whether the page is committed, and the bytes of its backing
abbrev committed : tie.Start → Bool
committed s = is_committed s.args.page.slot

abbrev backing : tie.Start → List ℕ
backing s = backing_page s.args.image.now (backing_at s.args.page.slot)

-- ---- what is known behind each entry

abbrev fronted : tie.After-front-front → tie.Start
fronted c = c.before.before.before.before.before

room-front : (c : tie.After-front-front) → c.front-front.result * 256 ≤ length (fronted c).args.pool.now
room-front c = let s = fronted c in omega (arith, c.front-front.ensures, s.requires.1.room (front_at s.args.page))

abbrev bare : tie.After-back_if-under → tie.After-front-front
bare c = c.before.before.before.before

abbrev behind : tie.After-back_if-under → tie.Start
behind c = fronted (bare c)

under-is : (c : tie.After-back_if-under) → let s = behind c in
    c.back_if-under.result ≡ (get_or s.args.table.now (back_at s.args.page) 0 when committed s else 0)
under-is c =
    let s = behind c in
    c.back_if-under.ensures
    ∙ ap (λ (b : Bool). get_or s.args.table.now (back_at s.args.page) 0 when b else 0) c.is_committed.ensures

room-under : (c : tie.After-back_if-under) → c.back_if-under.result * 256 ≤ length (behind c).args.pool.now
room-under c =
    let s = behind c in omega (arith, under-is c, room-if 256 _ _ s.requires.1 (back_at s.args.page) (committed s))

-- ---- the needs

front-requires : tie.Need-front-front-requires
front-requires c κs = search rules

frame-of-requires : tie.Need-frame_of-requires
frame-of-requires c κs = (omega arith, rw c.front-front.ensures ((fronted c.before).requires.1.few _))

read-byte-requires : tie.Need-read_byte-requires
read-byte-requires c κs = let room = room-front c.before.before in omega (arith, c.frame_of.ensures)

returns : tie.Need-returns-then-front-ne0
returns c =
    let front = c.before.before.before in
    let s = fronted front in
    λ h. c.read_byte.ensures ∙ ap (λ (page : List ℕ). get_or page s.args.offset 0)
    (ap (frame 256 s.args.pool.now) c.frame_of.ensures
    ∙ reads-front 256 (store_in s h) (front_at s.args.page) (back_at s.args.page) (backing s) (committed s) front.front-front.result _
    front.front-front.ensures refl c.if-front-ne0.true)

is-committed-requires : tie.Need-is_committed-requires
is-committed-requires c κs = search rules

back-if-requires : tie.Need-back_if-under-requires
back-if-requires c κs = search rules

frame-of-requires-2 : tie.Need-frame_of-requires-then-under-ne0
frame-of-requires-2 c κs =
    let s = behind c.before in
    (omega arith, rw (under-is c.before) (few-if 256 _ _ s.requires.1 _ (committed s)))

read-byte-requires-2 : tie.Need-read_byte-requires-then-under-ne0
read-byte-requires-2 c κs = let room = room-under c.before.before in omega (arith, c.frame_of-then-under-ne0.ensures)

returns-2 : tie.Need-returns-then-under-ne0
returns-2 c =
    let under = c.before.before.before in
    let front = bare under in
    let s = fronted front in
    λ h. c.read_byte-then-under-ne0.ensures ∙ ap (λ (page : List ℕ). get_or page s.args.offset 0)
    (ap (frame 256 s.args.pool.now) c.frame_of-then-under-ne0.ensures
    ∙ reads-back 256 (store_in s h) (front_at s.args.page) (back_at s.args.page) (backing s) (committed s) front.front-front.result
    under.back_if-under.result front.front-front.ensures (under-is under) under.if-front-ne0.false c.if-under-ne0.true)

backing-at-requires : tie.Need-backing_at-requires
backing-at-requires c κs = search rules

read-byte-requires-3 : tie.Need-read_byte-requires-2
read-byte-requires-3 c κs = rw c.backing_at.ensures (behind c.before.before).requires.0.backed

returns-3 : tie.Need-returns
returns-3 c =
    let under = c.before.before.before in
    let front = bare under in
    let s = fronted front in
    λ h. c.read_byte-2.ensures ∙ ap (λ (page : List ℕ). get_or page s.args.offset 0)
    (ap (backing_page s.args.image.now) c.backing_at.ensures
    ∙ reads-backing 256 (store_in s h) (front_at s.args.page) (back_at s.args.page) (backing s) (committed s) front.front-front.result
    under.back_if-under.result front.front-front.ensures (under-is under) under.if-front-ne0.false c.if-under-ne0.false)

pub read_byte_spec : {M : Type 1} → statement M
read_byte_spec =
    tie.close
    (tie.spec
    front-requires
    frame-of-requires
    read-byte-requires
    returns
    is-committed-requires
    back-if-requires
    frame-of-requires-2
    read-byte-requires-2
    returns-2
    backing-at-requires
    read-byte-requires-3
    returns-3)
