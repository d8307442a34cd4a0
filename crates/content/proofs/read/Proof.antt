-- The byte read of the page with what stands there is the byte that the page of the sandbox reads.
use mathlib.Core.Path.{ap, ◌∙◌}
use mathlib.Core.List.{List}
use Prim.Native.Nat.{ℕ, ◌/◌, ◌<◌}
use lib.ListN.{length, get_or}
use borrow.Author.Rules.{rules}
use Rattle.interface.specs.Requests.{offset_of}
use Rattle.interface.specs.Numbers.{pages_in}
use Rattle.table.specs.Store.{kept}
use Rattle.areas.specs.Areas.{Near}
use Rattle.areas.proofs.FormedLaws.{near}
use Rattle.rules.proofs.FitLaws.{page-small}
use Rattle.content.proofs.ReadingLaws.{backing-there, read_is}
use Rattle.content.proofs.read.Statement.{statement}
use Rattle.content.proofs.read.Tie as tie

-- the present areas, and the page of the address
near-present : (s : tie.Start) → Near s.args.b.present.list
near-present s =
    let ready = s.requires.1.1.1.0 in near (pages_in (length s.args.image.now)) s.args.b.present ready.sound.present ready.few

small : (s : tie.Start) → s.args.q.p1 / 256 < 64
small s = page-small s.args.q.p1 (s.requires.1.1.0.read s.requires.0)

abbrev behind : tie.After-slot-slot → tie.Start
behind c = c.before.before.before.before.before.before

-- ---- the needs

cast-read-byte : tie.Need-overflow_cast-number
cast-read-byte c = search rules

div-read-byte : tie.Need-nonzero_div-number
div-read-byte c = search rules

cast-read-byte-2 : tie.Need-overflow_cast-number-2
cast-read-byte-2 c = search rules

slot-requires : tie.Need-slot-slot-requires
slot-requires c κs =
    let s = c.before.before.before.before.before in
    (near-present s, small s)

cast-read-byte-3 : tie.Need-overflow_cast-page
cast-read-byte-3 c = search rules

cast-read-byte-4 : tie.Need-overflow_cast-read_byte
cast-read-byte-4 c = search rules

rem-read-byte : tie.Need-nonzero_rem-q
rem-read-byte c = search rules

cast-read-byte-5 : tie.Need-overflow_cast-q
cast-read-byte-5 c = search rules

read-byte-requires : tie.Need-read_byte-requires
read-byte-requires c κs =
    let found = c.before.before in
    let s = behind found in
    let there = backing-there s.args.image.now s.args.b.present s.requires.1.1.1.0.sound.present (s.args.q.p1 / 256) in
    (record { row = s.requires.1.0; inside = small s; backed = rw found.slot-slot.ensures there }, s.requires.1.1.1.1)

returns : tie.Need-returns
returns c = λ h.
    let found = c.before.before.before in
    let a = (behind found).args in
    c.read_byte.ensures h ∙ ap (λ (page : List ℕ). get_or page (offset_of a.q) 0)
    (read_is a.image.now (kept h a.pool.now a.table.now) a.b a.q.sandbox _ found.slot-slot.result found.slot-slot.ensures)

pub read_spec : {M : Type 1} → statement M
read_spec =
    tie.close
    (tie.spec
    cast-read-byte
    div-read-byte
    cast-read-byte-2
    slot-requires
    cast-read-byte-3
    cast-read-byte-4
    rem-read-byte
    cast-read-byte-5
    read-byte-requires
    returns)
