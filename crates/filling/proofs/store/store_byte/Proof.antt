-- Without a front nothing is done; else one byte of its frame is stored.
use mathlib.Core.Path.{sym, ◌∙◌}
use native.Mathlib.Omega.{arith}
use borrow.Author.Rules.{rules}
use Rattle.table.specs.Store.{kept, front_of, store_byte}
use Rattle.table.proofs.StoreLaws.{fill_none}
use Rattle.table.proofs.PageLaws.{store-some}
use Rattle.filling.proofs.store.store_byte.Statement.{statement}
use Rattle.filling.proofs.store.store_byte.Tie as tie

-- ---- what is known behind the front entry and its frame

abbrev behind : tie.After-front-front → tie.Start
behind c = c.before.before.before

abbrev framed : tie.After-frame_of → tie.After-front-front
framed c = c.before.before.before

abbrev stored : tie.After-store_byte → tie.After-frame_of
stored c = c.before

-- ---- the needs

front-requires : tie.Need-front-front-requires
front-requires c κs = search rules

returns : tie.Need-returns-then-front-eq0
unfolding store_byte
returns c = λ h. sym (fill_none 256 _ _ _ (sym c.front-front.ensures ∙ c.if-front-eq0.true))

frame-of-requires : tie.Need-frame_of-requires
frame-of-requires c κs =
    let front = c.before.before in
    (omega arith, rw front.front-front.ensures ((behind front).requires.1.1.few _))

store-byte-requires : tie.Need-store_byte-requires
store-byte-requires c κs =
    let front = framed c in
    let s = behind front in
    omega (arith, s.requires.1.1.room (front_of s.args.sandbox s.args.page.0), front.front-front.ensures, c.frame_of.ensures)

same_length : tie.Need-shape_of-pool
same_length c = search rules

returns-2 : tie.Need-returns
returns-2 c = λ h.
    let byte = c.before.before in
    let frame = stored byte in
    let front = framed frame in
    let a = (behind front).args in
    store-some 256 (front_of a.sandbox a.page.0) a.offset a.byte (kept h a.pool.now a.table.now) front.front-front.result
    frame.frame_of.result.0 byte.store_byte.new.pool front.front-front.ensures frame.if-front-eq0.false frame.frame_of.ensures
    byte.store_byte.ensures

pub store_byte_spec : {M : Type 1} → statement M
store_byte_spec =
    tie.close (tie.spec front-requires returns frame-of-requires store-byte-requires same_length returns-2)
