-- A byte is stored into the front that the page then has.
use Prim.Native.Nat.{◌/◌, ◌<◌}
use native.Mathlib.Omega.{arith}
use mathlib.Core.List.{List}
use Rattle.table.specs.Store.{Store, kept}
use Rattle.state.specs.declared.sandbox.Sandbox.{Sandbox}
use Rattle.state.specs.World.{World}
use Rattle.memory.specs.Parts.{Asked}
use Rattle.rules.proofs.FitLaws.{page-small}
use Rattle.memory.proofs.MemoryLaws.{touch-ranged, written}
use borrow.Author.Rules.{rules}
use Rattle.writing.proofs.write.Statement.{statement}
use Rattle.writing.proofs.write.Tie as tie

abbrev store_in : tie.Start → Store
store_in s = kept s.args.all.held s.args.pool.now s.args.table.now

abbrev world_in : tie.Start → List Sandbox → World
world_in s row = record { sandboxes = row; store = store_in s }

-- a row from which the sandbox is
abbrev there : tie.Start → List Sandbox
there s = s.requires.1.0

abbrev asked : (s : tie.Start) → Asked s.args.image.now s.args.q (world_in s (there s))
asked s = s.requires.1.1.1

small : (s : tie.Start) → s.args.q.p1 / 256 < 64
small s = page-small s.args.q.p1 ((asked s).fit.written s.requires.0).0

-- behind the touch, and where the byte is stored
abbrev behind : tie.After-touch-left → tie.Start
behind c = c.before.before.before.before.before.before

abbrev touched : tie.After-struct_known-4-1 → tie.After-touch-left
touched c = c.before.before.before.before.before.before.before.before.before

-- ---- the needs

touch-requires : tie.Need-touch-left-requires
touch-requires c κs = search rules

cast-s : tie.Need-overflow_cast-s
cast-s c = search rules

cast-store-byte : tie.Need-overflow_cast-page
cast-store-byte c = search rules

div-store-byte : tie.Need-nonzero_div-page
div-store-byte c = search rules

cast-store-byte-2 : tie.Need-overflow_cast-page-2
cast-store-byte-2 c = search rules

cast-store-byte-3 : tie.Need-overflow_cast-store_byte
cast-store-byte-3 c = search rules

rem-store-byte : tie.Need-nonzero_rem-q
rem-store-byte c = search rules

cast-store-byte-4 : tie.Need-overflow_cast-q
cast-store-byte-4 c = search rules

cast-store-byte-5 : tie.Need-overflow_cast-q-2
cast-store-byte-5 c = let s = behind (touched c) in omega (arith, ((asked s).fit.written s.requires.0).1)

store-byte-requires : tie.Need-store_byte-requires
store-byte-requires c κs =
    let touching = touched c in
    let s = behind touching in
    let row = there s in
    let left = touching.touch-left.ensures row s.requires.1.1 in
    let ranged = touch-ranged s.args.image.now s.args.q (world_in s row) (asked s) s.requires.0 _ _ (small s) left in
    ((asked s).row, (small s, ranged))

same_length : tie.Need-shape_of-pool
same_length c = search rules

same-length-2 : tie.Need-shape_of-table
same-length-2 c = search rules

returns : tie.Need-returns
returns c row a =
    let stored = c.before.before in
    let touch = (touched stored.before).touch-left in
    let s = behind (touched stored.before) in
    written s.args.image.now s.args.q (world_in s row) _ _ touch.result.runs (touch.ensures row a) s.requires.0
    (stored.store_byte.ensures touch.result.held)

pub write_spec : {M : Type 1} → statement M
write_spec =
    tie.close
    (tie.spec
    touch-requires
    cast-s
    cast-store-byte
    div-store-byte
    cast-store-byte-2
    cast-store-byte-3
    rem-store-byte
    cast-store-byte-4
    cast-store-byte-5
    store-byte-requires
    same_length
    same-length-2
    returns)
