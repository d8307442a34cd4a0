-- Each call leaves what it says of the store and the runs; the others leave both.
use native.Mathlib.Omega.{arith}
use Rattle.table.specs.Store.{Store, kept}
use Rattle.memory.proofs.MemoryLaws.{unmapped, copied, left_alone}
use borrow.Author.Rules.{rules}
use Rattle.effects.proofs.without_frames.Statement.{statement}
use Rattle.effects.proofs.without_frames.Tie as tie

abbrev store_in : tie.Start → Store
store_in s = kept s.args.held s.args.pool.now s.args.table.now

-- ---- where each arm starts

abbrev behind : tie.After-runs-1 → tie.Start
behind c = c.before.before.before.before.before

abbrev freeing : tie.After-struct_known-in-3-1 → tie.In-3
freeing c = c.before.before.before

abbrev copying : tie.After-move_fronts-arg-1 → tie.In-7
copying c = c.before

-- ---- the needs

cast-s : tie.Need-overflow_cast-s
cast-s c = search rules

cast-t16 : tie.Need-overflow_cast-q
cast-t16 c =
    let arm = freeing c in
    omega (arith, (behind arm.before).requires.1.1.1.1.0.unmapped arm.in-3.is)

cast-free-range : tie.Need-overflow_cast-q-in-3
cast-free-range c =
    let arm = freeing c.before in
    omega (arith, (behind arm.before).requires.1.1.1.1.0.unmapped arm.in-3.is)

free-range-requires : tie.Need-free_range-h-requires
free-range-requires c κs =
    let arm = freeing c.before in
    let s = behind arm.before in
    (s.requires.1.1.1.0, (s.requires.1.1.1.1.0.unmapped arm.in-3.is, s.requires.1.1.1.1.1.1))

move-fronts-requires : tie.Need-move_fronts-requires
move-fronts-requires c κs = search rules

same_length : tie.Need-shape_of-pool
same_length c = search rules

same-length-2 : tie.Need-shape_of-table-in-3
same-length-2 c = search rules

returns : tie.Need-returns-in-3
returns c =
    let freed = c.before.before.before.before in
    let arm = freeing freed.before.before in
    let s = behind arm.before in
    unmapped s.args.image.now s.args.q s.args.b (store_in s) _ arm.in-3.is freed.free_range-h.ensures

same-length-3 : tie.Need-shape_of-table-in-7
same-length-3 c = search rules

returns-2 : tie.Need-returns-in-7
returns-2 c =
    let moved = c.before.before in
    let arm = copying moved.before in
    let s = behind arm.before in
    copied s.args.image.now s.args.q s.args.b (store_in s) _ arm.in-7.is
    (moved.move_fronts.ensures s.args.held s.args.pool.now)

returns-3 : tie.Need-returns-in_default
returns-3 c =
    let s = behind c.before in
    let none = c.in_default.in_default-own.rest in
    left_alone s.args.image.now s.args.q s.args.b (store_in s) s.requires.0 none.0.1 s.requires.1.0 none.1 s.requires.1.1.0

pub without_frames_spec : {M : Type 1} → statement M
without_frames_spec =
    tie.close
    (tie.spec
    cast-s
    cast-t16
    cast-free-range
    free-range-requires
    move-fronts-requires
    same_length
    same-length-2
    returns
    same-length-3
    returns-2
    returns-3)
