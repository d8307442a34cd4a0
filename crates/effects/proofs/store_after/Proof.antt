-- A map and a write leave what they say of the store and the runs, and so do the calls that take no frame.
use mathlib.Core.Path.{◌≡◌}
use mathlib.Core.List.{List}
use borrow.Author.Tests.{ne_eqb}
use Rattle.interface.specs.Requests.{write_code}
use Rattle.table.specs.Store.{Store, kept}
use Rattle.table.proofs.FiledLaws.{filed-ranged}
use Rattle.state.specs.declared.sandbox.Sandbox.{Sandbox}
use Rattle.state.specs.World.{World, frames_of}
use Rattle.memory.specs.Parts.{own_sandbox, Asked, AskedOf}
use Rattle.memory.proofs.MemoryLaws.{mapped, stepped-none}
use borrow.Author.Rules.{rules}
use Rattle.effects.proofs.store_after.Statement.{statement}
use Rattle.effects.proofs.store_after.Tie as tie

-- ---- what is handed in, and a row of sandboxes from which it is

abbrev store_in : tie.Start → Store
store_in s = kept s.args.all.held s.args.pool.now s.args.table.now

abbrev world_in : tie.Start → List Sandbox → World
world_in s row = record { sandboxes = row; store = store_in s }

abbrev Row : tie.Start → List Sandbox → Type 0
Row s row = AskedOf s.args.image.now s.args.q s.args.b s.args.all (store_in s) row

abbrev there : tie.Start → List Sandbox
there s = s.requires.1.0

abbrev its : (s : tie.Start) → Row s (there s)
its s = s.requires.1.1

abbrev asked : (s : tie.Start) → Asked s.args.image.now s.args.q (world_in s (there s))
asked s = (its s).1

same-sandbox : (s : tie.Start) (row : List Sandbox) → Row s row → s.args.b ≡ own_sandbox s.args.q (world_in s row)
same-sandbox s row a = a.0.own

-- ---- where each arm starts

abbrev behind : tie.After-held-1 → tie.Start
behind c = c.before.before.before.before

abbrev mapping : tie.After-map-arg-1 → tie.In-2
mapping c = c.before

abbrev neither : tie.After-without_frames-arg-in_default-1 → tie.In_default
neither c = c.before.before

-- ---- the needs

map-requires : tie.Need-map-requires
map-requires c κs =
    let arm = mapping c in
    let s = behind arm.before in
    let a = asked s in (
      arm.in-2.is,
      (a.row, (a.fit, rw (same-sandbox s (there s) (its s)) ((_, a.ready), (a.mapped arm.in-2.is, a.filed.entries)))),
    )

write-requires : tie.Need-write-requires
write-requires c κs = (c.in-6.is, (behind c.before.before.before).requires.1)

without-frames-requires : tie.Need-without_frames-requires
without-frames-requires c κs =
    let arm = neither c in
    let s = behind arm.before in
    let a = asked s in
    let ranged = filed-ranged 256 (frames_of (world_in s (there s))) (store_in s) a.filed in
    (arm.in_default.in_default-own.rest.0.1, (arm.in_default.in_default-own.rest.1, (s.requires.0, (a.row, (a.fit, (rw (same-sandbox s (there s) (its s)) a.ready, ranged))))))

same_length : tie.Need-shape_of-table-in-2
same_length c = search rules

returns : tie.Need-returns-in-2
returns c row a =
    let left = c.before.before in
    let arm = mapping left.before in
    let s = behind arm.before in
    mapped s.args.image.now s.args.q (world_in s row) a.1 _ _ arm.in-2.is
    (rw (← same-sandbox s row a) (left.map.ensures.0 s.args.pool.now)) (rw (← same-sandbox s row a) left.map.ensures.1)

same-length-2 : tie.Need-shape_of-pool-in-6
same-length-2 c = search rules

same-length-3 : tie.Need-shape_of-table-in-6
same-length-3 c = search rules

returns-2 : tie.Need-returns-in-6
returns-2 c row a = c.write.ensures row a

same-length-4 : tie.Need-shape_of-pool-in_default
same-length-4 c = search rules

same-length-5 : tie.Need-shape_of-table-in_default
same-length-5 c = search rules

returns-3 : tie.Need-returns-in_default
returns-3 c row a =
    let left = c.before.before.before.before in
    let arm = neither left.before in
    let s = behind arm.before in
    stepped-none s.args.image.now s.args.q (world_in s row) _ _ (ne_eqb s.args.q.code write_code arm.in_default.in_default-own.rest.1)
    (rw (← same-sandbox s row a) left.without_frames.ensures)

pub store_after_spec : {M : Type 1} → statement M
store_after_spec =
    tie.close
    (tie.spec
    map-requires
    write-requires
    without-frames-requires
    same_length
    returns
    same-length-2
    same-length-3
    returns-2
    same-length-4
    same-length-5
    returns-3)
