-- The pages before i are restored, and those of them that differed are counted: groups with a front, and past those without.
use mathlib.Core.Path.{◌≡◌, refl, ◌∙◌}
use mathlib.Core.Bool.{true}
use Prim.Native.Nat.{ℕ, ◌+◌, ◌-◌, ◌≤◌, ◌<◌}
use native.Mathlib.Omega.{arith}
use native.Mathlib.Decide.{dec_lt}
use borrow.Author.Rules.{rules}
use borrow.Author.Tests.{lt-ltb, le-ltb}
use lib.Dec.{ltb}
use lib.ListN.{length}
use Rattle.basics.specs.Choice.{◌when◌else◌}
use Rattle.interface.specs.declared.page.Backing.{Backing}
use Rattle.interface.specs.Slots.{advance}
use Rattle.frames.specs.declared.Held.{Held}
use Rattle.frames.specs.Frames.{none_held}
use Rattle.table.specs.Store.{Store, kept, Ranged}
use Rattle.rewound_store.proofs.RunLaws.{rewind_to-kept-as}
use Rattle.restoring.specs.Restored.{RestoredTo}
use Rattle.restoring.proofs.ChangedLaws.{changed-few}
use Rattle.restoring.proofs.BackedLaws.{backed-part, none-restored, restored-on, restored-past}
use Rattle.restoring.proofs.restore_pages.Statement.{statement}
use Rattle.restoring.proofs.restore_pages.Tie as tie

abbrev invariant-loop : tie.invariant-loop-i
invariant-loop pool₀ table image at pages backing changed₀ i₀ pool changed i = (i ≤ pages) × (length pool ≡ length pool₀) × Ranged 256 pool table
    × ((h : Held) → RestoredTo image backing at (kept h pool₀ table) (kept h pool table) changed i)

abbrev decreases-loop : tie.decreases-loop-i
decreases-loop pool₀ table image at pages backing changed₀ i₀ pool changed i = pages - i

abbrev behind : tie.At-loop-i invariant-loop decreases-loop → tie.Start invariant-loop decreases-loop
behind c = c.before.before.before.before.before

-- a group is of one page at least, and of no more than are left
few-of : (left n : ℕ) → n ≡ (left when ltb left 8 else 8) → 0 < left → (0 < n) × (n ≤ left) × (n ≤ 8)
few-of left n e l = go (dec_lt left 8)
  where
    go : Dec (left < 8) → (0 < n) × (n ≤ left) × (n ≤ 8)
    go (yes b) = let m : n ≡ left = e ∙ rw (lt-ltb left 8 b) in (omega arith, omega arith, omega arith)
    go (no b) = let m : n ≡ 8 = e ∙ rw (le-ltb left 8 (omega arith)) in (omega arith, omega arith, omega arith)

group : (c : tie.After-group_of-n invariant-loop decreases-loop) → let l = c.loop-i in let n = c.group_of-n.result in
    (0 < n) × (l.i + n ≤ (behind c.before.before).args.pages) × (n ≤ 8)
group c =
    let l = c.loop-i in
    let pages : ℕ = (behind c.before.before).args.pages in
    let f = few-of (pages - l.i) c.group_of-n.result c.group_of-n.ensures (omega (arith, c.loop-i-test.true)) in
    (f.0, omega (arith, f.1, c.loop-i-test.true), f.2)

next-front-requires : tie.Need-next_front-i-requires invariant-loop decreases-loop
next-front-requires c κs = let p = c.requires in (p.1.0.entries, (p.0, (p.1.1.1, omega arith)))

loop-holds : tie.Need-loop-i-init invariant-loop decreases-loop
loop-holds c =
    let s = c.before.before.before.before in
    let a = s.args in
    let st : Held → Store = λ h. kept h a.pool.now a.table.now in
    let next = c.next_front-i.ensures in (
      next.0.1,
      refl,
      s.requires.1.0,
      λ h. restored-past a.image.now a.backing a.at (st h) (st h) 0 0 _ (none-restored a.image.now a.backing a.at (st h)) (omega arith)
          next.1,
    )

sub-group-of : tie.Need-overflow_sub-pages invariant-loop decreases-loop
sub-group-of c = omega (arith, c.loop-i-test.true)

group-of-requires : tie.Need-group_of-n-requires invariant-loop decreases-loop
group-of-requires c κs = search rules

cast-restore-each : tie.Need-overflow_cast-i invariant-loop decreases-loop
cast-restore-each c = search rules

add-restore-each : tie.Need-overflow_add-at invariant-loop decreases-loop
add-restore-each c = let turn = c.before.before in omega (arith, (behind turn.before).requires.0, turn.loop-i-test.true)

advanced-requires : tie.Need-advanced-requires invariant-loop decreases-loop
advanced-requires c κs =
    let turn = c.before.before in
    omega (arith, (behind turn.before).requires.1.1.0.near, turn.loop-i-test.true)

restore-each-requires : tie.Need-restore_each-changed-requires invariant-loop decreases-loop
restore-each-requires c κs =
    let some = c.before.before in
    let l = some.loop-i in
    let s = behind some.before.before in
    let a = s.args in
    let n = group some in
    let part = backed-part a.image.now a.backing a.pages s.requires.1.1.0 l.i some.group_of-n.result n.1 in
    (omega (arith, s.requires.0, n.1), (l.invariant.2, (rw c.advanced.ensures part, omega (arith, n.2))))

add-changed : tie.Need-overflow_add-changed invariant-loop decreases-loop
add-changed c =
    let each = c.before.before in
    let some = each.before.before.before in
    let l = some.loop-i in
    let s = behind some.before.before in
    let a = s.args in
    let n = some.group_of-n.result in
    let st : Store = kept none_held a.pool.now a.table.now in
    let r : Store = kept none_held l.pool a.table.now in
    let so_far = changed-few a.image.now a.at (λ k. true) (advance a.backing) st l.i in
    let here = changed-few a.image.now (a.at + l.i) (λ k. true) (advance each.advanced.result) r n in
    omega (arith, (l.invariant.3 none_held).told, so_far, (each.restore_each-changed.ensures none_held).told, here, (group some).1, s.requires.1.1.1)

add-next-front : tie.Need-overflow_add-i invariant-loop decreases-loop
add-next-front c =
    let some = c.before.before.before.before.before in
    omega (arith, (group some).1, (behind some.before.before).requires.1.1.1)

next-front-requires-2 : tie.Need-next_front-i-requires-in-loop-i invariant-loop decreases-loop
next-front-requires-2 c κs =
    let some = c.before.before.before.before.before in
    let p = (behind some.before.before).requires in
    (p.1.0.entries, (p.0, (p.1.1.1, (group some).1)))

loop-less : tie.Need-loop-i-smaller invariant-loop decreases-loop
loop-less c =
    let some = c.before.before.before.before.before.before in
    omega (arith, (group some).0, (group some).1, c.next_front-i-in-loop-i.ensures.0.0, some.loop-i-test.true)

loop-again : tie.Need-loop-i-preserved invariant-loop decreases-loop
loop-again c =
    let each = c.before.before.before in
    let some = each.before.before.before in
    let l = some.loop-i in
    let s = behind some.before.before in
    let a = s.args in
    let n = some.group_of-n.result in
    let on : Backing = advance a.backing l.i in
    let st : Held → Store = λ h. kept h a.pool.now a.table.now in
    let r : Held → Store = λ h. kept h l.pool a.table.now in
    let q : Held → Store = λ h. kept h each.restore_each-changed.new.pool a.table.now in
    let d : ℕ = each.restore_each-changed.result in
    let here : (h : Held) → RestoredTo a.image.now on (a.at + l.i) (r h) (q h) d n =
    λ h. rw each.advanced.ensures at (each.restore_each-changed.ensures h) in
    let part = backed-part a.image.now a.backing a.pages s.requires.1.1.0 l.i n (group some).1 in
    let k =
    rewind_to-kept-as a.image.now (a.at + l.i) (λ j. true) (advance on) (r none_held) (q none_held) n (here none_held).left l.invariant.2 part.there in
    let next = c.next_front-i-in-loop-i.ensures in (
      next.0.1,
      k.pool ∙ l.invariant.1,
      k.ranged,
      λ h. restored-past a.image.now a.backing a.at (st h) (q h) _ _ _
          (restored-on a.image.now a.backing a.at (st h) (r h) (q h) l.changed d l.i n (l.invariant.3 h) (here h)) next.0.0 next.1,
    )

same_length : tie.Need-shape_of-pool invariant-loop decreases-loop
same_length c = search rules

returns : tie.Need-returns invariant-loop decreases-loop
returns c = λ h.
    let l = c.loop-i in
    let end : l.i ≡ (behind c.before).args.pages = omega (arith, l.invariant.0, c.loop-i-test.false) in
    rw end at (l.invariant.3 h)

pub restore_pages_spec : {M : Type 1} → statement M
restore_pages_spec =
    tie.close
    (tie.spec
    invariant-loop
    decreases-loop
    next-front-requires
    loop-holds
    sub-group-of
    group-of-requires
    cast-restore-each
    add-restore-each
    advanced-requires
    restore-each-requires
    add-changed
    add-next-front
    next-front-requires-2
    loop-less
    loop-again
    same_length
    returns)
