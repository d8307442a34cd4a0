-- The first 8 k entries have given up their pages, eight more at each turn; the others, fewer than eight, do so at the end.
use mathlib.Core.Path.{◌≡◌, refl, ap, ◌∙◌}
use Prim.Native.Nat.{ℕ, ◌+◌, ◌-◌, ◌/◌, ◌≤◌}
use native.Mathlib.Omega.{arith}
use borrow.Author.Rules.{rules}
use lib.ListN.{length}
use Rattle.table.specs.Store.{Store, kept, Ranged, free_to}
use Rattle.table.proofs.GroupLaws.{of_groups, group-in, all-groups}
use Rattle.table.proofs.FreeLaws.{free_to-join, free_to-kept-as}
use Rattle.freeing.proofs.store.free_entries.Statement.{statement}
use Rattle.freeing.proofs.store.free_entries.Tie as tie

abbrev invariant-loop : tie.invariant-loop-k
invariant-loop pool₀ table₀ at n groups h₀ k₀ pool table h k = (k ≤ n / 8) × (length pool ≡ length pool₀) ×
    (length table ≡ length table₀) × Ranged 256 pool table × (kept h pool table ≡ free_to 256 at (kept h₀ pool₀ table₀) (of_groups k))

abbrev decreases-loop : tie.decreases-loop-k
decreases-loop pool₀ table₀ at n groups h₀ k₀ pool table h k = n / 8 - k

abbrev behind : tie.At-loop-k invariant-loop decreases-loop → tie.Start invariant-loop decreases-loop
behind c = c.before.before.before

loop-holds : tie.Need-loop-k-init invariant-loop decreases-loop
unfolding free_to
loop-holds c = (omega arith, refl, refl, c.requires.1.0, refl)

mul-i : tie.Need-overflow_mul-i invariant-loop decreases-loop
mul-i c = let s = behind c.before in omega (arith, group-in s.args.n c.loop-k.k c.loop-k-test.true, s.requires.1.1)

cast-free-group : tie.Need-overflow_cast-i invariant-loop decreases-loop
cast-free-group c = search rules

add-free-group : tie.Need-overflow_add-at invariant-loop decreases-loop
add-free-group c =
    let turn = c.before.before in
    let s = behind turn.before in
    omega (arith, group-in s.args.n turn.loop-k.k turn.loop-k-test.true, s.requires.0)

free-group-requires : tie.Need-free_group-h-requires invariant-loop decreases-loop
free-group-requires c κs =
    let turn = c.before.before in
    let s = behind turn.before in
    (omega (arith, group-in s.args.n turn.loop-k.k turn.loop-k-test.true, s.requires.0), turn.loop-k.invariant.3)

add-k : tie.Need-overflow_step-k invariant-loop decreases-loop
add-k c = search rules

loop-less : tie.Need-loop-k-smaller invariant-loop decreases-loop
loop-less c = search rules

loop-again : tie.Need-loop-k-preserved invariant-loop decreases-loop
loop-again c =
    let freed = c.before.before.before.before in
    let turn = freed.before.before.before in
    let loop = turn.before in
    let l = loop.loop-k in
    let at = (behind loop).args.at in
    let i : ℕ = of_groups l.k in
    let next : i + 8 ≡ of_groups (l.k + 1) = omega arith in
    let f = freed.free_group-h in
    let r : Store = kept l.h l.pool l.table in
    let q : Store = kept f.result f.new.pool f.new.table in
    let k = free_to-kept-as 256 (at + i) r q 8 f.ensures l.invariant.3 in (
      omega (arith, turn.loop-k-test.true),
      k.pool ∙ l.invariant.1,
      k.table ∙ l.invariant.2,
      k.ranged,
      f.ensures ∙ ap (λ x. free_to 256 (at + i) x 8) l.invariant.4 ∙ free_to-join 256 at _ i 8 ∙ ap (free_to 256 at _) next,
    )

mul-done : tie.Need-overflow_mul-done invariant-loop decreases-loop
mul-done c = omega (arith, all-groups (behind c.before).args.n, (behind c.before).requires.1.1)

cast-free-each : tie.Need-overflow_cast-done invariant-loop decreases-loop
cast-free-each c = search rules

add-free-each : tie.Need-overflow_add-at-2 invariant-loop decreases-loop
add-free-each c = let loop = c.before.before.before in omega (arith, all-groups (behind loop).args.n, (behind loop).requires.0)

sub-free-each : tie.Need-overflow_sub-n invariant-loop decreases-loop
sub-free-each c = let loop = c.before.before.before in omega (arith, all-groups (behind loop).args.n)

free-each-requires : tie.Need-free_each-requires invariant-loop decreases-loop
free-each-requires c κs =
    let loop = c.before.before.before in
    (omega (arith, all-groups (behind loop).args.n, (behind loop).requires.0), loop.loop-k.invariant.3)

same_length : tie.Need-shape_of-pool invariant-loop decreases-loop
same_length c = search rules

same-length-2 : tie.Need-shape_of-table invariant-loop decreases-loop
same-length-2 c = search rules

returns : tie.Need-returns invariant-loop decreases-loop
returns c =
    let freed = c.before.before.before.before in
    let over = freed.before.before.before in
    let loop = over.before in
    let l = loop.loop-k in
    let a = (behind loop).args in
    let done : ℕ = of_groups (a.n / 8) in
    let left : ℕ = a.n - done in
    let st : Store = kept a.held a.pool.now a.table.now in
    let e : l.k ≡ a.n / 8 = omega (arith, l.invariant.0, over.loop-k-test.false) in
    let all : done + left ≡ a.n = omega (arith, all-groups (behind loop).args.n) in
    freed.free_each.ensures ∙ ap (λ x. free_to 256 (a.at + done) x left) (l.invariant.4 ∙ ap (λ (k : ℕ). free_to 256 a.at st (of_groups k)) e)
    ∙ free_to-join 256 a.at st done left ∙ ap (free_to 256 a.at st) all

pub free_entries_spec : {M : Type 1} → statement M
free_entries_spec =
    tie.close
    (tie.spec
    invariant-loop
    decreases-loop
    loop-holds
    mul-i
    cast-free-group
    add-free-group
    free-group-requires
    add-k
    loop-less
    loop-again
    mul-done
    cast-free-each
    add-free-each
    sub-free-each
    free-each-requires
    same_length
    same-length-2
    returns)
