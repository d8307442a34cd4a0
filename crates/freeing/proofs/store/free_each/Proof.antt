-- The first i entries have given up their pages; the entries still lie in the pool.
use mathlib.Core.Path.{◌≡◌, refl, ap, ◌∙◌}
use Prim.Native.Nat.{◌≤◌, ◌-◌, ◌+◌}
use native.Mathlib.Omega.{arith}
use borrow.Author.Rules.{rules}
use lib.ListN.{length}
use Rattle.table.specs.Store.{kept, Ranged, free_to}
use Rattle.table.proofs.FreeLaws.{free_more, free-kept-as}
use Rattle.freeing.proofs.store.free_each.Statement.{statement}
use Rattle.freeing.proofs.store.free_each.Tie as tie

abbrev invariant-loop : tie.invariant-loop-i
invariant-loop pool₀ table₀ at n h₀ i₀ pool table h i = (i ≤ n) × (length pool ≡ length pool₀) ×
    (length table ≡ length table₀) × Ranged 256 pool table × (kept h pool table ≡ free_to 256 at (kept h₀ pool₀ table₀) i)

abbrev decreases-loop : tie.decreases-loop-i
decreases-loop pool₀ table₀ at n h₀ i₀ pool table h i = n - i

-- where an entry is freed in a turn
abbrev turning : tie.After-free_entry-arg-in-loop-i-1 invariant-loop decreases-loop → tie.In-loop-i invariant-loop decreases-loop
turning c = c.before.before

abbrev behind : tie.In-loop-i invariant-loop decreases-loop → tie.Start invariant-loop decreases-loop
behind c = c.before.before.before.before

loop-holds : tie.Need-loop-i-init invariant-loop decreases-loop
unfolding free_to
loop-holds c = (search rules, refl, refl, c.requires.1, refl)

cast-free-entry : tie.Need-overflow_cast-i invariant-loop decreases-loop
cast-free-entry c = search rules

add-free-entry : tie.Need-overflow_add-at invariant-loop decreases-loop
add-free-entry c = search rules

free-entry-requires : tie.Need-free_entry-h-requires invariant-loop decreases-loop
free-entry-requires c κs = (omega arith, (turning c).loop-i.invariant.3)

add-i : tie.Need-overflow_step-i invariant-loop decreases-loop
add-i c = search rules

loop-less : tie.Need-loop-i-smaller invariant-loop decreases-loop
loop-less c = search rules

loop-again : tie.Need-loop-i-preserved invariant-loop decreases-loop
loop-again c =
    let freed = c.before.before.before.before in
    let turn = turning freed.before in
    let l = turn.loop-i in
    let at = (behind turn).args.at in
    let f = freed.free_entry-h in
    let r = kept l.h l.pool l.table in
    let q = kept f.result f.new.pool f.new.table in
    let k = free-kept-as 256 (at + l.i) r q f.ensures l.invariant.3 in
    (search rules, k.pool ∙ l.invariant.1, k.table ∙ l.invariant.2, k.ranged, free_more 256 at l.i _ r q l.invariant.4 f.ensures)

same_length : tie.Need-shape_of-pool invariant-loop decreases-loop
same_length c = search rules

same-length-2 : tie.Need-shape_of-table invariant-loop decreases-loop
same-length-2 c = search rules

returns : tie.Need-returns invariant-loop decreases-loop
returns c =
    let at = c.args.at in
    c.loop-i.invariant.4 ∙ ap (free_to 256 at _) (omega arith)

pub free_each_spec : {M : Type 1} → statement M
free_each_spec =
    tie.close
    (tie.spec
    invariant-loop
    decreases-loop
    loop-holds
    cast-free-entry
    add-free-entry
    free-entry-requires
    add-i
    loop-less
    loop-again
    same_length
    same-length-2
    returns)
