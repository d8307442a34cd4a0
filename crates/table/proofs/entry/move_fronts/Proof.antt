-- The first i fronts are moved, whatever marks and pool there are.
use mathlib.Core.List.{List}
use mathlib.Core.Path.{◌≡◌, refl, ap, ◌∙◌}
use Prim.Native.Nat.{ℕ, ◌≤◌, ◌-◌, ◌*◌}
use native.Mathlib.Omega.{arith}
use borrow.Author.Rules.{rules}
use lib.ListN.{length}
use Rattle.frames.specs.declared.Held.{Held}
use Rattle.table.specs.Store.{kept, move_to}
use Rattle.table.proofs.MoveLaws.{move-more}
use Rattle.table.proofs.entry.move_fronts.Statement.{statement}
use Rattle.table.proofs.entry.move_fronts.Tie as tie

abbrev invariant-loop : tie.invariant-loop-i
invariant-loop table₀ sandbox i₀ table i = (i ≤ 64) × (length table ≡ length table₀)
    × ((h : Held) (pool : List ℕ) → kept h pool table ≡ move_to (sandbox * 128) (kept h pool table₀) i)

abbrev decreases-loop : tie.decreases-loop-i
decreases-loop table₀ sandbox i₀ table i = 64 - i

loop-holds : tie.Need-loop-i-init invariant-loop decreases-loop
unfolding move_to
loop-holds c = (search rules, refl, λ h pool. refl)

move-front-requires : tie.Need-move_front-requires invariant-loop decreases-loop
move-front-requires c κs = search rules

add-i : tie.Need-overflow_step-i invariant-loop decreases-loop
add-i c = search rules

loop-less : tie.Need-loop-i-smaller invariant-loop decreases-loop
loop-less c = search rules

loop-again : tie.Need-loop-i-preserved invariant-loop decreases-loop
loop-again c =
    let l = c.loop-i in
    let m = c.move_front in
    (search rules, search rules, λ h pool. move-more _ l.i _ (kept h pool l.table) (kept h pool m.new.table) (l.invariant.2 h pool) (m.ensures h pool))

same_length : tie.Need-shape_of-table invariant-loop decreases-loop
same_length c = search rules

returns : tie.Need-returns invariant-loop decreases-loop
returns c = λ h pool. c.loop-i.invariant.2 h pool ∙ ap (move_to (c.args.sandbox * 128) _) (omega arith)

pub move_fronts_spec : {M : Type 1} → statement M
move_fronts_spec =
    tie.close (tie.spec invariant-loop decreases-loop loop-holds move-front-requires add-i loop-less loop-again same_length returns)
