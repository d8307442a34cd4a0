-- The first i pages are restored, and those of them that differed are counted; the entries still lie in the pool.
use mathlib.Core.Path.{◌≡◌, refl, ◌∙◌}
use mathlib.Core.Bool.{true}
use Prim.Native.Nat.{◌≤◌, ◌-◌, ◌+◌}
use native.Mathlib.Omega.{arith}
use borrow.Author.Rules.{rules}
use lib.ListN.{length}
use Rattle.frames.specs.declared.Held.{Held}
use Rattle.frames.specs.Frames.{none_held}
use Rattle.interface.specs.declared.page.Backing.{Backing}
use Rattle.interface.specs.Slots.{advance}
use Rattle.table.specs.Store.{Store, kept, Ranged}
use Rattle.table.specs.Backing.{backing_page}
use Rattle.rewind_cases.specs.Rewind.{rewind_page}
use Rattle.rewound_store.proofs.RunLaws.{rewind-kept-as, rewind-more}
use Rattle.page_restore.specs.Differs.{page_differs}
use Rattle.restoring.specs.Restored.{RestoredTo}
use Rattle.restoring.proofs.BackedLaws.{none-restored}
use Rattle.restoring.proofs.ChangedLaws.{byte-one, one-small, changed-few, changed-more}
use Rattle.restoring.proofs.restore_each.Statement.{statement}
use Rattle.restoring.proofs.restore_each.Tie as tie

abbrev invariant-loop : tie.invariant-loop-i
invariant-loop pool₀ table image at pages backing changed₀ i₀ pool changed i = (i ≤ pages) × (length pool ≡ length pool₀) × Ranged 256 pool table
    × ((h : Held) → RestoredTo image backing at (kept h pool₀ table) (kept h pool table) changed i)

abbrev decreases-loop : tie.decreases-loop-i
decreases-loop pool₀ table image at pages backing changed₀ i₀ pool changed i = pages - i

abbrev behind : tie.At-loop-i invariant-loop decreases-loop → tie.Start invariant-loop decreases-loop
behind c = c.before.before.before.before

loop-holds : tie.Need-loop-i-init invariant-loop decreases-loop
loop-holds c =
    let s = c.before.before.before in
    (search rules, refl, s.requires.1.0, λ h. none-restored s.args.image.now s.args.backing s.args.at _)

cast-restore-page : tie.Need-overflow_cast-i invariant-loop decreases-loop
cast-restore-page c = search rules

add-restore-page : tie.Need-overflow_add-at invariant-loop decreases-loop
add-restore-page c = search rules

advanced-requires : tie.Need-advanced-requires invariant-loop decreases-loop
advanced-requires c κs =
    let turn = c.before in
    omega (arith, (behind turn.before).requires.1.1.0.near, turn.loop-i-test.true)

restore-page-requires : tie.Need-restore_page-differed-requires invariant-loop decreases-loop
restore-page-requires c κs =
    let turn = c.before.before in
    let l = turn.loop-i in
    let s = behind turn.before in
    (omega (arith, s.requires.0, turn.loop-i-test.true), (l.invariant.2, rw c.advanced.ensures (s.requires.1.1.0.there l.i turn.loop-i-test.true)))

from-requires : tie.Need-from-changed-requires invariant-loop decreases-loop
from-requires c κs = search rules

add-changed : tie.Need-overflow_add-changed invariant-loop decreases-loop
add-changed c =
    let turn = c.before.before.before.before.before.before in
    let l = turn.loop-i in
    let s = behind turn.before in
    let a = s.args in
    let few = changed-few a.image.now a.at (λ k. true) (advance a.backing) (kept none_held a.pool.now a.table.now) l.i in
    omega (
      arith,
      (l.invariant.3 none_held).told,
      few,
      one-small c.restore_page-differed.result,
      c.from-changed.ensures ∙ byte-one c.restore_page-differed.result,
      turn.loop-i-test.true,
      s.requires.1.1.1,
    )

add-i : tie.Need-overflow_step-i invariant-loop decreases-loop
add-i c = search rules

loop-less : tie.Need-loop-i-smaller invariant-loop decreases-loop
loop-less c = search rules

loop-again : tie.Need-loop-i-preserved invariant-loop decreases-loop
loop-again c =
    let page = c.before.before.before in
    let turn = page.before.before.before in
    let l = turn.loop-i in
    let s = behind turn.before in
    let a = s.args in
    let image = a.image.now in
    let backing : Backing = advance a.backing l.i in
    let r : Held → Store = λ h. kept h l.pool a.table.now in
    let q : Held → Store = λ h. kept h page.restore_page-differed.new.pool a.table.now in
    let e : (h : Held) → q h ≡ rewind_page image (a.at + l.i) (a.at + l.i + 64) true backing (r h) =
    λ h. rw page.advanced.ensures at (page.restore_page-differed.ensures.0 h) in
    let d : (h : Held) → page.restore_page-differed.result ≡ page_differs 256 (a.at + l.i) (a.at + l.i + 64) (backing_page image backing) (r h) =
    λ h. rw page.advanced.ensures at (page.restore_page-differed.ensures.1 h) in
    let k =
    rewind-kept-as image (a.at + l.i) (a.at + l.i + 64) backing (r none_held) true (q none_held) (e none_held) l.invariant.2
    (s.requires.1.1.0.there l.i turn.loop-i-test.true) in (
      search rules,
      k.pool ∙ l.invariant.1,
      k.ranged,
      λ h. let U = l.invariant.3 h in record {
        left = rewind-more image a.at (λ k. true) (advance a.backing) _ l.i (r h) (q h) U.left (e h);
        told = rw (c.from-changed.ensures, byte-one page.restore_page-differed.result)
            (changed-more image a.at (λ k. true) (advance a.backing) _ l.i (r h) l.changed page.restore_page-differed.result
            refl U.left U.told (d h));
      },
    )

same_length : tie.Need-shape_of-pool invariant-loop decreases-loop
same_length c = search rules

returns : tie.Need-returns invariant-loop decreases-loop
returns c = λ h.
    let l = c.loop-i in
    let end : l.i ≡ (behind c.before).args.pages = omega (arith, l.invariant.0, c.loop-i-test.false) in
    rw end at (l.invariant.3 h)

pub restore_each_spec : {M : Type 1} → statement M
restore_each_spec =
    tie.close
    (tie.spec
    invariant-loop
    decreases-loop
    loop-holds
    cast-restore-page
    add-restore-page
    advanced-requires
    restore-page-requires
    from-requires
    add-changed
    add-i
    loop-less
    loop-again
    same_length
    returns)
