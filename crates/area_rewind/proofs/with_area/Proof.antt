-- An area that is not committed changes nothing; at any other the fronts before it are given up, then its own are restored and its changed pages counted.
use Prim.Native.Nat.{ℕ, ◌+◌, ◌-◌}
use mathlib.Core.Path.{◌≡◌, ap, ◌∙◌}
use mathlib.Core.Bool.{Bool, true, false}
use mathlib.Core.List.{List}
use native.Mathlib.Omega.{arith}
use borrow.Author.Rules.{rules}
use borrow.Author.Tests.{not-true, not-false}
use Rattle.basics.specs.Choice.{◌when◌else◌}
use Rattle.interface.specs.Slots.{advance}
use Rattle.table.specs.Store.{Store, kept, front_of}
use Rattle.table.proofs.FreeLaws.{free_to-kept-as}
use Rattle.areas.specs.declared.area.Area.{Area}
use Rattle.restoring.specs.Restored.{RestoredTo}
use Rattle.restoring.proofs.ChangedLaws.{changed-few}
use Rattle.area_rewind.specs.AreaRewound.{freed_before, area_rewound, area_changed}
use Rattle.area_rewind.proofs.with_area.Statement.{statement}
use Rattle.area_rewind.proofs.with_area.Tie as tie

-- of two the one that a test which holds chooses
chosen : {A : Type 0} (x y : A) (c : Bool) → c ≡ true → x ≡ (x when c else y)
chosen x y c e = rw e

-- what is made of an area: where its fronts stand, and what is left of those before it, are as the definition says
area-made : (image : List ℕ) (s : ℕ) (area : Area) (page : ℕ) (st mid after : Store) (n at before : ℕ) → at ≡ front_of s area.first.0
    → mid ≡ freed_before s area page st → RestoredTo image area.backing at mid after n area.pages
    → (after ≡ area_rewound image s area page st) × (before + n ≡ before + area_changed image s area page st)
area-made image s area page st mid after n at before is_at is-mid R = (R.left ∙ rw (is_at, is-mid), ap (λ (k : ℕ). before + k) (R.told ∙ rw (is_at, is-mid)))

-- ---- what is known behind the test and the fronts that were given up

abbrev tested : tie.Else-not-area → tie.Start
tested c = c.before.before.before.before.before

abbrev freed : tie.After-free_before-held → tie.Else-not-area
freed c = c.before.before.before.before

abbrev placed : tie.After-front_index-at → tie.After-free_before-held
placed c = c.before.before.before.before.before

abbrev behind : tie.After-front_index-at → tie.Start
behind c = tested (freed (placed c))

-- the store after that
abbrev between : tie.After-front_index-at → Store
between c = let f = (placed c).free_before-held in kept f.result f.new.pool f.new.table

-- ---- the needs

returns : tie.Need-returns-then-not-area
returns c =
    let a = c.args in
    let e : a.area.committed ≡ false = not-true _ c.if-not-area.true in
    (rw e, (rw e, rw e))

free-before-requires : tie.Need-free_before-held-requires
free-before-requires c κs =
    let s = tested c.before.before.before in
    (s.requires.0, (omega (arith, s.requires.1.0, s.requires.1.1.0), (omega (arith, s.requires.1.1.0), s.requires.1.1.1.1.0)))

front-index-requires : tie.Need-front_index-at-requires
front-index-requires c κs = search rules

restore-pages-requires : tie.Need-restore_pages-changed-requires
restore-pages-requires c κs =
    let at = c.before in
    let s = behind at in
    let a = s.args in
    let st : Store = kept a.done.held a.pool.now a.table.now in
    let n : ℕ = a.area.first.0 - a.done.page.0 in
    let k = free_to-kept-as 256 (front_of a.s a.done.page.0) st (between at) n (placed at).free_before-held.ensures s.requires.1.1.1.1.0 in (
      omega (arith, at.front_index-at.ensures, s.requires.0, s.requires.1.1.0),
      (k.ranged, (s.requires.1.1.1.1.1.0, omega (arith, s.requires.1.1.0))),
    )

add-t22 : tie.Need-overflow_add-result
add-t22 c = let s = behind c.before.before.before.before.before.before in omega (arith, s.requires.1.1.0)

add-t24 : tie.Need-overflow_add-result-2
add-t24 c =
    let restored = c.before.before.before.before in
    let at = restored.before.before in
    let s = behind at in
    let a = s.args in
    let few = changed-few a.image.now at.front_index-at.result (λ i. true) (advance a.area.backing) (between at) a.area.pages in
    omega (arith, (restored.restore_pages-changed.ensures (placed at).free_before-held.result).told, few, s.requires.1.0, s.requires.1.1.0, s.requires.1.1.1.1.1.1)

same_length : tie.Need-shape_of-pool
same_length c = search rules

same-length-2 : tie.Need-shape_of-table
same-length-2 c = search rules

returns-2 : tie.Need-returns
returns-2 c =
    let restored = c.before.before.before.before in
    let at = restored.before.before in
    let a = (behind at).args in
    let area = a.area in
    let e : area.committed ≡ true = not-false _ (freed (placed at)).if-not-area.false in
    let f = (placed at).free_before-held in
    let st : Store = kept a.done.held a.pool.now a.table.now in
    let made = area-made a.image.now a.s area a.done.page.0 st (between at) _ _ at.front_index-at.result a.done.changed
    at.front_index-at.ensures f.ensures (restored.restore_pages-changed.ensures f.result) in
    (made.0 ∙ chosen _ _ area.committed e, (chosen _ _ area.committed e, made.1 ∙ chosen _ _ area.committed e))

pub with_area_spec : {M : Type 1} → statement M
with_area_spec =
    tie.close
    (tie.spec
    returns
    free-before-requires
    front-index-requires
    restore-pages-requires
    add-t22
    add-t24
    same_length
    same-length-2
    returns-2)
