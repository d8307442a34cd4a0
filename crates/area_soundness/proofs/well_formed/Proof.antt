-- The places that were passed are as they should be, so whether all are is whether the rest are: first those in use, then those behind them.
use Prim.Native.Nat.{ℕ, ◌+◌, ◌-◌, ◌≤◌, ◌<◌}
use mathlib.Core.Path.{◌≡◌, refl, sym, ap, ◌∙◌}
use mathlib.Core.Logic.{⊎_elim}
use mathlib.Core.Bool.{true, false, not, ◌&&◌}
use lib.Dec.{eqb}
use lib.ListN.{length, get_or}
use borrow.Author.Rules.{rules}
use borrow.Author.Tests.{eqb-false, not-true, not-false}
use native.Mathlib.Omega.{arith}
use Rattle.basics.proofs.TestLaws.{length-mapped, never, and_right}
use Rattle.areas.specs.Areas.{none}
use Rattle.areas.specs.Formed.{place_ok, well_formed}
use Rattle.area_soundness.proofs.PlaceLaws.{misfit, joined, holds, behind, Rest, rest-next, many, fails, passes}
use Rattle.area_soundness.proofs.well_formed.Statement.{statement}
use Rattle.area_soundness.proofs.well_formed.Tie as tie

abbrev invariant-loop : tie.invariant-loop-k
invariant-loop images areas count end₀ k₀ end k =
    (k ≤ count) × (k ≡ 0 → end ≡ 0) × (0 < k → end ≡ (get_or areas.list (k - 1) none).first.0 + (get_or areas.list (k - 1) none).pages)
    × Rest images areas k

abbrev decreases-loop : tie.decreases-loop-k
decreases-loop images areas count end₀ k₀ end k = count - k

abbrev invariant-loop2 : tie.invariant-loop-k-2
invariant-loop2 images areas count end k₀ k = (count ≤ k) × (k ≤ 8) × Rest images areas k

abbrev decreases-loop2 : tie.decreases-loop-k-2
decreases-loop2 images areas count end k₀ k = 8 - k

eight : (c : tie.Start invariant-loop decreases-loop invariant-loop2 decreases-loop2) → length c.args.areas.list ≡ 8
eight c = search length-mapped

-- the way back from where a fact is needed to where it was learned
abbrev start-of-loop : tie.At-loop-k invariant-loop decreases-loop invariant-loop2 decreases-loop2 → tie.Start invariant-loop decreases-loop invariant-loop2 decreases-loop2
start-of-loop c = c.before.before

abbrev few : (c : tie.At-loop-k invariant-loop decreases-loop invariant-loop2 decreases-loop2) → (start-of-loop c).args.areas.count ≤ 8
few c = c.if-areas-gt-MOST.false

abbrev at_turn : tie.After-is_fitting invariant-loop decreases-loop invariant-loop2 decreases-loop2 → tie.In-loop-k invariant-loop decreases-loop invariant-loop2 decreases-loop2
at_turn c = c.before.before

abbrev at-loop : tie.After-is_fitting invariant-loop decreases-loop invariant-loop2 decreases-loop2 → tie.At-loop-k invariant-loop decreases-loop invariant-loop2 decreases-loop2
at-loop c = (at_turn c).before

abbrev tested : tie.Then-start-end invariant-loop decreases-loop invariant-loop2 decreases-loop2 → tie.After-is_fitting invariant-loop decreases-loop invariant-loop2 decreases-loop2
tested c = c.before.before.before

abbrev at-loop2 : tie.After-is_none invariant-loop decreases-loop invariant-loop2 decreases-loop2 → tie.At-loop-k-2 invariant-loop decreases-loop invariant-loop2 decreases-loop2
at-loop2 c = c.before.before.before

abbrev first-loop : tie.At-loop-k-2 invariant-loop decreases-loop invariant-loop2 decreases-loop2 → tie.At-loop-k invariant-loop decreases-loop invariant-loop2 decreases-loop2
first-loop c = c.before.before

-- an area that is not in order: so the areas are not well formed
fails-at : (n : tie.After-is_fitting invariant-loop decreases-loop invariant-loop2 decreases-loop2) →
    let a = (start-of-loop (at-loop n)).args in
    false ≡ place_ok a.images a.areas (at-loop n).loop-k.k → (false ≡ well_formed a.images a.areas) × (length a.areas.list ≡ 8)
fails-at n e =
    let m = at-loop n in
    let s = start-of-loop m in
    let l = m.loop-k in (
      fails s.args.images s.args.areas (eight s) (few m) l.k (omega (arith, (at_turn n).loop-k-test.true, few m)) l.invariant.3 false e refl,
      eight s,
    )

-- an area that starts where another ends is not the first
later : (c : tie.Then-start-end invariant-loop decreases-loop invariant-loop2 decreases-loop2) → 0 < (at-loop (tested c)).loop-k.k
later c =
    let l = (at-loop (tested c)).loop-k in
    let a = (start-of-loop (at-loop (tested c))).args in
    let start : ℕ = (get_or a.areas.list l.k none).first.0 in
    omega (arith, eqb-false l.k 0 (not-true (eqb l.k 0) (and_right (eqb start l.end) (not (eqb l.k 0)) c.if-start-end.true)))

cast-if1 : tie.Need-overflow_cast-areas invariant-loop decreases-loop invariant-loop2 decreases-loop2
cast-if1 c = search rules

returns : tie.Need-returns-then-areas-gt-MOST invariant-loop decreases-loop invariant-loop2 decreases-loop2
returns c = let a = c.args in (many a.images a.areas (eight c.before) c.if-areas-gt-MOST.true, eight c.before)

cast-count : tie.Need-overflow_cast-count invariant-loop decreases-loop invariant-loop2 decreases-loop2
cast-count c = search rules

loop-holds : tie.Need-loop-k-init invariant-loop decreases-loop invariant-loop2 decreases-loop2
loop-holds c = (omega arith, λ e. refl, λ z. absurd (omega arith), refl)

mul-area : tie.Need-offset_bounds-areas-k invariant-loop decreases-loop invariant-loop2 decreases-loop2
mul-area c = search rules

element-copy-out-area : tie.Need-bounds-areas-k invariant-loop decreases-loop invariant-loop2 decreases-loop2
element-copy-out-area c = search rules

is-fitting-requires : tie.Need-is_fitting-requires invariant-loop decreases-loop invariant-loop2 decreases-loop2
is-fitting-requires c κs = search rules

returns-2 : tie.Need-returns-then-not-is_fitting invariant-loop decreases-loop invariant-loop2 decreases-loop2
returns-2 c =
    let n = c.before in
    let a = (start-of-loop (at-loop n)).args in
    let l = (at-loop n).loop-k in
    let low = (at_turn n).loop-k-test.true in
    fails-at n (sym (misfit a.images a.areas l.k l.end low l.invariant.1 l.invariant.2 _ n.is_fitting.ensures (not-true _ c.if-not-is_fitting.true-raw)))

cast-start : tie.Need-overflow_cast-start invariant-loop decreases-loop invariant-loop2 decreases-loop2
cast-start c = search rules

sub-previous : tie.Need-overflow_sub-previous invariant-loop decreases-loop invariant-loop2 decreases-loop2
sub-previous c = omega (arith, later c)

mul-previous : tie.Need-offset_bounds-areas-k-then-start-end invariant-loop decreases-loop invariant-loop2 decreases-loop2
mul-previous c = search rules

element-copy-out-previous : tie.Need-bounds-areas-k-then-start-end invariant-loop decreases-loop invariant-loop2 decreases-loop2
element-copy-out-previous c = search rules

goes-on-requires : tie.Need-goes_on-requires invariant-loop decreases-loop invariant-loop2 decreases-loop2
goes-on-requires c κs = search rules

returns-3 : tie.Need-returns-then-goes_on invariant-loop decreases-loop invariant-loop2 decreases-loop2
returns-3 c =
    let g = c.before in
    let p = g.before.before in
    let n = tested p in
    let a = (start-of-loop (at-loop n)).args in
    let l = (at-loop n).loop-k in
    let low = (at_turn n).loop-k-test.true in
    fails-at n (sym (joined a.images a.areas l.k l.end low l.invariant.1 l.invariant.2 p.if-start-end.true _ g.goes_on.ensures c.if-goes_on.true))

cast-end : tie.Need-overflow_cast-end invariant-loop decreases-loop invariant-loop2 decreases-loop2
cast-end c = search rules

add-end : tie.Need-overflow_add-end invariant-loop decreases-loop invariant-loop2 decreases-loop2
add-end c = search rules

add-k : tie.Need-overflow_step-k invariant-loop decreases-loop invariant-loop2 decreases-loop2
add-k c = search rules

loop-less : tie.Need-loop-k-smaller invariant-loop decreases-loop invariant-loop2 decreases-loop2
loop-less c = search rules

-- the place in a turn that was passed
in_place : (c : tie.Joined-start-end invariant-loop decreases-loop invariant-loop2 decreases-loop2) →
    let n = c.before.before.before in
    let a = (start-of-loop (at-loop n)).args in
    place_ok a.images a.areas (at-loop n).loop-k.k ≡ true
in_place c =
    let n = c.before.before.before in
    let a = (start-of-loop (at-loop n)).args in
    let l = (at-loop n).loop-k in
    let start : ℕ = (get_or a.areas.list l.k none).first.0 in
    holds a.images a.areas l.k l.end (at_turn n).loop-k-test.true l.invariant.1 l.invariant.2 _ n.is_fitting.ensures
    (not-false _ c.if-not-is_fitting.false-raw)
    (λ t. ⊎_elim (λ w. sym w.goes_on.ensures ∙ w.if-goes_on.false) (λ w. never (eqb start l.end && not (eqb l.k 0)) t w.if-start-end.false) c.if-start-end.branch-raw)

loop-again : tie.Need-loop-k-preserved invariant-loop decreases-loop invariant-loop2 decreases-loop2
loop-again c =
    let j = c.before in
    let n = j.before.before.before in
    let m = at-loop n in
    let a = (start-of-loop m).args in
    let k = m.loop-k.k in
    let low = (at_turn n).loop-k-test.true in (
      omega (arith, low),
      λ e. absurd (omega arith),
      λ z. ap (λ (i : ℕ). (get_or a.areas.list i none).first.0 + (get_or a.areas.list i none).pages) (omega arith),
      rest-next a.images a.areas k (omega (arith, low, few m)) m.loop-k.invariant.3 true (sym (in_place j)) refl,
    )

loop2-holds : tie.Need-loop-k-2-init invariant-loop decreases-loop invariant-loop2 decreases-loop2
loop2-holds c =
    let m = c.before in
    let a = (start-of-loop m).args in
    let end : m.loop-k.k ≡ a.areas.count = omega (arith, m.loop-k.invariant.0, c.loop-k-test.false) in
    (omega arith, few m, rw end at m.loop-k.invariant.3)

mul-area-2 : tie.Need-offset_bounds-areas-k-in-loop-k-2 invariant-loop decreases-loop invariant-loop2 decreases-loop2
mul-area-2 c = search rules

element-copy-out-area-2 : tie.Need-bounds-areas-k-in-loop-k-2 invariant-loop decreases-loop invariant-loop2 decreases-loop2
element-copy-out-area-2 c = search rules

is-none-requires : tie.Need-is_none-requires invariant-loop decreases-loop invariant-loop2 decreases-loop2
is-none-requires c κs = search rules

-- the test of a place behind the last area
in-place2 : (c : tie.After-is_none invariant-loop decreases-loop invariant-loop2 decreases-loop2) →
    let a = (start-of-loop (first-loop (at-loop2 c))).args in
    c.is_none.result ≡ place_ok a.images a.areas (at-loop2 c).loop-k-2.k
in-place2 c =
    let a = (start-of-loop (first-loop (at-loop2 c))).args in
    let l = (at-loop2 c).loop-k-2 in
    behind a.images a.areas l.k l.invariant.0 _ c.is_none.ensures

returns-4 : tie.Need-returns-then-not-is_none invariant-loop decreases-loop invariant-loop2 decreases-loop2
returns-4 c =
    let m = at-loop2 c.before in
    let s = start-of-loop (first-loop m) in (
      fails s.args.images s.args.areas (eight s) (few (first-loop m)) m.loop-k-2.k c.loop-k-2-test.true
          m.loop-k-2.invariant.2 _ (in-place2 c.before) (not-true _ c.if-not-is_none.true-raw),
      eight s,
    )

add-k-2 : tie.Need-overflow_step-k-in-loop-k-2 invariant-loop decreases-loop invariant-loop2 decreases-loop2
add-k-2 c = search rules

loop2-less : tie.Need-loop-k-2-smaller invariant-loop decreases-loop invariant-loop2 decreases-loop2
loop2-less c = search rules

loop2-again : tie.Need-loop-k-2-preserved invariant-loop decreases-loop invariant-loop2 decreases-loop2
loop2-again c =
    let m = at-loop2 c.before in
    let a = (start-of-loop (first-loop m)).args in
    let low = c.loop-k-2-test.true in (
      omega (arith, m.loop-k-2.invariant.0),
      omega (arith, low),
      rest-next a.images a.areas m.loop-k-2.k low m.loop-k-2.invariant.2 _ (in-place2 c.before) (not-false _ c.if-not-is_none.false-raw),
    )

returns-5 : tie.Need-returns invariant-loop decreases-loop invariant-loop2 decreases-loop2
returns-5 c =
    let m = c.before in
    let s = start-of-loop (first-loop m) in
    (passes s.args.images s.args.areas (eight s) (few (first-loop m)) m.loop-k-2.k c.loop-k-2-test.false m.loop-k-2.invariant.2, eight s)

pub well_formed_spec : {M : Type 1} → statement M
well_formed_spec =
    tie.close
    (tie.spec
    invariant-loop
    decreases-loop
    invariant-loop2
    decreases-loop2
    cast-if1
    returns
    cast-count
    loop-holds
    mul-area
    element-copy-out-area
    is-fitting-requires
    returns-2
    cast-start
    sub-previous
    mul-previous
    element-copy-out-previous
    goes-on-requires
    returns-3
    cast-end
    add-end
    add-k
    loop-less
    loop-again
    loop2-holds
    mul-area-2
    element-copy-out-area-2
    is-none-requires
    returns-4
    add-k-2
    loop2-less
    loop2-again
    returns-5)
