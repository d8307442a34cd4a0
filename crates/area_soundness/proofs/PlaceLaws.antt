-- The tests of the code beside the definitions: of a place in use or behind the last; and what that of all comes to where one fails, or none does.
use Prim.Native.Nat.{ℕ, ◌+◌, ◌-◌, ◌≤◌, ◌<◌}
use mathlib.Core.Path.{◌≡◌, sym, ap, ◌∙◌}
use mathlib.Core.Bool.{Bool, true, false, not, ◌&&◌}
use lib.Dec.{leb, ltb, eqb}
use lib.ListN.{length, get_or}
use borrow.Author.Tests.{lt-ltb, le-ltb, ltb-true, le-leb, lt-leb, eq-eqb, ne_eqb, eqb-false, not-true}
use native.Mathlib.Omega.{arith}
use native.Mathlib.Decide.{dec_lt, ℕ_discrete}
use Rattle.basics.specs.Choice.{implies}
use Rattle.basics.specs.Ranges.{every}
use Rattle.basics.proofs.TestLaws.{by_cases, never, and-false, and_both, and_right, and-of, implies-of}
use Rattle.basics.proofs.LoopLaws.{every-next, every-stop, every-end}
use Rattle.areas.specs.declared.area.Area.{Area}
use Rattle.areas.specs.declared.area.Areas.{Areas}
use Rattle.areas.specs.Areas.{none, attributes_of}
use Rattle.areas.specs.Formed.{goes_on, proper, is_apart, is_none, place_ok, well_formed}

module _ (images : ℕ) (s : Areas) where
  abbrev at : ℕ → Area
  at k = get_or s.list k none

  -- a place with an area, where the one before it ends at page e, or none comes before it
  module _ (k e : ℕ) (l : k < s.count) (none : k ≡ 0 → e ≡ 0) (some : 0 < k → e ≡ (at (k - 1)).first.0 + (at (k - 1)).pages) where
    abbrev start : ℕ
    start = (at k).first.0

    abbrev onward : Bool
    onward = goes_on (at (k - 1)) start (attributes_of (at k))

    is : place_ok images s k ≡ (proper images (at k) && implies (ltb 0 k) (is_apart (at (k - 1)) (at k)))
    unfolding place_ok
    is = rw (lt-ltb k s.count l)

    apart-is : 0 < k → is_apart (at (k - 1)) (at k) ≡ (leb e start && not onward)
    unfolding is_apart
    apart-is z = rw (← some z)

    unless : start ≡ e → 0 < k → (eqb start e && not (eqb k 0)) ≡ true
    unless d z = and-of (eq-eqb start e d) (ap not (ne_eqb k 0 (λ w. omega arith)))

    -- it is not proper, or starts before that page
    pub misfit : (r : Bool) → r ≡ (proper images (at k) && leb e start) → r ≡ false → place_ok images s k ≡ false
    misfit r h f = is ∙ go (dec_lt 0 k)
      where
        go : Dec (0 < k) → (proper images (at k) && implies (ltb 0 k) (is_apart (at (k - 1)) (at k))) ≡ false
        go (yes z) = by_cases (proper images (at k))
            (λ t. let n : leb e start ≡ false = rw t at (sym h ∙ f) in rw (t, lt-ltb 0 k z, apart-is z, n))
            (λ t. rw t)
        go (no z) = by_cases (proper images (at k))
            (λ t. let n : leb e start ≡ false = rw t at (sym h ∙ f) in
            never (leb e start) (le-leb e start (omega (arith, none (omega arith)))) n)
            (λ t. rw t)

    -- it starts there and goes on
    pub joined : (eqb start e && not (eqb k 0)) ≡ true → (g : Bool) → g ≡ onward → g ≡ true → place_ok images s k ≡ false
    joined h g o t =
        let z : 0 < k = omega (arith, eqb-false k 0 (not-true _ (and_right (eqb start e) (not (eqb k 0)) h))) in
        let n : is_apart (at (k - 1)) (at k) ≡ false = apart-is z ∙ rw (sym o ∙ t) (and-false (leb e start)) in
        is ∙ rw (lt-ltb 0 k z, n) (and-false (proper images (at k)))

    pub holds : (r : Bool) → r ≡ (proper images (at k) && leb e start) → r ≡ true → ((eqb start e && not (eqb k 0)) ≡ true → onward ≡ false)
        → place_ok images s k ≡ true
    unfolding goes_on
    holds r h t q =
        let both = and_both (proper images (at k)) (leb e start) (sym h ∙ t) in
        is ∙ and-of both.0 (implies-of (ltb 0 k) (is_apart (at (k - 1)) (at k))
        (λ z. let y : 0 < k = ltb-true 0 k z in apart-is y ∙ and-of both.1 (ap not (go y (ℕ_discrete start e)))))
      where
        go : 0 < k → Dec (start ≡ e) → onward ≡ false
        go y (yes d) = q (unless d y)
        go y (no d) = rw (ne_eqb ((at (k - 1)).first.0 + (at (k - 1)).pages) start (λ w. d (sym (some y ∙ w))))

  -- a place behind the last area
  pub behind : (k : ℕ) → s.count ≤ k → (r : Bool) → r ≡ is_none (at k) → r ≡ place_ok images s k
  unfolding place_ok
  behind k l r e = rw (le-ltb k s.count l) e

  -- the places before k hold what they should: whether all do is whether the others do
  abbrev pub Rest : ℕ → Type 0
  Rest k = every (place_ok images s) 0 8 ≡ every (place_ok images s) k (8 - k)

  pub rest-next : (k : ℕ) → k < 8 → Rest k → (r : Bool) → r ≡ place_ok images s k → r ≡ true → Rest (k + 1)
  rest-next k l h r e t = h ∙ every-next (place_ok images s) 8 k l (sym e ∙ t)

  module _ (eight : length s.list ≡ 8) where
    -- too many areas
    pub many : 8 < s.count → false ≡ well_formed images s
    unfolding well_formed
    many l = rw (eq-eqb _ 8 eight, lt-leb _ 8 l)

    module _ (few : s.count ≤ 8) where
      pub fails : (k : ℕ) → k < 8 → Rest k → (r : Bool) → r ≡ place_ok images s k → r ≡ false → false ≡ well_formed images s
      unfolding well_formed
      fails k l h r e f = sym (rw (eq-eqb _ 8 eight, le-leb _ 8 few) (h ∙ every-stop (place_ok images s) 8 k l (sym e ∙ f)))

      pub passes : (k : ℕ) → 8 ≤ k → Rest k → true ≡ well_formed images s
      unfolding well_formed
      passes k l h = sym (rw (eq-eqb _ 8 eight, le-leb _ 8 few) (h ∙ every-end (place_ok images s) 8 k l))
