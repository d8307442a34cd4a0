-- Laws of a line's numbers: there are eight, and the line taken from the place where they stand is that line.
use Prim.Native.Nat.{ℕ, ◌+◌, ◌-◌, ◌*◌}
use mathlib.Core.Path.{◌≡◌, refl, sym, ap, ◌∙◌}
use mathlib.Core.List.{List, [], ◌∷◌, ◌++◌}
use native.Mathlib.Omega.{arith}
use lib.ListN.{length, get_or, set, take, drop}
use lib.Seq.{get_or-append-add, drop-drop}
use Rattle.lines.specs.declared.Line.{Line}
use Rattle.lines.specs.declared.Line.TheVariants.{Call, Malformed}
use Rattle.line_numbers.specs.Numbers.{numbers_of, line_in}

pub length-numbers : (l : Line) → length (numbers_of l) ≡ 8
unfolding numbers_of
length-numbers (Call q) = refl
length-numbers Malformed = refl

-- what stands at a number's place, behind the places before
at_place : (front more : List ℕ) (k i : ℕ) → length front ≡ k * 8 → get_or (front ++ more) (k * 8 + i) 0 ≡ get_or more i 0
at_place front more k i h = ap (λ n. get_or (front ++ more) (n + i) 0) (sym h) ∙ get_or-append-add front more i 0

at_first : (front more : List ℕ) (k : ℕ) → length front ≡ k * 8 → get_or (front ++ more) (k * 8) 0 ≡ get_or more 0 0
at_first front more k h =
    let same : k * 8 + 0 ≡ k * 8 = omega arith in
    ap (λ n. get_or (front ++ more) n 0) (sym same) ∙ at_place front more k 0 h

-- the line that was put comes back
pub numbers-back : (front rest : List ℕ) (k : ℕ) (l : Line) → length front ≡ k * 8 → line_in (front ++ (numbers_of l ++ rest)) k ≡ l
unfolding numbers_of line_in
numbers-back front rest k (Call q) h =
    let more : List ℕ = numbers_of (Call q) ++ rest in
    rw (
      at_first front more k h,
      at_place front more k 1 h,
      at_place front more k 2 h,
      at_place front more k 3 h,
      at_place front more k 4 h,
      at_place front more k 5 h,
      at_place front more k 6 h,
      at_place front more k 7 h,
    ) refl
numbers-back front rest k Malformed h =
    let more : List ℕ = numbers_of Malformed ++ rest in
    rw (at_first front more k h) refl

-- eight numbers stored one after the other are the list, where it has room for them alone
module _ (a b c d e f g h : ℕ) where
  abbrev stored : List ℕ → List ℕ
  stored l = set (set (set (set (set (set (set (set l 0 a) 1 b) 2 c) 3 d) 4 e) 5 f) 6 g) 7 h

  pub eight-stored : (l : List ℕ) → length l ≡ 8 → stored l ≡ a ∷ b ∷ c ∷ d ∷ e ∷ f ∷ g ∷ h ∷ []
  eight-stored [] n = absurd (omega arith)
  eight-stored (x₀ ∷ []) n = absurd (omega arith)
  eight-stored (x₀ ∷ x₁ ∷ []) n = absurd (omega arith)
  eight-stored (x₀ ∷ x₁ ∷ x₂ ∷ []) n = absurd (omega arith)
  eight-stored (x₀ ∷ x₁ ∷ x₂ ∷ x₃ ∷ []) n = absurd (omega arith)
  eight-stored (x₀ ∷ x₁ ∷ x₂ ∷ x₃ ∷ x₄ ∷ []) n = absurd (omega arith)
  eight-stored (x₀ ∷ x₁ ∷ x₂ ∷ x₃ ∷ x₄ ∷ x₅ ∷ []) n = absurd (omega arith)
  eight-stored (x₀ ∷ x₁ ∷ x₂ ∷ x₃ ∷ x₄ ∷ x₅ ∷ x₆ ∷ []) n = absurd (omega arith)
  eight-stored (x₀ ∷ x₁ ∷ x₂ ∷ x₃ ∷ x₄ ∷ x₅ ∷ x₆ ∷ x₇ ∷ []) n = refl
  eight-stored (x₀ ∷ x₁ ∷ x₂ ∷ x₃ ∷ x₄ ∷ x₅ ∷ x₆ ∷ x₇ ∷ x₈ ∷ more) n = absurd (omega arith)

-- a part of eight numbers that comes back is where it was
pub part-is : (xs ys : List ℕ) (at : ℕ) → take at xs ++ (ys ++ drop (at + 8 - at) (drop at xs)) ≡ take at xs ++ (ys ++ drop (at + 8) xs)
part-is xs ys at =
    let n : at + 8 - at ≡ 8 = omega arith in
    rw (n, drop-drop) refl
