-- Laws of lists whose bytes are compared: they are the same exactly where the lists are equal.
use Prim.Native.Nat.{ℕ}
use mathlib.Core.Path.{◌≡◌, refl, sym, ap, ap₂, ◌∙◌}
use mathlib.Core.Bool.{Bool, true, not, ◌&&◌, false≢true}
use mathlib.Core.List.{List, [], ◌∷◌}
use native.Mathlib.Omega.{arith}
use lib.Dec.{eqb}
use Rattle.std.specs.Prelude.{fold, zip}
use lib.ListN.{length, get_or}
use lib.Seq.{ext_get_or}
use borrow.Author.Tests.{not-true, eqb-true, eq-eqb}
use Rattle.basics.proofs.TestLaws.{by_cases, both_ways, and_left, and_right}
use Rattle.basics.proofs.LoopLaws.{alike_at, alike_of}
use Rattle.pages.specs.Parts.{same_bytes, differs}

pub same_lists : (xs ys : List ℕ) → length xs ≡ length ys → same_bytes (length xs) xs ys ≡ true → xs ≡ ys
unfolding same_bytes
same_lists xs ys e h = ext_get_or 0 xs ys e (alike_at (λ o. get_or xs o 0) (λ o. get_or ys o 0) (length xs) h)

pub same-itself : (n : ℕ) (xs : List ℕ) → same_bytes n xs xs ≡ true
unfolding same_bytes
same-itself n xs = alike_of (λ o. get_or xs o 0) (λ o. get_or xs o 0) n (λ o l. refl)

-- two lists that are equal
pub same-equal : (n : ℕ) (xs ys : List ℕ) → xs ≡ ys → same_bytes n xs ys ≡ true
same-equal n xs ys e = ap (same_bytes n xs) (sym e) ∙ same-itself n xs

-- differed exactly where the lists are not equal
pub differs-told : (xs ys : List ℕ) → length xs ≡ length ys
    → (differs (length xs) xs ys ≡ true → xs ≡ ys → ⊥) × ((xs ≡ ys → ⊥) → differs (length xs) xs ys ≡ true)
differs-told xs ys e = (
  λ d p. false≢true (sym (not-true (same_bytes (length xs) xs ys) d) ∙ same-equal (length xs) xs ys p),
  λ n. by_cases (same_bytes (length xs) xs ys) (λ t. absurd (n (same_lists xs ys e t))) (λ t. ap not t),
)

-- so far the bytes are the same, and so are those of one pair more
abbrev pub both_same : Bool → ℕ × ℕ → Bool
both_same same p = same && eqb p.0 p.1

folded-equal : (same : Bool) (xs ys : List ℕ) → length xs ≡ length ys → fold both_same same (zip xs ys) ≡ true → (same ≡ true) × (xs ≡ ys)
folded-equal same [] [] e h = (h, refl)
folded-equal same [] (y ∷ ys) e h = absurd (omega arith)
folded-equal same (x ∷ xs) [] e h = absurd (omega arith)
folded-equal same (x ∷ xs) (y ∷ ys) e h =
    let rest = folded-equal (same && eqb x y) xs ys (omega arith) h in
    (and_left same (eqb x y) rest.0, ap₂ (λ (z : ℕ) (zs : List ℕ). z ∷ zs) (eqb-true x y (and_right same (eqb x y) rest.0)) rest.1)

folded-itself : (xs : List ℕ) → fold both_same true (zip xs xs) ≡ true
folded-itself [] = refl
folded-itself (x ∷ xs) = ap (λ (same : Bool). fold both_same same (zip xs xs)) (eq-eqb x x refl) ∙ folded-itself xs

-- the pairs of bytes, folded by whether both are the same
pub folded : (xs ys : List ℕ) → length xs ≡ length ys → fold both_same true (zip xs ys) ≡ same_bytes (length xs) xs ys
folded xs ys e =
    both_ways _ _ (λ h. same-equal (length xs) xs ys (folded-equal true xs ys e h).1)
    (λ h. ap (λ (zs : List ℕ). fold both_same true (zip xs zs)) (sym (same_lists xs ys e h)) ∙ folded-itself xs)
