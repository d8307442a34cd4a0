-- A list that is cut in two is compared, and restored, by its two parts.
use Prim.Native.Nat.{ℕ, ◌-◌, ◌≤◌}
use mathlib.Core.Path.{◌≡◌, sym, ap, ap₂, ◌∙◌}
use mathlib.Core.Bool.{Bool, true, false, not, ◌&&◌}
use mathlib.Core.List.{List, [], ◌++◌, append-nil}
use native.Mathlib.Omega.{arith}
use lib.ListN.{length, take, drop, length-drop, take-append-drop, drop_of_length-le}
use lib.Seq.{length-take-le, take_at, drop_at, take_all}
use borrow.Author.Tests.{not-true, not-false}
use Rattle.basics.proofs.TestLaws.{both_ways, and_left, and_right, and-of}
use Rattle.pages.specs.Parts.{same_bytes, differs}
use Rattle.pages.proofs.SameLaws.{same_lists, same-equal}

-- the list xs is cut at h, and restored to ys part by part

module _ (xs ys : List ℕ) (h : ℕ) (whole : length xs ≡ length ys) (fits : h ≤ length ys) where
  same_first : Bool
  same_first = same_bytes (length (take h xs)) (take h xs) (take h ys)

  same_rest : Bool
  same_rest = same_bytes (length (drop h xs)) (drop h xs) (drop h ys)

  pub cut-lengths : length (take h xs) ≡ length (take h ys)
  cut-lengths = length-take-le h xs (omega arith) ∙ sym (length-take-le h ys fits)

  rest-lengths : length (drop h xs) ≡ length (drop h ys)
  rest-lengths = length-drop h xs ∙ ap (λ (n : ℕ). n - h) whole ∙ sym (length-drop h ys)

  -- all are the same where those of both parts are
  same-cut : same_bytes (length xs) xs ys ≡ (same_first && same_rest)
  unfolding same_first same_rest
  same-cut =
      both_ways _ _
      (λ t. let e = same_lists xs ys whole t in and-of (same-equal _ _ _ (ap (take h) e)) (same-equal _ _ _ (ap (drop h) e)))
      (λ t.
      let first : take h xs ≡ take h ys = same_lists (take h xs) (take h ys) cut-lengths (and_left same_first same_rest t) in
      let rest : drop h xs ≡ drop h ys = same_lists (drop h xs) (drop h ys) rest-lengths (and_right same_first same_rest t) in
      same-equal (length xs) xs ys (sym (take-append-drop h xs) ∙ ap₂ (λ (a b : List ℕ). a ++ b) first rest ∙ take-append-drop h ys))

  -- the first part has come back as that of ys
  module _ (first : List ℕ) (begun : first ≡ take h ys) where
    abbrev half-way : List ℕ
    half-way = first ++ drop h xs

    length-first : length first ≡ h
    length-first = ap length begun ∙ length-take-le h ys fits

    -- the second part is still that of xs, and is all that is left
    still : take (length half-way - h) (drop h half-way) ≡ drop h xs
    still =
        let behind : drop h half-way ≡ drop h xs = drop_at first (drop h xs) h length-first in
        take_all (length half-way - h) (drop h half-way) (omega (arith, length-drop h half-way)) ∙ behind

    rest_of : take (length ys - h) (drop h ys) ≡ drop h ys
    rest_of = take_all (length ys - h) (drop h ys) (omega (arith, length-drop h ys))

    -- and when it has come back as that of ys too
    module _ (rest : List ℕ) (done : rest ≡ take (length ys - h) (drop h ys)) where
      restored : take h half-way ++ (rest ++ drop (length half-way - h) (drop h half-way)) ≡ ys
      restored =
          let short : length (drop h half-way) ≤ length half-way - h = omega (arith, length-drop h half-way) in
          let none : drop (length half-way - h) (drop h half-way) ≡ [] = drop_of_length-le (drop h half-way) short in
          ap₂ (λ (a b : List ℕ). a ++ b) (take_at first (drop h xs) h length-first ∙ begun)
          (ap (λ (r : List ℕ). rest ++ r) none ∙ append-nil rest ∙ done ∙ rest_of) ∙ take-append-drop h ys

      -- the first part differed
      pub first-differed : (r : Bool) → r ≡ differs (length (take h xs)) (take h xs) (take h ys) → r ≡ true
          → (take h half-way ++ (rest ++ drop (length half-way - h) (drop h half-way)) ≡ ys) × (true ≡ differs (length xs) xs ys)
      unfolding same_first
      first-differed r told t =
          let other : same_first ≡ false = not-true same_first (sym told ∙ t) in
          (restored, sym (ap not (same-cut ∙ ap (λ (b : Bool). b && same_rest) other)))

      -- it did not, and so the second tells
      pub rest-tells : (r s : Bool) → r ≡ differs (length (take h xs)) (take h xs) (take h ys) → r ≡ false
          → s ≡ differs (length (take (length half-way - h) (drop h half-way))) (take (length half-way - h) (drop h half-way))
          (take (length ys - h) (drop h ys))
          → (take h half-way ++ (rest ++ drop (length half-way - h) (drop h half-way)) ≡ ys) × (s ≡ differs (length xs) xs ys)
      unfolding same_first same_rest
      rest-tells r s told f says =
          let alike : same_first ≡ true = not-false same_first (sym told ∙ f) in (
            restored,
            says ∙ ap₂ (λ (a b : List ℕ). differs (length a) a b) still rest_of ∙ sym (ap not (same-cut ∙ ap (λ (b : Bool). b && same_rest) alike)),
          )
