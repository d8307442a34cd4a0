-- Rows by example: which place of a row is chosen, and what pushed things leave.
use Rattle.std.specs.Prelude.{ℕ, List, [], ◌∷◌, get_or}
use Rattle.basics.specs.Rows.{best, longer, no_longer, fitter}
use Rattle.basics.specs.Longest.{push_all}

-- five lengths, the oldest first
abbrev row : ℕ → ℕ
row i = get_or (2 ∷ 3 ∷ 1 ∷ 3 ∷ 1 ∷ []) i 0

-- the longest is the older 3, the shortest that goes the newer 1; for one page the older 1, for two the 2, for three the older 3, and for four, as none is that
-- long, the older 3
abbrev pub chosen : List ℕ
chosen = best longer row 5 ∷ best no_longer row 5 ∷ best (fitter 1) row 5 ∷ best (fitter 2) row 5 ∷ best (fitter 3) row 5 ∷ best (fitter 4) row 5 ∷ []

abbrev pub chosen_places : List ℕ
chosen_places = 1 ∷ 4 ∷ 2 ∷ 0 ∷ 1 ∷ 1 ∷ []

-- what is in the five places after the first m of 1, 2, 2, 4 and 2 came
abbrev pub pushed_first : ℕ → List ℕ
pushed_first m = let r = push_all (λ x. x) 5 row (λ i. get_or (1 ∷ 2 ∷ 2 ∷ 4 ∷ 2 ∷ []) i 0) m in r 0 ∷ r 1 ∷ r 2 ∷ r 3 ∷ r 4 ∷ []

-- the 1 is no longer than the shortest and changes nothing; for the first 2 the newer 1 goes, for the second the older 1; for the 4 the newest 2; the last 2
-- changes nothing
abbrev pub pushed_rows : List (List ℕ)
pushed_rows =
    (2 ∷ 3 ∷ 1 ∷ 3 ∷ 1 ∷ []) ∷
    (2 ∷ 3 ∷ 1 ∷ 3 ∷ 2 ∷ []) ∷
    (2 ∷ 3 ∷ 3 ∷ 2 ∷ 2 ∷ []) ∷
    (2 ∷ 3 ∷ 3 ∷ 2 ∷ 4 ∷ []) ∷
    (2 ∷ 3 ∷ 3 ∷ 2 ∷ 4 ∷ []) ∷
    []
