-- An example, computed with frames of two bytes: the second of three is filled and cleared.
use mathlib.Core.Path.{◌≡◌, refl}
use mathlib.Core.List.{[], ◌∷◌}
use Rattle.pages.specs.Parts.{part_at, set_part, zeros, frame, set_frame}

filled : set_frame 2 (1 ∷ 2 ∷ 3 ∷ 4 ∷ 5 ∷ 6 ∷ []) 1 (8 ∷ 9 ∷ []) ≡ 1 ∷ 2 ∷ 8 ∷ 9 ∷ 5 ∷ 6 ∷ []
unfolding set_frame set_part
filled = refl

second : frame 2 (1 ∷ 2 ∷ 8 ∷ 9 ∷ 5 ∷ 6 ∷ []) 1 ≡ 8 ∷ 9 ∷ []
unfolding frame part_at
second = refl

cleared : set_frame 2 (1 ∷ 2 ∷ 8 ∷ 9 ∷ 5 ∷ 6 ∷ []) 1 (zeros 2) ≡ 1 ∷ 2 ∷ 0 ∷ 0 ∷ 5 ∷ 6 ∷ []
unfolding set_frame set_part zeros
cleared = refl
