-- Rows by example (specs/RowCases), by computation.
use mathlib.Core.Path.{◌≡◌, refl}
use mathlib.Core.List.{[], ◌∷◌}
use Rattle.basics.specs.Rows.{best, moved_up, push}
use Rattle.basics.specs.Longest.{push_all}
use Rattle.basics.specs.RowCases.{chosen, chosen_places, pushed_first, pushed_rows}

pub chosen-places : chosen ≡ chosen_places
unfolding best
chosen-places = refl

pub pushed-rows : pushed_first 1 ∷ pushed_first 2 ∷ pushed_first 3 ∷ pushed_first 4 ∷ pushed_first 5 ∷ [] ≡ pushed_rows
unfolding best moved_up push push_all
pushed-rows = refl
