-- An example, computed: of four frames, entries that name frames 2 and 0, then frame 2 twice, then a frame past the pool.
use mathlib.Core.Path.{◌≡◌, refl}
use mathlib.Core.Bool.{true, false}
use mathlib.Core.List.{[], ◌∷◌}
use Rattle.words.specs.Word.{bit, put_bit}
use Rattle.frames.specs.Frames.{held, mark}
use Rattle.marks.specs.Marks.{add_entry, marks_to, from}

good : (marks_to 4 (from 0 (3 ∷ 0 ∷ 1 ∷ [])) 3).good ≡ true
unfolding marks_to add_entry held mark bit put_bit
good = refl

twice : (marks_to 4 (from 0 (3 ∷ 0 ∷ 3 ∷ [])) 3).good ≡ false
unfolding marks_to add_entry held mark bit put_bit
twice = refl

past : (marks_to 4 (from 0 (3 ∷ 0 ∷ 5 ∷ [])) 3).good ≡ false
unfolding marks_to add_entry held mark bit put_bit
past = refl
