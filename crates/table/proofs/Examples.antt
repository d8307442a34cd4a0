-- An example, computed with frames of two bytes: entry 0 takes frame 1, its page moves to entry 64, and is given up.
use mathlib.Core.Path.{◌≡◌, refl}
use mathlib.Core.Option.{some, none}
use mathlib.Core.List.{List, [], ◌∷◌}
use lib.ListN.{replicate}
use Rattle.words.specs.Word.{bit, put_bit}
use Rattle.frames.specs.Frames.{mark, none_held}
use Rattle.pages.specs.Parts.{part_at, set_part, zeros, frame, set_frame}
use Rattle.table.specs.Store.{Store, kept, contents, put, free, take, move}

-- two frames, and no entry
start : Store
start = kept none_held (0 ∷ 0 ∷ 0 ∷ 0 ∷ []) (replicate 65 0)

one : Store
unfolding start take put set_frame set_part mark put_bit bit
one = take 2 0 1 (7 ∷ 9 ∷ []) start

taken : contents 2 one 0 ≡ some (7 ∷ 9 ∷ [])
unfolding one start contents take put set_frame set_part frame part_at mark put_bit bit
taken = refl

moved : contents 2 (move 0 64 one) 64 ≡ some (7 ∷ 9 ∷ [])
unfolding one start contents move take put set_frame set_part frame part_at mark put_bit bit
moved = refl

freed : (free 2 64 (move 0 64 one)).pool ≡ 0 ∷ 0 ∷ 0 ∷ 0 ∷ []
unfolding one start free move take put set_frame set_part zeros mark put_bit bit
freed = refl
