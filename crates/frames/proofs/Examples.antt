-- An example, computed: frames 3 and 100 held.
use mathlib.Core.Path.{◌≡◌, refl}
use Rattle.basics.specs.Ranges.{sum}
use Rattle.frames.specs.declared.Held.{Held}
use Rattle.words.specs.Word.{bit, put_bit}
use Rattle.frames.specs.Frames.{held, mark, none_held, count_held}

two : Held
unfolding mark put_bit bit
two = mark (mark none_held 3 1) 100 1

two-held : count_held two ≡ 2
unfolding two count_held sum held mark put_bit bit
two-held = refl
