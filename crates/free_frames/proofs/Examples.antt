-- An example, computed: frames 3 and 100 held of 101, then of 4.
use mathlib.Core.Path.{◌≡◌, refl}
use Rattle.words.specs.Word.{bit, put_bit}
use Rattle.frames.specs.declared.Held.{Held}
use Rattle.frames.specs.Frames.{held, mark, none_held}
use Rattle.std.specs.Prelude.{Some}
use Rattle.free_frames.specs.Greatest.{greatest}

two : Held
unfolding mark put_bit bit
two = mark (mark none_held 3 1) 100 1

below : greatest (held two) 101 ≡ Some (record { 0 = 99 })
unfolding two greatest held mark put_bit bit
below = refl

lower : greatest (held two) 4 ≡ Some (record { 0 = 2 })
unfolding two greatest held mark put_bit bit
lower = refl
