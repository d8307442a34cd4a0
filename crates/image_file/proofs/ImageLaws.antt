-- An image that cannot be read whole is a wrong length.
use mathlib.Core.Path.{◌≡◌, refl}
use mathlib.Core.Bool.{Bool, true, false, ◌&&◌}
use lib.Dec.{eqb}
use Rattle.state.specs.World.{whole_pages}
use Rattle.image_file.specs.Image.{UnreadableIsWrong}

last-fails : (a b : Bool) → (a && (b && false)) ≡ false
last-fails true true = refl
last-fails true false = refl
last-fails false b = refl

pub unreadable-is-wrong : UnreadableIsWrong
unreadable-is-wrong pool table = last-fails (whole_pages 1 128 pool) (eqb table 512)
