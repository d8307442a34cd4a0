-- What lists of calls are over.
use Rattle.std.specs.Prelude.{◌≡◌, ◌*◌, ◌≤◌, length}
use Rattle.interface.specs.Numbers.{pages_in}
use Rattle.plain.specs.Machine.{Given}

-- what a start that is not refused is given: a pool of 1 to 128 frames, an image of 0 to 64 whole pages
pub record Lent (g : Given) : Type 0 where
  pub frames : 1 ≤ g.frames
  pub few : g.frames ≤ 128
  pub image : length g.image ≡ pages_in (length g.image) * 256
  pub images : pages_in (length g.image) ≤ 64
