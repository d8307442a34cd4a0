-- What the code asks of areas along which it goes.
use Rattle.std.specs.Prelude.{ℕ, ◌≤◌}
use Rattle.areas.specs.declared.area.Areas.{Areas}
use Rattle.areas.specs.Formed.{WellFormed}

-- well formed, over some image: "The image, read only, is 0 to 64 pages of 256 bytes."
pub record Formed (s : Areas) : Type 0 where
  pub images : ℕ
  pub few : images ≤ 64
  pub formed : WellFormed images s
