-- What the code asks of the image to have the bytes that the pages of an area start with.
use Rattle.std.specs.Prelude.{List, ℕ, ◌+◌, ◌*◌, ◌≤◌, ◌<◌, length}
use Rattle.interface.specs.declared.page.Backing.{Backing}
use Rattle.interface.specs.Slots.{advance, start_of}
use Rattle.table.specs.Backing.{backing_end}

-- the image has the pages that n pages from the first on start with ("image pages running on"), and their numbers are bytes
pub record Backed (image : List ℕ) (backing : Backing) (n : ℕ) : Type 0 where
  pub near : start_of backing + n < 256
  pub there : (i : ℕ) → i < n → backing_end (advance backing i) * 256 ≤ length image
