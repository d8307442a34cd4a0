-- How many bytes the image has.
use Rattle.std.specs.Prelude.{◌≡◌, false, ℕ}
use Rattle.state.specs.World.{lengths_ok}
use Rattle.image_file.specs.declared.Found.{Found}
use Rattle.image_file.specs.declared.Found.TheVariants.{Missing, Whole, Unreadable}

-- "missing: empty; not whole pages or above 64: a wrong length": a file that is there and cannot be read whole has a wrong length too, a byte above 64 pages
abbrev pub image_bytes : Found → ℕ
image_bytes Missing = 0
image_bytes (Whole bytes) = bytes
image_bytes Unreadable = 16385

-- "refusal 3 on each line not refused 1 or 2", whatever the lengths of pool and table
abbrev pub UnreadableIsWrong : Type 0
UnreadableIsWrong = (pool table : ℕ) → lengths_ok pool table (image_bytes Unreadable) ≡ false
