-- The world of a roll that is being played, and lines answered one after the other.
use Rattle.std.specs.Prelude.{◌≡◌, List, ℕ, zero, suc, ◌+◌, ◌*◌}
use Rattle.lines.specs.declared.Line.{Line}
use Rattle.line_numbers.specs.Numbers.{line_in}
use Rattle.columns.specs.Sizes.{reply_bytes}
use Rattle.state.specs.World.{World, world_of}
use Rattle.roll.specs.Play.{Replied}
use Rattle.replying.specs.declared.Playing.{Playing}

-- over this pool and table
abbrev pub played_by : Playing → List ℕ → List ℕ → World
played_by p pool table = world_of (record { sandboxes = p.sandboxes; held = p.held }) pool table

-- some output and world have this, and then the line is replied to
pub record Then (So : List ℕ → World → Type 0) (image : List ℕ) (line : Line) (number at : ℕ) (out : List ℕ) (v : World) : Type 0 where
  pub out_then : List ℕ
  pub world_then : World
  pub so : So out_then world_then
  pub replied : Replied image world_then line number at out_then out v

-- the first n of the lines whose numbers these are, replied to one after the other; the first of them is line `first + k` of the roll, and k have a reply
-- already, behind which the replies to these stand
unfoldable pub RepliedTo : List ℕ → List ℕ → ℕ → ℕ → World → List ℕ → ℕ → List ℕ → World → Type 0
RepliedTo image numbers first k w out₀ zero out v = (out ≡ out₀) × (v ≡ w)
RepliedTo image numbers first k w out₀ (suc n) out v =
    Then (RepliedTo image numbers first k w out₀ n) image (line_in numbers n) (first + (k + n)) ((k + n) * reply_bytes) out v
