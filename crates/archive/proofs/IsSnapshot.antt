-- What the copies that occur have: the limits and the order that the segments' laws suppose.
use Prim.Native.Nat.{ℕ, ◌*◌, ◌/◌, ◌≤◌, ◌<◌}
use mathlib.Core.Path.{◌≡◌}
use mathlib.Core.Bool.{true, false}
use mathlib.Core.List.{List}
use lib.Dec.{eqb}
use lib.ListN.{length}
use Rattle.interface.specs.declared.page.Backing.{Backing}
use Rattle.interface.specs.declared.page.Backing.TheVariants.{Anonymous, Image}
use Rattle.interface.specs.Slots.{is_mapped, is_committed, rights_at, backing_at, areas, mapped_pages}
use Rattle.interface.specs.Limits.{rights_ok}
use Rattle.plain.specs.Machine.{Pages, backing_byte}

-- an image page with this backing exists
abbrev pub HasImage : ℕ → Backing → Type 0
HasImage images Anonymous = Unit {0}
HasImage images (Image p) = p.0 < images

-- pages of which each has rights 1 or 3, an image page that exists, and in each place the byte that its backing has there, or a byte that a write put there
pub record InOrder (image : List ℕ) (d : Pages) : Type 0 where
  pub rights : (i : ℕ) → is_mapped (d.slots i) ≡ true → rights_ok (rights_at (d.slots i)) ≡ true
  pub backing : (i : ℕ) → is_mapped (d.slots i) ≡ true → HasImage (length image / 256) (backing_at (d.slots i))
  pub bytes : (i j : ℕ) → is_mapped (d.slots i) ≡ true → eqb (d.bytes i j) (backing_byte image (backing_at (d.slots i)) j) ≡ false → d.bytes i j < 256

-- what a snapshot of a sandbox with this share is
pub record IsSnapshot (image : List ℕ) (share : ℕ) (d : Pages) : Type 0 where
  pub least : 1 ≤ share
  pub most : share ≤ 128
  pub order : InOrder image d
  pub inside : (i : ℕ) → is_mapped (d.slots i) ≡ true → i < 64
  pub marked : (i : ℕ) → is_mapped (d.slots i) ≡ true → is_committed (d.slots i) ≡ true
  pub charged : 2 * mapped_pages d.slots ≤ share
  pub few : areas d.slots ≤ 8
