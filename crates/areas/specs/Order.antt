-- Slots in order: what well formed areas say of each page, and what those are packed from.
use Rattle.std.specs.Prelude.{ℕ, ◌≡◌, true}
use Rattle.interface.specs.declared.page.Attributes.{Attributes}
use Rattle.interface.specs.declared.page.Slot.{Slot}
use Rattle.interface.specs.declared.page.Slot.TheVariants.{Unmapped, Mapped}
use Rattle.interface.specs.Slots.{Slots}
use Rattle.interface.specs.Limits.{rights_ok}
use Rattle.areas.specs.Formed.{ImagesExist}

-- "rights 1 or 3", "image pages exist": of n pages from one with these attributes on
pub record Sensible (images n : ℕ) (t : Attributes) : Type 0 where
  pub rights : rights_ok t.rights ≡ true
  pub image : ImagesExist images t.backing n

-- a page that is not mapped is in order
abbrev pub InOrder : ℕ → Slot → Type 0
InOrder images Unmapped = Unit {0}
InOrder images (Mapped t) = Sensible images 1 t

-- every page is in order
unfoldable pub AllInOrder : ℕ → Slots → Type 0
AllInOrder images f = (page : ℕ) → InOrder images (f page)
