-- What stands at each page of a sandbox, as its areas say it.
use Rattle.std.specs.Prelude.{ℕ, ◌-◌, ◌≤◌, ◌<◌, ◌≡◌, Bool, false, List, [], ◌∷◌, get_or, replicate}
use Rattle.basics.specs.Choice.{◌when◌else◌}
use Rattle.basics.specs.Ranges.{inside}
use Rattle.interface.specs.declared.page.Backing.{Backing}
use Rattle.interface.specs.declared.page.Backing.TheVariants.{Anonymous}
use Rattle.interface.specs.declared.page.Attributes.{Attributes}
use Rattle.interface.specs.declared.page.Slot.{Slot}
use Rattle.interface.specs.declared.page.Slot.TheVariants.{Unmapped}
use Rattle.interface.specs.Slots.{Slots, start_of}
use Rattle.interface.specs.Outcome.{page_on}
use Rattle.areas.specs.declared.area.Area.{Area}
use Rattle.areas.specs.declared.area.Areas.{Areas}

-- what stands in a place without an area
abbrev pub none : Area
none = record { first = record { 0 = 0 }; pages = 0; rights = 0; committed = false; backing = Anonymous }

-- no areas: "nothing is mapped"
abbrev pub empty : Areas
empty = record { count = 0; list = replicate 8 none }

-- "It has rights .. and a mark", and a backing: those of the area's first page
abbrev pub attributes_of : Area → Attributes
attributes_of a = record { rights = a.rights; committed = a.committed; backing = a.backing }

-- whether the page is one of the area's
abbrev pub covers : Area → ℕ → Bool
covers a page = inside a.first.0 a.pages page

-- what stands at a page of the area: "image pages running on"
abbrev pub slot_of : Area → ℕ → Slot
slot_of a page = page_on (attributes_of a) (page - a.first.0)

-- what stands at a page: the first of the areas that covers it says so
unfoldable pub slot_in : List Area → ℕ → Slot
slot_in [] page = Unmapped
slot_in (a ∷ l) page = slot_of a page when covers a page else slot_in l page

-- what stands at each page
abbrev pub slots : Areas → Slots
slots s page = slot_in s.list page

-- nothing is mapped from page 64 on: "Each has 64 pages"
unfoldable pub Bounded : Slots → Type 0
Bounded f = (page : ℕ) → 64 ≤ page → f page ≡ Unmapped

-- every area's first image page is at most 64, so that the image page of each of 64 pages is a byte
pub record Near (l : List Area) : Type 0 where
  pub at : (k : ℕ) → k < 8 → start_of (get_or l k none).backing ≤ 64
