-- What stands at each page of a sandbox, and what is counted from it: areas, pages, gaps, the charge.
use Rattle.std.specs.Prelude.{ℕ, zero, suc, ◌+◌, ◌-◌, ◌*◌, Bool, true, false, not, ◌&&◌, leb, eqb}
use Rattle.std.proofs.Math.Option.{Option, some, none}
use Rattle.basics.specs.Choice.{same}
use Rattle.basics.specs.Ranges.{count, every, lowest}
use Rattle.interface.specs.Numbers.{page_count, anonymous_backing, image_backing}
use Rattle.interface.specs.declared.page.Backing.{Backing}
use Rattle.interface.specs.declared.page.Backing.TheVariants.{Anonymous, Image}
use Rattle.interface.specs.declared.page.Slot.{Slot}
use Rattle.interface.specs.declared.page.Slot.TheVariants.{Unmapped, Mapped}

-- what stands at each of the 64 pages; nothing from page 64 on
abbrev pub Slots : Type 0
Slots = ℕ → Slot

abbrev pub is_mapped : Slot → Bool
is_mapped Unmapped = false
is_mapped (Mapped t) = true

abbrev pub is_committed : Slot → Bool
is_committed Unmapped = false
is_committed (Mapped t) = t.committed

-- mapped and not committed
abbrev pub is_uncommitted : Slot → Bool
is_uncommitted Unmapped = false
is_uncommitted (Mapped t) = not t.committed

-- "It has rights, 1 for read or 3 for read and write"
abbrev pub rights_at : Slot → ℕ
rights_at Unmapped = 0
rights_at (Mapped t) = t.rights

abbrev pub backing_at : Slot → Backing
backing_at Unmapped = Anonymous
backing_at (Mapped t) = t.backing

-- the slot with other rights, if it is mapped
abbrev pub with_rights : ℕ → Slot → Slot
with_rights r Unmapped = Unmapped
with_rights r (Mapped t) = Mapped (record { rights = r; committed = t.committed; backing = t.backing })

-- the slot committed, if it is mapped
abbrev pub with_committed : Slot → Slot
with_committed Unmapped = Unmapped
with_committed (Mapped t) = Mapped (record { rights = t.rights; committed = true; backing = t.backing })

-- the backing of the page that is so many pages on: "image pages running on"
abbrev pub advance : Backing → ℕ → Backing
advance Anonymous pages = Anonymous
advance (Image first) pages = Image (record { 0 = first.0 + pages })

abbrev pub is_anonymous : Backing → Bool
is_anonymous Anonymous = true
is_anonymous (Image page) = false

-- "p3 backing, 0 anonymous, 1 image"
abbrev pub kind_of : Backing → ℕ
kind_of Anonymous = anonymous_backing
kind_of (Image first) = image_backing

-- "p4 first image page (0 when anonymous)"
abbrev pub start_of : Backing → ℕ
start_of Anonymous = 0
start_of (Image first) = first.0

-- whether the second backing is the first one, so many pages on
unfoldable pub follows : Backing → ℕ → Backing → Bool
follows Anonymous pages Anonymous = true
follows Anonymous pages (Image second) = false
follows (Image first) pages Anonymous = false
follows (Image first) pages (Image second) = eqb (first.0 + pages) second.0

-- "neighbouring pages that agree in rights, mark and backing (image pages running on)"
unfoldable pub joins : Slot → Slot → Bool
joins Unmapped y = false
joins (Mapped s) Unmapped = false
joins (Mapped s) (Mapped t) = eqb s.rights t.rights && (same s.committed t.committed && follows s.backing 1 t.backing)

-- the slot of the page before, if there is one
abbrev pub previous : Slots → ℕ → Slot
previous f zero = Unmapped
previous f (suc i) = f i

-- "Areas are the longest runs": one starts at each mapped page that does not join the page before
abbrev pub starts_area : Slots → ℕ → Bool
starts_area f i = is_mapped (f i) && not (joins (previous f i) (f i))

unfoldable pub areas : Slots → ℕ
areas f = count (starts_area f) page_count

unfoldable pub mapped_pages : Slots → ℕ
mapped_pages f = count (λ i. is_mapped (f i)) page_count

unfoldable pub uncommitted_pages : Slots → ℕ
uncommitted_pages f = count (λ i. is_uncommitted (f i)) page_count

-- whether the n pages from first on are all mapped (or, with false, all unmapped)
abbrev pub all_are : Bool → Slots → ℕ → ℕ → Bool
all_are mapped f first n = every (λ i. same mapped (is_mapped (f i))) first n

-- whether n unmapped pages run from this page on
abbrev pub gap_at : Slots → ℕ → ℕ → Bool
gap_at f n first = leb n (page_count - first) && all_are false f first n

-- "the lowest gap that fits"; 64 where "no run of p2 unmapped pages exists"
unfoldable pub lowest_gap : Slots → ℕ → ℕ
lowest_gap f n = lowest (gap_at f n) 0 page_count

-- the snapshot's slots; without a snapshot nothing is mapped there
abbrev pub copied : Option Slots → Slots
copied none i = Unmapped
copied (some c) i = c i

-- "The charge of a sandbox is its mapped pages before a snapshot. Afterwards it is 2 × the snapshot's pages, mapped or not, plus the uncommitted mapped pages."
unfoldable pub charge_of : Slots → Option Slots → ℕ
charge_of f none = mapped_pages f
charge_of f (some c) = 2 * mapped_pages c + uncommitted_pages f
