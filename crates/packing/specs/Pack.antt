-- Areas packed from what stands at each page, from left to right, and the changes that a call makes before that.
use Rattle.std.specs.Prelude.{ℕ, zero, suc, ◌+◌, ◌-◌, Bool, true, false, ◌&&◌, ltb, get_or, set}
use Rattle.basics.specs.Choice.{◌when◌else◌}
use Rattle.basics.specs.Ranges.{over}
use Rattle.interface.specs.declared.page.Attributes.{Attributes}
use Rattle.interface.specs.declared.page.Slot.{Slot}
use Rattle.interface.specs.declared.page.Slot.TheVariants.{Unmapped, Mapped}
use Rattle.interface.specs.Slots.{Slots, with_rights, with_committed}
use Rattle.interface.specs.Outcome.{page_on}
use Rattle.areas.specs.declared.area.Area.{Area}
use Rattle.areas.specs.declared.area.Areas.{Areas}
use Rattle.interface.specs.Slots.{start_of}
use Rattle.areas.specs.Areas.{none, empty}
use Rattle.areas.specs.Formed.{goes_on}
use Rattle.packing.specs.declared.pack.Packed.{Packed}
use Rattle.packing.specs.declared.pack.Change.{Change}
use Rattle.packing.specs.declared.pack.Change.TheVariants.{Map, Unmap, Protect, Commit}

-- the area of one page
abbrev pub single : ℕ → Attributes → Area
single page t = record { first = record { 0 = page }; pages = 1; rights = t.rights; committed = t.committed; backing = t.backing }

-- the area with one page more at its end
abbrev pub longer : Area → Area
longer a = record { first = a.first; pages = a.pages + 1; rights = a.rights; committed = a.committed; backing = a.backing }

-- nothing packed yet
abbrev pub start : Packed
start = record { areas = empty; fits = true }

-- the last of the areas
abbrev pub last : Areas → Area
last s = get_or s.list (s.count - 1) none

-- whether a page goes on where the last area ends
unfoldable pub continues : Areas → ℕ → Attributes → Bool
continues s page t = ltb 0 s.count && goes_on (last s) page t

-- the last area made longer
abbrev pub extended : Areas → Areas
extended s = record { count = s.count; list = set s.list (s.count - 1) (longer (last s)) }

-- an area of one page put behind the last
abbrev pub added : Areas → ℕ → Attributes → Areas
added s page t = record { count = s.count + 1; list = set s.list s.count (single page t) }

-- one page more: it goes on where the last area ends, or starts an area, or finds no place: "A sandbox has at most 8"
unfoldable pub push : Packed → ℕ → Slot → Packed
push b page Unmapped = b
push b page (Mapped t) =
    record { areas = extended b.areas; fits = b.fits } when continues b.areas page t else
    record { areas = added b.areas page t; fits = b.fits } when ltb b.areas.count 8 else
    record { areas = b.areas; fits = false }

-- the pages 0 to n - 1 pushed from left to right
unfoldable pub pack_to : Slots → ℕ → Packed
pack_to f zero = start
pack_to f (suc n) = push (pack_to f n) n (f n)

-- "Areas are the longest runs of neighbouring pages that agree"
abbrev pub pack : Slots → Packed
pack f = pack_to f 64

-- what a change makes of a page, so many pages after its first
abbrev pub change_at : Change → ℕ → Slot → Slot
change_at (Map t) pages s = page_on t pages
change_at Unmap pages s = Unmapped
change_at (Protect r) pages s = with_rights r s
change_at Commit pages s = with_committed s

-- the slots after a change of n pages
abbrev pub changed : Slots → ℕ → ℕ → Change → Slots
changed f first n c = over first n (λ i. change_at c (i - first) (f i)) f

-- the first image page of a change, 0 where it has none
abbrev pub change_start : Change → ℕ
change_start (Map t) = start_of t.backing
change_start Unmap = 0
change_start (Protect r) = 0
change_start Commit = 0
