-- Parts of areas, and what becomes of an area: the words of the code's contracts. No claim cites them.
use Rattle.std.specs.Prelude.{ℕ, ◌+◌, ◌-◌, min, max, true}
use Rattle.interface.specs.declared.page.Attributes.{Attributes}
use Rattle.interface.specs.declared.page.Slot.{Slot}
use Rattle.interface.specs.declared.page.Slot.TheVariants.{Unmapped, Mapped}
use Rattle.interface.specs.Slots.{advance}
use Rattle.areas.specs.declared.area.Area.{Area}
use Rattle.areas.specs.Areas.{attributes_of}
use Rattle.area_parts.specs.declared.Update.{Update}
use Rattle.area_parts.specs.declared.Update.TheVariants.{Keep, Rights, Commit}

-- the area of n pages from this page on, the first of them with these attributes
abbrev pub area_from : ℕ → ℕ → Attributes → Area
area_from page n t = record { first = record { 0 = page }; pages = n; rights = t.rights; committed = t.committed; backing = t.backing }

-- the part of an area between two pages: it may have no page
abbrev pub part_of : Area → ℕ → ℕ → Area
part_of a from to =
    let page = max a.first.0 from in
    record {
      first = record { 0 = page };
      pages = min (a.first.0 + a.pages) to - page;
      rights = a.rights;
      committed = a.committed;
      backing = advance a.backing (page - a.first.0);
    }

-- what becomes of a mapped page
abbrev pub updated_to : Update → Attributes → Attributes
updated_to Keep t = t
updated_to (Rights r) t = record { rights = r; committed = t.committed; backing = t.backing }
updated_to Commit t = record { rights = t.rights; committed = true; backing = t.backing }

-- what becomes of a page
abbrev pub updated : Update → Slot → Slot
updated update Unmapped = Unmapped
updated update (Mapped t) = Mapped (updated_to update t)

-- what becomes of an area
abbrev pub updated_area : Update → Area → Area
updated_area update a = area_from a.first.0 a.pages (updated_to update (attributes_of a))
