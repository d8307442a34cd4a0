-- Packing by areas in place of pages: the words of the code's contracts. No claim cites them, and proofs/RunLaws says that they come to the same.
use Rattle.std.specs.Prelude.{ℕ, zero, suc, ◌+◌, ◌-◌, ◌≤◌, ◌<◌, ◌≡◌, false, ltb, eqb, length, set}
use Rattle.basics.specs.Choice.{◌when◌else◌}
use Rattle.interface.specs.Slots.{Slots}
use Rattle.interface.specs.Numbers.{most_areas}
use Rattle.areas.specs.declared.area.Area.{Area}
use Rattle.areas.specs.declared.area.Areas.{Areas}
use Rattle.areas.specs.Areas.{attributes_of}
use Rattle.packing.specs.declared.pack.Packed.{Packed}
use Rattle.packing.specs.Pack.{last, continues, push}

-- n pages from a page on pushed from left to right
unfoldable pub pack_on : Packed → Slots → ℕ → ℕ → Packed
pack_on b f from zero = b
pack_on b f from (suc n) = push (pack_on b f from n) (from + n) (f (from + n))

-- what is packed ends at this page or before
pub record Ready (b : Packed) (page : ℕ) : Type 0 where
  pub eight : length b.areas.list ≡ most_areas
  pub few : b.areas.count ≤ most_areas
  pub end : 0 < b.areas.count → (last b.areas).first.0 + (last b.areas).pages ≤ page

-- ---- an area pushed

-- the area with n pages more at its end
abbrev pub longer_by : Area → ℕ → Area
longer_by a n = record { first = a.first; pages = a.pages + n; rights = a.rights; committed = a.committed; backing = a.backing }

-- the last area made longer
abbrev pub extended_by : Areas → ℕ → Areas
extended_by s n = record { count = s.count; list = set s.list (s.count - 1) (longer_by (last s) n) }

-- an area put behind the last
abbrev pub placed : Areas → Area → Areas
placed s a = record { count = s.count + 1; list = set s.list s.count a }

-- an area more. "Areas are the longest runs of neighbouring pages that agree in rights, mark and backing (image pages running on). A sandbox has at most 8": it
-- goes on where the last area ends and they agree, or is put behind it, or finds no place; one of no pages changes nothing.
unfoldable pub push_area : Packed → Area → Packed
push_area b a =
    b when eqb a.pages 0 else
    record { areas = extended_by b.areas a.pages; fits = b.fits } when continues b.areas a.first.0 (attributes_of a) else
    record { areas = placed b.areas a; fits = b.fits } when ltb b.areas.count most_areas else
    record { areas = b.areas; fits = false }
