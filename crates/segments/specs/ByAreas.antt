-- The maps and protects of a roll, by the places of the snapshot's areas.
use Rattle.std.specs.Prelude.{ℕ, Bool, not, List, eqb, get_or}
use Rattle.interface.specs.declared.request.Request.{Request}
use Rattle.interface.specs.Requests.{request_of, map_code, protect_code}
use Rattle.interface.specs.Slots.{kind_of, start_of}
use Rattle.areas.specs.declared.area.Area.{Area}
use Rattle.areas.specs.declared.area.Areas.{Areas}
use Rattle.areas.specs.Areas.{none}
use Rattle.archive.specs.Archive.{joined, only}
use Rattle.segments.specs.declared.Snapshot.{Snapshot}
use Rattle.segments.specs.declared.by_area.Segment.{Segment}
use Rattle.segments.specs.declared.by_area.Segment.TheVariants.{Maps, Protects}

-- of an area
abbrev pub map_of : ℕ → Area → Request
map_of s a = request_of map_code s a.first.0 a.pages (kind_of a.backing) (start_of a.backing) 3

abbrev pub protect_of : ℕ → Area → Request
protect_of s a = request_of protect_code s a.first.0 a.pages 1 0 0

-- whether a segment has a line for an area, and which
abbrev pub is_told : Segment → Area → Bool
is_told Maps a = not (eqb a.pages 0)
is_told Protects a = eqb a.rights 1

abbrev pub line_of : Segment → ℕ → Area → Request
line_of Maps s a = map_of s a
line_of Protects s a = protect_of s a

-- of a place; a place without an area has no pages and no rights
abbrev pub lines_at : Segment → ℕ → Areas → ℕ → List Request
lines_at segment s areas k = let a = get_or areas.list k none in only (is_told segment a) (line_of segment s a)

abbrev pub maps_at : ℕ → Areas → ℕ → List Request
maps_at = lines_at Maps

abbrev pub protects_at : ℕ → Areas → ℕ → List Request
protects_at = lines_at Protects

-- of all places
abbrev pub maps_of : Snapshot → List Request
maps_of b = joined (maps_at b.sandbox b.areas) 8

abbrev pub protects_of : Snapshot → List Request
protects_of b = joined (protects_at b.sandbox b.areas) 8
