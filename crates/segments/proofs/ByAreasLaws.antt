-- At most one line for each place of an area.
use Prim.Native.Nat.{◌≤◌}
use lib.ListN.{length, get_or}
use Rattle.areas.specs.Areas.{none}
use Rattle.archive.specs.Archive.{joined}
use Rattle.archive.proofs.TextLaws.{only-length, joined_length}
use Rattle.segments.specs.declared.Snapshot.{Snapshot}
use Rattle.segments.specs.declared.by_area.Segment.{Segment}
use Rattle.segments.specs.declared.by_area.Segment.TheVariants.{Maps, Protects}
use Rattle.segments.specs.ByAreas.{is_told, line_of, lines_at, maps_of, protects_of}

lines-most : (segment : Segment) (b : Snapshot) → length (joined (lines_at segment b.sandbox b.areas) 8) ≤ 8
lines-most segment b =
    joined_length (lines_at segment b.sandbox b.areas) 8 (λ k.
    let area = get_or b.areas.list k none in
    only-length (is_told segment area) (line_of segment b.sandbox area))

pub maps-most : (b : Snapshot) → length (maps_of b) ≤ 8
maps-most b = lines-most Maps b

pub protects-most : (b : Snapshot) → length (protects_of b) ≤ 8
protects-most b = lines-most Protects b
