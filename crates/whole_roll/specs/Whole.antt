-- The whole roll, segment by segment as the code puts it; and the roll in output memory, where it fits.
use Rattle.std.specs.Prelude.{ℕ, ◌*◌, List, ◌++◌, ltb, length}
use Rattle.basics.specs.Choice.{◌when◌else◌}
use Rattle.interface.specs.Answers.{Answer}
use Rattle.interface.specs.declared.request.Request.{Request}
use Rattle.interface.specs.Answers.{answered}
use Rattle.archive.specs.Archive.{opening, closing}
use Rattle.archive.specs.Written.{Written, written_as}
use Rattle.segments.specs.declared.Snapshot.{Snapshot}
use Rattle.segments.specs.ByAreas.{maps_of, protects_of}
use Rattle.segments.specs.ByPages.{writes_of}

-- from left to right: up to its maps, its writes, its protects
abbrev pub to_maps : Snapshot → List Request
to_maps b = opening b.sandbox b.share ++ maps_of b

abbrev pub to_writes : List ℕ → List ℕ → List ℕ → Snapshot → List Request
to_writes image pool table b = to_maps b ++ writes_of image pool table b

abbrev pub to_protects : List ℕ → List ℕ → List ℕ → Snapshot → List Request
to_protects image pool table b = to_writes image pool table b ++ protects_of b

unfoldable pub roll_of : List ℕ → List ℕ → List ℕ → Snapshot → List Request
roll_of image pool table b = to_protects image pool table b ++ closing b.sandbox

-- an answer, and the output memory that is left
abbrev pub left : Answer → List ℕ → Written
left answer out = record { answer = answered answer; out = out }

-- "15, output memory shorter than the roll"; else the roll is written
unfoldable pub fitted : List Request → List ℕ → Written
fitted roll out = written_as (15 when ltb (length out) (length roll * 43) else 0) roll out
