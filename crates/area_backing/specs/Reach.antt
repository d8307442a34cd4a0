-- How far an area of the snapshot has the pages of another area.
use Rattle.std.specs.Prelude.{◌&&◌, ℕ, ◌+◌, ◌-◌}
use Rattle.basics.specs.Choice.{◌when◌else◌}
use Rattle.interface.specs.Slots.{advance, follows}
use Rattle.areas.specs.declared.area.Area.{Area}
use Rattle.areas.specs.Areas.{covers}

-- how far the snapshot has the area's pages from this one on: to the end of an area of it that has the page with the same backing
abbrev pub reach : Area → Area → ℕ → ℕ
reach a copy page =
    copy.first.0 + copy.pages
    when (covers copy page && follows (advance a.backing (page - a.first.0)) 0 (advance copy.backing (page - copy.first.0))) else
    page
