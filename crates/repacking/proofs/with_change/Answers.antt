-- A mapped area is put behind what is packed, and unmapped pages add nothing.
use Rattle.std.proofs.Common.{◌≡◌, ◌-◌, ap, ◌∙◌}
use Rattle.areas.specs.Areas.{slots}
use Rattle.packing.specs.ByAreas.{push_area}
use Rattle.repacking.proofs.RepackLaws.{change-map, change-unmap, change-protect, change-commit}
use Rattle.repacking.proofs.with_change.Goals as goal

pub returns-in-Map : goal.returns-in-Map
returns-in-Map c =
    let a = c.args in
    change-map a.before (slots a.areas) a.from (a.to - a.from) a.change c.requires.ready _
    c.in-Map.is c.with_area.result (c.with_area.ensures ∙ ap (push_area a.before) c.area_from.ensures)

pub returns-in-Unmap : goal.returns-in-Unmap
returns-in-Unmap c = let a = c.args in change-unmap a.before (slots a.areas) a.from (a.to - a.from) a.change c.in-Unmap.is

pub returns-in-Protect : goal.returns-in-Protect
returns-in-Protect c =
    let a = c.args in
    change-protect a.before (slots a.areas) a.from (a.to - a.from) a.change _ c.in-Protect.is c.with_parts.result c.with_parts.ensures

pub returns-in-Commit : goal.returns-in-Commit
returns-in-Commit c =
    let a = c.args in
    change-commit a.before (slots a.areas) a.from (a.to - a.from) a.change c.in-Commit.is c.with_parts-in-Commit.result c.with_parts-in-Commit.ensures
