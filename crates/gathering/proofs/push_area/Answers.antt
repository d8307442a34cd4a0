-- An area that is not gathered changes nothing.
use Rattle.gathering.proofs.AreaLaws.{area-left, area-pushed}
use Rattle.gathering.proofs.push_area.Goals as goal

pub returns-then-not-is_spared : goal.returns-then-not-is_spared
returns-then-not-is_spared c = area-left c.args.table.now c.args.sandbox c.args.area c.args.runs _ c.is_spared.ensures c.if-not-is_spared.true

pub returns : goal.returns
returns c =
    area-pushed c.args.table.now c.args.sandbox c.args.area c.args.runs _ c.is_spared.ensures _ _ c.if-not-is_spared.false c.fronts.ensures c.push.ensures
