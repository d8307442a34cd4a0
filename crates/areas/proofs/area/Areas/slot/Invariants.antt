-- No area that was passed covers the page, so what stands there is what the rest say.
use Rattle.std.proofs.Common.{◌≡◌, drop}
use Rattle.areas.specs.Areas.{slot_in, slots}
use Rattle.areas.proofs.area.Areas.slot.Given as goal

abbrev pub invariant-loop-area : goal.invariant-loop-area
invariant-loop-area l = slots l.fn.self l.fn.page.0 ≡ slot_in (drop l.area-index l.fn.self.list) l.fn.page.0
