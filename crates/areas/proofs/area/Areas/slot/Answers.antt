-- No area that was passed covers the page, so what stands there is what the rest say.
use Rattle.std.proofs.Common.{rules, ◌≡◌, ◌<◌, length, sym, ◌∙◌, arith}
use Rattle.basics.proofs.RangeLaws.{inside-first}
use Rattle.basics.proofs.TestLaws.{length-mapped}
use Rattle.areas.proofs.SlotLaws.{slot_step, slot-end}
use Rattle.areas.proofs.area.Areas.slot.Goals as goal

pub slot-requires-clause-first_le_page : goal.slot-requires-clause-first_le_page
slot-requires-clause-first_le_page c = inside-first _ _ _ (sym c.covers.ensures ∙ c.if-covers.true)

pub returns-then-covers : goal.returns-then-covers
returns-then-covers c =
    let eight : length c.args.self.list ≡ 8 = search length-mapped in
    c.slot.ensures
    ∙ sym (c.loop-area.invariant ∙ slot_step c.args.self.list c.loop-area.area-index c.args.page.0 (omega (arith, eight))
    ∙ rw (← c.covers.ensures, c.if-covers.true))

pub loop-area-preserved : goal.loop-area-preserved
loop-area-preserved c =
    let eight : length c.args.self.list ≡ 8 = search length-mapped in
    c.loop-area.invariant ∙ slot_step c.args.self.list c.loop-area.area-index c.args.page.0 (omega (arith, eight)) ∙ rw (← c.covers.ensures, c.if-covers.false)

pub returns : goal.returns
returns c =
    let eight : length c.args.self.list ≡ 8 = search length-mapped in
    sym (c.loop-area.invariant ∙ slot-end c.args.self.list c.loop-area.area-index _ (omega (arith, eight)))
