-- A law for each way out: no pages, the last area goes on, a new one, or no place.
use Rattle.std.proofs.Common.{◌≡◌, ◌<◌, ◌≤◌, sym, ◌∙◌, arith}
use borrow.Author.Tests.{ne_eqb}
use Rattle.packing.proofs.PushLaws.{continues-some, continues-last}
use Rattle.packing.proofs.RunLaws.{push-nothing, push-extends, push_places, push-full}
use Rattle.packing.proofs.pack.Packed.with_area.Goals as goal

pub returns-then-area-eq0 : goal.returns-then-area-eq0
returns-then-area-eq0 c = push-nothing _ _ c.if-area-eq0.true

pub extended-requires-clause-count_nonzero : goal.extended-requires-clause-count_nonzero
extended-requires-clause-count_nonzero c = continues-some _ _ _ (sym c.continues.ensures ∙ c.if-continues.true)

pub extended-requires-clause-pages_bound : goal.extended-requires-clause-pages_bound
extended-requires-clause-pages_bound c =
    omega (arith, (continues-last _ _ _ (sym c.continues.ensures ∙ c.if-continues.true)).end, c.requires.pages_bound)

pub returns-then-continues : goal.returns-then-continues
returns-then-continues c =
    let on = c.continues in
    push-extends _ _ (ne_eqb _ _ c.if-area-eq0.false) on.result on.ensures c.if-continues.true _ c.extended.ensures

pub returns-then-from-lt-MOST : goal.returns-then-from-lt-MOST
returns-then-from-lt-MOST c =
    let on = c.continues in
    push_places _ _ (ne_eqb _ _ c.if-area-eq0.false) on.result on.ensures
    c.if-continues.false (omega (arith, c.from.ensures, c.if-from-lt-MOST.true)) _ c.placed.ensures

pub returns : goal.returns
returns c =
    let on = c.continues in
    push-full _ _ (ne_eqb _ _ c.if-area-eq0.false) on.result on.ensures c.if-continues.false
    (omega (arith, c.from.ensures, c.if-from-lt-MOST.false))
