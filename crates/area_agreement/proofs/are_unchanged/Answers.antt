-- So far every area stays, or not.
use Rattle.std.proofs.Common.{◌≡◌, refl, sym, ap, ◌∙◌, arith, get_or, length}
use Rattle.basics.specs.Ranges.{every}
use Rattle.basics.proofs.LoopLaws.{every-last}
use Rattle.basics.proofs.TestLaws.{length-mapped}
use Rattle.areas.specs.Areas.{none}
use Rattle.area_agreement.specs.Unchanged.{stays, unchanged}
use Rattle.area_agreement.proofs.are_unchanged.Goals as goal

pub loop-k-init : goal.loop-k-init
unfolding every
loop-k-init c = refl

pub loop-k-preserved : goal.loop-k-preserved
loop-k-preserved c =
    let a = c.args in
    rw (c.stays-same.ensures, c.loop-k.invariant)
    (sym (every-last (λ k. stays (get_or a.present.list k none) (get_or a.snapshot.list k none)) c.loop-k.k))

pub returns : goal.returns
unfolding unchanged
returns c =
    let a = c.args in
    let eight : length a.present.list ≡ 8 = search length-mapped in
    c.loop-k.invariant
    ∙ ap (every (λ k. stays (get_or a.present.list k none) (get_or a.snapshot.list k none)) 0) (omega (arith, eight))
