-- The parts of the areas that were passed are pushed; an area that has no page there adds nothing.
use Rattle.std.proofs.Common.{◌≡◌, ◌<◌, ◌≤◌, ap, ◌∙◌, true, false, arith, get_or}
use mathlib.Core.Logic.{◌⊎◌, inl, inr}
use Rattle.areas.specs.Areas.{none}
use Rattle.areas.proofs.WalkLaws.{held-length, held-at}
use Rattle.area_parts.specs.Parts.{part_of, updated_area}
use Rattle.packing.specs.ByAreas.{push_area}
use Rattle.repacking.proofs.PartLaws.{Parts, parts-start, parts-few, parts_next, parts_all}
use Rattle.repacking.proofs.with_parts.Goals as goal
use Rattle.repacking.proofs.with_parts.Goals.{then-reaches, else-reaches}

pub loop-area-init : goal.loop-area-init
loop-area-init c =
    let a = c.args in
    let r = c.requires in
    parts-start a.areas r.formed a.update a.before a.from a.to r.from_le_to r.ready

pub with_area-packed-requires-clause-count_bound : goal.with_area-packed-requires-clause-count_bound
with_area-packed-requires-clause-count_bound c =
    let a = c.args in
    let r = c.requires in
    let l = c.loop-area in
    parts-few a.areas r.formed a.update a.before a.from a.to r.from_le_to r.ready l.area-index l.packed l.invariant

pub loop-area-preserved : goal.loop-area-preserved
loop-area-preserved c =
    let a = c.args in
    let r = c.requires in
    let l = c.loop-area in
    let items = c.as_slice-area-items in
    let low : l.area-index < a.areas.count = omega (arith, held-length a.areas r.formed _ items.ensures, c.loop-area-test.true) in
    let there : get_or items.result.now l.area-index none ≡ get_or a.areas.list l.area-index none =
    held-at a.areas r.formed _ items.ensures l.area-index c.loop-area-test.true in
    let reaches = rw there at c.reaches.ensures in
    let way : ((c.reaches.result ≡ true)
    × (c.if-reaches.packed ≡ push_area l.packed (updated_area a.update (part_of (get_or a.areas.list l.area-index none) a.from a.to))))
    ⊎ ((c.reaches.result ≡ false) × (c.if-reaches.packed ≡ l.packed)) =
    elim c.if-reaches.branch [
      | then-reaches w ↦ inl (
        w.if-reaches.true,
        w.packed-is ∙ w.with_area-packed.ensures
            ∙ ap (push_area l.packed) (w.area.ensures ∙ ap (updated_area a.update) (rw there at w.part.ensures)),
      )
      | else-reaches w ↦ inr (w.if-reaches.false, w.packed-is)
    ] in
    parts_next a.areas r.formed a.update a.before a.from a.to r.from_le_to r.ready l.area-index l.packed l.invariant low
    c.reaches.result c.if-reaches.packed reaches way

pub returns : goal.returns
returns c =
    let a = c.args in
    let r = c.requires in
    let l = c.loop-area in
    let past : a.areas.count ≤ l.area-index =
    omega (arith, held-length a.areas r.formed _ c.as_slice-area-items.ensures, c.loop-area-test.false) in
    parts_all a.areas r.formed a.update a.before a.from a.to r.from_le_to r.ready l.area-index l.packed l.invariant past
