-- One entry more of a part of the table.
use Rattle.std.proofs.Common.{◌∙◌, ◌≡◌, ap, arith, refl}
use Rattle.marks.proofs.EntryLaws.{entries_at, length-entries}
use Rattle.front_frames.specs.Fronts.{with_entries}
use Rattle.front_frames.proofs.EntryLaws.{entries-more}
use Rattle.front_frames.proofs.with_each.Goals as goal

pub loop-entry-init : goal.loop-entry-init
unfolding with_entries
loop-entry-init c = refl

pub loop-entry-preserved : goal.loop-entry-preserved
loop-entry-preserved c =
    let a = c.args in
    let l = c.loop-entry in
    entries-more a.table.now a.at a.run l.entry-index _ l.all _ l.invariant
    (entries_at a.table.now a.at a.n l.entry-index (omega (arith, length-entries a.table.now a.at a.n (omega arith))))
    c.with_entry-all.ensures

pub returns : goal.returns
returns c =
    let a = c.args in
    let end : c.loop-entry.entry-index ≡ a.n = omega (arith, length-entries a.table.now a.at a.n (omega arith)) in
    c.loop-entry.invariant ∙ ap (with_entries a.table.now a.at a.run) end
