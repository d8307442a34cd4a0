-- Each call that has a value has the one that it says; the others, which are no rewinds, have 0.
use mathlib.Core.Path.{◌∙◌, ap₂}
use Rattle.std.proofs.Common.{◌+◌}
use Rattle.table.specs.Store.{kept}
use Rattle.memory.proofs.ValueLaws.{map-value, read-value, snapshot-value, report-value, compare-value, no_value}
use Rattle.values.proofs.value_of.Goals as goal

pub returns-in-2 : goal.returns-in-2
returns-in-2 c h =
    map-value c.args.image.now c.args.q c.args.b (kept h c.args.pool.now c.args.table.now) c.from.result c.in-2.is (c.from.ensures ∙ c.first_of.ensures)

pub returns-in-5 : goal.returns-in-5
returns-in-5 c h =
    read-value c.args.image.now c.args.q c.args.b (kept h c.args.pool.now c.args.table.now) c.from-in-5.result c.in-5.is
    (c.from-in-5.ensures ∙ c.read.ensures h)

pub returns-in-7 : goal.returns-in-7
returns-in-7 c h =
    snapshot-value c.args.image.now c.args.q c.args.b (kept h c.args.pool.now c.args.table.now) c.from-in-7.result c.in-7.is
    (c.from-in-7.ensures ∙ c.mapped_pages.ensures)

pub returns-in-9 : goal.returns-in-9
returns-in-9 c h =
    report-value c.args.image.now c.args.q c.args.b (kept h c.args.pool.now c.args.table.now) _ c.frames_held.result c.kept.result c.in-9.is
    c.frames_held.ensures c.kept.ensures.value (ap₂ ◌+◌ c.from-in-9.ensures c.from-in-9-2.ensures)

pub returns-in-10 : goal.returns-in-10
returns-in-10 c h =
    compare-value c.args.image.now c.args.q c.args.b (kept h c.args.pool.now c.args.table.now) c.from-in-10.result c.in-10.is
    (c.from-in-10.ensures ∙ c.lowest_difference.ensures h)

pub returns-in_default : goal.returns-in_default
returns-in_default c h =
    let none = c.in_default.in_default-own.rest in
    no_value c.args.image.now c.args.q c.args.b (kept h c.args.pool.now c.args.table.now) none.0.0.0.0.1 none.0.0.0.1 none.0.0.1 none.0.1 none.1
    c.requires.fact
