-- All of the pages are mapped where so many are, and none where their number is 0.
use Rattle.std.proofs.Common.{◌≡◌, true, false}
use Rattle.areas.specs.Areas.{slots}
use Rattle.area_counts.proofs.MappedLaws.{all-counted}
use Rattle.area_counts.proofs.all_are.Goals as goal

pub returns-then-mapped : goal.returns-then-mapped
returns-then-mapped c =
    let a = c.args in
    rw (c.mapped_in-pages.ensures, c.if-mapped.true) (all-counted true (slots a.areas) a.first.0 a.n)

pub returns-else-mapped : goal.returns-else-mapped
returns-else-mapped c =
    let a = c.args in
    rw (c.mapped_in-pages.ensures, c.if-mapped.false) (all-counted false (slots a.areas) a.first.0 a.n)
