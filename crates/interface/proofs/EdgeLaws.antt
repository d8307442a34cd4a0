-- The limits on both sides of each edge, by computation.
use mathlib.Core.Path.{◌≡◌, refl}
use mathlib.Core.Bool.{true}
use Rattle.basics.specs.Ranges.{count, every, lowest, inside, over}
use Rattle.interface.specs.Slots.{follows, joins, areas, mapped_pages, uncommitted_pages, lowest_gap, charge_of}
use Rattle.interface.specs.Limits.{within}
use Rattle.interface.specs.Outcome.{first_of, slots_after, copy_after}
use Rattle.interface.specs.Refusals.{all_mapped, applies, refusal, archive_refusal}
use Rattle.interface.specs.Edges.{numbered, edges_hold}
use Rattle.interface.specs.ArchiveRows.{RowsHold, archive_rows}

pub edges-hold : edges_hold ≡ true
unfolding edges_hold numbered count every lowest inside over follows joins areas mapped_pages uncommitted_pages lowest_gap charge_of
    within first_of slots_after copy_after all_mapped applies refusal
edges-hold = refl

pub archive-rows : RowsHold archive_rows
unfolding archive_refusal
archive-rows = (refl, (refl, (refl, (refl, (refl, (refl, (refl, (refl, (refl, (refl, (refl, (refl, (refl, (refl, (refl, (refl, tt))))))))))))))))
