-- The parts of the test of a page (page_test/specs/Pages) that look at no entry, each over what it reads alone, as the code computes it area by area.
use Rattle.std.specs.Prelude.{Bool, ◌&&◌}
use Rattle.basics.specs.Choice.{implies}
use Rattle.interface.specs.declared.page.Slot.{Slot}
use Rattle.interface.specs.Slots.{is_mapped, is_committed, backing_at, follows}

-- a page of the snapshot is committed
abbrev pub mark_ok : Slot → Bool
mark_ok copy = implies (is_mapped copy) (is_committed copy)

-- "committed pages are snapshot pages and agree with them in backing"
abbrev pub backing_ok : Slot → Slot → Bool
backing_ok slot copy =
    implies (is_committed slot) (is_mapped copy) && implies (is_committed slot) (follows (backing_at slot) 0 (backing_at copy))
