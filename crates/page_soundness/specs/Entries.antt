-- The part of the test of a page (page_test/specs/Pages) that looks at its entries, over what it reads alone.
use Rattle.std.specs.Prelude.{Bool, not, ℕ, eqb}
use Rattle.basics.specs.Choice.{implies}
use Rattle.interface.specs.declared.page.Slot.{Slot}
use Rattle.interface.specs.Slots.{is_mapped}

-- "fronts stand on mapped pages only, backs on snapshot pages only": of a slot and the entry of its page
abbrev pub entry_ok : Slot → ℕ → Bool
entry_ok slot e = implies (not (is_mapped slot)) (eqb e 0)
