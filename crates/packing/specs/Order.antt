-- Sensible changes: those that keep slots in order.
use Rattle.std.specs.Prelude.{ℕ, ◌≡◌, true}
use Rattle.interface.specs.Limits.{rights_ok}
use Rattle.areas.specs.Order.{Sensible}
use Rattle.packing.specs.declared.pack.Change.{Change}
use Rattle.packing.specs.declared.pack.Change.TheVariants.{Map, Unmap, Protect, Commit}

-- a change of n pages after which each of them is in order
abbrev pub SensibleChange : ℕ → ℕ → Change → Type 0
SensibleChange images n (Map t) = Sensible images n t
SensibleChange images n Unmap = Unit {0}
SensibleChange images n (Protect r) = rights_ok r ≡ true
SensibleChange images n Commit = Unit {0}
