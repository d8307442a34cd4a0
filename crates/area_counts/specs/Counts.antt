-- Pages counted: which of them count, and one area's part of what is counted. The words of the code's contracts; no claim cites them.
use Rattle.std.specs.Prelude.{ℕ, ◌+◌, ◌-◌, Bool, true, false, not, ◌||◌, ltb}
use Rattle.basics.specs.Choice.{◌when◌else◌}
use Rattle.basics.specs.Ranges.{count}
use Rattle.interface.specs.declared.page.Slot.{Slot}
use Rattle.interface.specs.Slots.{Slots, is_mapped, is_uncommitted}
use Rattle.areas.specs.declared.area.Area.{Area}

-- whether a page counts: it is mapped, and not committed unless those count too
abbrev pub counts : Bool → Slot → Bool
counts true s = is_mapped s
counts false s = is_uncommitted s

-- what one area adds to "its mapped pages", or, without the committed ones, to "the uncommitted mapped pages"
abbrev pub counted_pages : Bool → Area → ℕ
counted_pages committed a = a.pages when (committed || not a.committed) else 0

-- the number from low to high that is nearest to x
abbrev pub clamped : ℕ → ℕ → ℕ → ℕ
clamped low high x = low when ltb x low else high when ltb high x else x

-- how many of the n pages from first on are one area's: so many lie between its first page and its end, each moved to the nearest of the range
abbrev pub overlap : Area → ℕ → ℕ → ℕ
overlap a first n = clamped first (first + n) (a.first.0 + a.pages) - clamped first (first + n) a.first.0

-- how many of the n pages from first on are mapped
unfoldable pub mapped_in : Slots → ℕ → ℕ → ℕ
mapped_in f first n = count (λ i. is_mapped (f (first + i))) n
