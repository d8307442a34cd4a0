-- What a sandbox and its snapshot are compared by: for call 10, request A1, "Still clean?"; for a rewind, request A4, "How many pages were put back?".
use Rattle.std.specs.Prelude.{ℕ, Bool, true, false, not, ◌&&◌, eqb}
use Rattle.basics.specs.Ranges.{count, lowest}
use Rattle.interface.specs.Numbers.{page_count}
use Rattle.interface.specs.declared.page.Slot.{Slot}
use Rattle.interface.specs.declared.page.Slot.TheVariants.{Unmapped, Mapped}
use Rattle.interface.specs.Slots.{Slots, is_committed}

-- "differ in being mapped, in rights or in bytes .. a page unmapped in both agrees": a page as it stands in the sandbox and in the snapshot, and whether its
-- bytes are the same in both. Backing and mark are not compared.
unfoldable pub agree : Slot → Slot → Bool → Bool
agree Unmapped Unmapped same_bytes = true
agree Unmapped (Mapped c) same_bytes = false
agree (Mapped t) Unmapped same_bytes = false
agree (Mapped t) (Mapped c) same_bytes = eqb t.rights c.rights && same_bytes

-- "the lowest page number at which the sandbox and its snapshot differ .., and 64 if they nowhere differ": of all 64 pages
unfoldable pub lowest_difference : Slots → Slots → (ℕ → Bool) → ℕ
lowest_difference present snapshot same_bytes = lowest (λ i. not (agree (present i) (snapshot i) (same_bytes i))) 0 page_count

-- "the number of committed pages still mapped whose bytes differed from the snapshot": a page that is no longer mapped, or was mapped anew, is not committed.
-- Rights do not count.
unfoldable pub changed_pages : Slots → (ℕ → Bool) → ℕ
changed_pages present same_bytes = count (λ i. is_committed (present i) && not (same_bytes i)) page_count

-- call 10 of the bytes of committed pages alone: "the lowest page number" that a rewind counts, "and 64 if they nowhere differ"
unfoldable pub lowest_changed : Slots → (ℕ → Bool) → ℕ
lowest_changed present same_bytes = lowest (λ i. is_committed (present i) && not (same_bytes i)) 0 page_count
