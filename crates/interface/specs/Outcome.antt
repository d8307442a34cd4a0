-- What an accepted request leaves of a sandbox's slots, snapshot and share. Both machines, and rows 13 and 14, use these.
use Rattle.std.specs.Prelude.{ℕ, ◌-◌, false, eqb}
use Rattle.std.proofs.Math.Option.{Option, some}
use Rattle.basics.specs.Choice.{◌when◌else◌}
use Rattle.basics.specs.Ranges.{over}
use Rattle.interface.specs.Numbers.{any_page}
use Rattle.interface.specs.declared.page.Attributes.{Attributes}
use Rattle.interface.specs.declared.page.Slot.{Slot}
use Rattle.interface.specs.declared.page.Slot.TheVariants.{Unmapped, Mapped}
use Rattle.interface.specs.declared.request.Request.{Request}
use Rattle.interface.specs.Requests.{◌is◌, open_code, map_code, unmap_code, protect_code, snapshot_code, rewind_code, backing_of}
use Rattle.interface.specs.Slots.{Slots, with_rights, with_committed, advance, lowest_gap, copied}

-- "p1 first page, or 64 for the lowest gap that fits"
unfoldable pub first_of : Slots → Request → ℕ
first_of f q = lowest_gap f q.p2 when eqb q.p1 any_page else q.p1

-- what a map makes of each of its pages: "The new pages are uncommitted."
abbrev pub new_page : Request → Attributes
new_page q = record { rights = q.p5; committed = false; backing = backing_of q }

-- a page of a new area, so many pages after its first
abbrev pub page_on : Attributes → ℕ → Slot
page_on t pages = Mapped (record { rights = t.rights; committed = t.committed; backing = advance t.backing pages })

-- "Map makes the pages mapped and uncommitted"; "Unmap takes away mapping"; "Protect stores the rights"; "Snapshot commits every mapped page";
-- "Rewind puts the whole copy in place"
unfoldable pub slots_after : Request → Slots → Option Slots → Slots
slots_after q f c =
    (let first = first_of f q in over first q.p2 (λ i. page_on (new_page q) (i - first)) f) when q is map_code else
    over q.p1 q.p2 (λ i. Unmapped) f when q is unmap_code else
    over q.p1 q.p2 (λ i. with_rights q.p3 (f i)) f when q is protect_code else
    (λ i. with_committed (f i)) when q is snapshot_code else
    copied c when q is rewind_code else
    f

-- "Snapshot .. copies all pages": the pages as it leaves them
unfoldable pub copy_after {ℓ} : {A : Type ℓ} → Request → A → Option A → Option A
copy_after q now c = some now when q is snapshot_code else c

-- "Open .. stores the share"
abbrev pub share_after : Request → ℕ → ℕ
share_after q share = q.p1 when q is open_code else share
