-- A sound record: what "A state is sound if" says of a sandbox's record, each condition a field, in the order of document 01.
use Rattle.std.specs.Prelude.{◌≡◌, true, false, ℕ, ◌≤◌}
use Rattle.interface.specs.Numbers.{most_share}
use Rattle.interface.specs.Slots.{is_mapped, is_committed, backing_at, charge_of}
use Rattle.areas.specs.Areas.{slots, empty}
use Rattle.areas.specs.Formed.{WellFormed}
use Rattle.records.specs.declared.Record.{Record}
use Rattle.records.specs.Record.{closed_record, copy_of}

-- over an image of so many pages
pub record SoundRecord (images : ℕ) (r : Record) : Type 0 where
  -- "areas, the snapshot's too, are at most 8, with rights 1 or 3, lie in 0 to 63, ordered, apart and longest; image pages exist"
  pub present : WellFormed images r.present
  pub snapshot : WellFormed images r.snapshot
  -- "the snapshot's areas are marked committed"
  pub marked : (i : ℕ) → is_mapped (slots r.snapshot i) ≡ true → is_committed (slots r.snapshot i) ≡ true
  -- "committed pages are snapshot pages and agree with them in backing"
  pub committed : (i : ℕ) → is_committed (slots r.present i) ≡ true → is_mapped (slots r.snapshot i) ≡ true
  pub backing : (i : ℕ) → is_committed (slots r.present i) ≡ true → backing_at (slots r.present i) ≡ backing_at (slots r.snapshot i)
  -- "the charge and share limits hold"
  pub charged : charge_of (slots r.present) (copy_of r) ≤ r.share
  pub shared : r.opened ≡ true → (1 ≤ r.share) × (r.share ≤ most_share)
  -- "a sandbox without a snapshot has no committed page": the snapshot's areas are empty
  pub untaken : r.taken ≡ false → r.snapshot ≡ empty
  -- "a closed one has nothing"
  pub closed : r.opened ≡ false → r ≡ closed_record
