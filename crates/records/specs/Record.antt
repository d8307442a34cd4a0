-- A sandbox's record: a closed one, its setters, and what refusals are decided from.
use Rattle.std.specs.Prelude.{Bool, false, ℕ}
use Rattle.std.proofs.Math.Option.{Option, some, none}
use Rattle.basics.specs.Choice.{◌when◌else◌}
use Rattle.interface.specs.Slots.{Slots}
use Rattle.interface.specs.Refusals.{View}
use Rattle.areas.specs.declared.area.Areas.{Areas}
use Rattle.areas.specs.Areas.{empty, slots}
use Rattle.records.specs.declared.Record.{Record}

-- "a closed one has nothing"
abbrev pub closed_record : Record
closed_record = record { opened = false; share = 0; present = empty; taken = false; snapshot = empty }

-- one setter for each field
abbrev pub with_opened : Bool → Record → Record
with_opened x r = record { opened = x; share = r.share; present = r.present; taken = r.taken; snapshot = r.snapshot }

abbrev pub with_share : ℕ → Record → Record
with_share x r = record { opened = r.opened; share = x; present = r.present; taken = r.taken; snapshot = r.snapshot }

abbrev pub with_present : Areas → Record → Record
with_present x r = record { opened = r.opened; share = r.share; present = x; taken = r.taken; snapshot = r.snapshot }

abbrev pub with_taken : Bool → Record → Record
with_taken x r = record { opened = r.opened; share = r.share; present = r.present; taken = x; snapshot = r.snapshot }

abbrev pub with_snapshot : Areas → Record → Record
with_snapshot x r = record { opened = r.opened; share = r.share; present = r.present; taken = r.taken; snapshot = x }

-- the snapshot's slots, where there is one
abbrev pub copy_of : Record → Option Slots
copy_of r = some (slots r.snapshot) when r.taken else none

-- what refusals are decided from, of this sandbox: whether lengths and state are right, the frames of the pool, the pages of the image, the shares of all
abbrev pub view_from : Bool → ℕ → ℕ → ℕ → Record → View
view_from sound frames images shares r = record {
  sound = sound;
  frames = frames;
  images = images;
  shares = shares;
  opened = r.opened;
  share = r.share;
  slots = slots r.present;
  copy = copy_of r;
}
