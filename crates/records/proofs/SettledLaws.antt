-- The view of a sandbox with a sound record is settled.
use mathlib.Core.Path.{◌≡◌, sym, ap, ◌∙◌}
use mathlib.Core.Bool.{Bool, false}
use Prim.Native.Nat.{ℕ}
use Rattle.basics.proofs.TestLaws.{by_cases}
use Rattle.interface.specs.Slots.{copied}
use Rattle.interface.specs.Refusals.{is_taken}
use Rattle.interface.specs.Settled.{Settled}
use Rattle.areas.specs.Areas.{slots, empty}
use Rattle.areas.proofs.OrderLaws.{none-slots}
use Rattle.areas.proofs.FewAreas.{few-areas}
use Rattle.records.specs.declared.Record.{Record}
use Rattle.records.specs.Record.{copy_of, view_from}
use Rattle.records.specs.Sound.{SoundRecord}

-- whether there is a snapshot
pub taken-copy : (r : Record) → is_taken (copy_of r) ≡ r.taken
taken-copy r = by_cases r.taken (λ e. rw e) (λ e. rw e)

-- the snapshot's slots, whether one was taken or not
pub copied-as : (r : Record) → (r.taken ≡ false → r.snapshot ≡ empty) → copied (copy_of r) ≡ slots r.snapshot
copied-as r untaken = by_cases r.taken (λ t. rw t) (λ t. rw t (sym (ap slots (untaken t) ∙ none-slots)))

pub copied-slots : (images : ℕ) (r : Record) → SoundRecord images r → copied (copy_of r) ≡ slots r.snapshot
copied-slots images r S = copied-as r S.untaken

-- whatever else is in the view
pub settled-of : (images : ℕ) (r : Record) → SoundRecord images r → (sound : Bool) (frames pages shares : ℕ)
    → Settled (view_from sound frames pages shares r)
settled-of images r A sound frames pages shares =
    let copy = copied-slots images r A in
    record {
      charged = A.charged;
      few = few-areas images r.present A.present;
      copy_few = rw copy (few-areas images r.snapshot A.snapshot);
      copy_marked = rw copy A.marked;
    }
