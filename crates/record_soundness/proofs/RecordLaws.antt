-- What the test of a record shows of it: all that soundness asks of a record, but for what is asked page by page. Every sound record passes it.
use mathlib.Core.Path.{◌≡◌, ap}
use mathlib.Core.Bool.{true, false}
use Prim.Native.Nat.{ℕ, ◌≤◌, ◌<◌}
use lib.Dec.{leb}
use borrow.Author.Tests.{leb-true, le-leb}
use Rattle.basics.proofs.TestLaws.{and_both, and-of}
use Rattle.interface.specs.Slots.{is_mapped, is_committed, backing_at, charge_of}
use Rattle.interface.proofs.SlotLaws.{committed-mapped}
use Rattle.areas.specs.declared.area.Areas.{Areas}
use Rattle.areas.specs.Areas.{slots, empty}
use Rattle.areas.specs.Formed.{WellFormed, well_formed}
use Rattle.areas.specs.Walk.{Formed}
use Rattle.areas.proofs.FormedLaws.{formed, formed-of}
use Rattle.areas.proofs.OrderLaws.{slots-inside, formed-empty}
use Rattle.areas.proofs.WalkLaws.{settled}
use Rattle.records.specs.declared.Record.{Record}
use Rattle.records.specs.Record.{closed_record, copy_of}
use Rattle.records.specs.Sound.{SoundRecord}
use Rattle.record_soundness.specs.Test.{record_ok}
use Rattle.record_soundness.proofs.FieldLaws.{FieldsSound, fields-true, fields-of}

-- what the test says
pub record Passed (images : ℕ) (r : Record) : Type 0 where
  pub present : WellFormed images r.present
  pub snapshot : WellFormed images r.snapshot
  pub charged : charge_of (slots r.present) (copy_of r) ≤ r.share
  pub fields : FieldsSound r.opened r.share r.taken r.present.count r.snapshot.count

-- what soundness asks of a page below 64
pub record Agrees (r : Record) (i : ℕ) : Type 0 where
  pub marked : is_mapped (slots r.snapshot i) ≡ true → is_committed (slots r.snapshot i) ≡ true
  pub committed : is_committed (slots r.present i) ≡ true → is_mapped (slots r.snapshot i) ≡ true
  pub backing : is_committed (slots r.present i) ≡ true → backing_at (slots r.present i) ≡ backing_at (slots r.snapshot i)

module _ (images : ℕ) (r : Record) where
  pub record-true : record_ok images r ≡ true → Passed images r
  unfolding record_ok
  record-true h =
      let h₁ = and_both (well_formed images r.present) _ h in
      let h₂ = and_both (well_formed images r.snapshot) _ h₁.1 in
      let h₃ = and_both (leb (charge_of (slots r.present) (copy_of r)) r.share) _ h₂.1 in
      record {
        present = formed images r.present h₁.0;
        snapshot = formed images r.snapshot h₂.0;
        charged = leb-true _ _ h₃.0;
        fields = fields-true r.opened r.share r.taken r.present.count r.snapshot.count h₃.1;
      }

  pub record_of : Passed images r → record_ok images r ≡ true
  unfolding record_ok
  record_of P =
      and-of (formed-of images r.present P.present)
      (and-of (formed-of images r.snapshot P.snapshot)
      (and-of (le-leb _ _ P.charged) (fields-of r.opened r.share r.taken r.present.count r.snapshot.count P.fields)))

  module _ (P : Passed images r) where
    -- as a walk along the areas asks
    pub both-formed : images ≤ 64 → (Formed r.present) × (Formed r.snapshot)
    both-formed few = (settled images r.present P.present few, settled images r.snapshot P.snapshot few)

    -- no page past 63 is committed
    pub committed-inside : (i : ℕ) → is_committed (slots r.present i) ≡ true → i < 64
    committed-inside i c = slots-inside images r.present P.present i (committed-mapped (slots r.present i) c)

    pub passed-untaken : r.taken ≡ false → r.snapshot ≡ empty
    passed-untaken t = formed-empty images r.snapshot P.snapshot (P.fields.untaken t)

    passed-closed : r.opened ≡ false → r ≡ closed_record
    passed-closed o =
        let n = P.fields.closed o in
        let x = formed-empty images r.present P.present n.1 in
        let y = passed-untaken n.2 in
        λ i. record { opened = o i; share = n.0 i; present = x i; taken = n.2 i; snapshot = y i }

    -- with what is asked of each page
    pub record-sound : ((i : ℕ) → i < 64 → Agrees r i) → SoundRecord images r
    record-sound page =
        record {
          present = P.present;
          snapshot = P.snapshot;
          marked = λ i m. (page i (slots-inside images r.snapshot P.snapshot i m)).marked m;
          committed = λ i c. (page i (committed-inside i c)).committed c;
          backing = λ i c. (page i (committed-inside i c)).backing c;
          charged = P.charged;
          shared = P.fields.shared;
          untaken = passed-untaken;
          closed = passed-closed;
        }

  pub sound-passed : SoundRecord images r → Passed images r
  sound-passed S =
      record {
        present = S.present;
        snapshot = S.snapshot;
        charged = S.charged;
        fields = record {
          shared = S.shared;
          untaken = λ t. ap (λ (a : Areas). a.count) (S.untaken t);
          closed = λ o.
              let e = S.closed o in
              (ap (λ (c : Record). c.share) e, ap (λ (c : Record). c.present.count) e, ap (λ (c : Record). c.taken) e);
        };
      }
