-- The test of the other fields of a record says what soundness asks of it, both ways.
use mathlib.Core.Path.{◌≡◌, ap}
use mathlib.Core.Bool.{Bool, true, false, not, ◌&&◌}
use Prim.Native.Nat.{ℕ, ◌≤◌}
use lib.Dec.{leb, eqb}
use borrow.Author.Tests.{eq-eqb, eqb-true, leb-true, le-leb, not-true}
use Rattle.basics.specs.Choice.{implies}
use Rattle.basics.proofs.TestLaws.{and_both, and-of, implied, implies-of}
use Rattle.interface.specs.Limits.{between}
use Rattle.record_soundness.specs.Test.{fields_ok}

pub record FieldsSound (opened : Bool) (share : ℕ) (taken : Bool) (presentAreas snapshotAreas : ℕ) : Type 0 where
  pub shared : opened ≡ true → (1 ≤ share) × (share ≤ 128)
  pub untaken : taken ≡ false → snapshotAreas ≡ 0
  pub closed : opened ≡ false → (share ≡ 0) × (presentAreas ≡ 0) × (taken ≡ false)

pub fields-true : (opened : Bool) (share : ℕ) (taken : Bool) (presentAreas snapshotAreas : ℕ)
    → fields_ok opened share taken presentAreas snapshotAreas ≡ true → FieldsSound opened share taken presentAreas snapshotAreas
unfolding fields_ok
fields-true opened share taken presentAreas snapshotAreas h =
    let nothing : Bool = eqb share 0 && (eqb presentAreas 0 && not taken) in
    let h₁ = and_both (implies opened (between 1 128 share)) _ h in
    let h₂ = and_both (implies (not taken) (eqb snapshotAreas 0)) (implies (not opened) nothing) h₁.1 in
    record {
      shared = λ o.
          let r = and_both (leb 1 share) (leb share 128) (implied opened (between 1 128 share) h₁.0 o) in
          (leb-true 1 share r.0, leb-true share 128 r.1);
      untaken = λ t. eqb-true snapshotAreas 0 (implied (not taken) (eqb snapshotAreas 0) h₂.0 (ap not t));
      closed = λ o.
          let r = and_both (eqb share 0) (eqb presentAreas 0 && not taken) (implied (not opened) nothing h₂.1 (ap not o)) in
          let n = and_both (eqb presentAreas 0) (not taken) r.1 in
          (eqb-true share 0 r.0, eqb-true presentAreas 0 n.0, not-true taken n.1);
    }

pub fields-of : (opened : Bool) (share : ℕ) (taken : Bool) (presentAreas snapshotAreas : ℕ)
    → FieldsSound opened share taken presentAreas snapshotAreas → fields_ok opened share taken presentAreas snapshotAreas ≡ true
unfolding fields_ok
fields-of opened share taken presentAreas snapshotAreas R =
    and-of (implies-of opened (between 1 128 share) (λ o. and-of (le-leb 1 share (R.shared o).0) (le-leb share 128 (R.shared o).1)))
    (and-of (implies-of (not taken) (eqb snapshotAreas 0) (λ t. eq-eqb snapshotAreas 0 (R.untaken (not-true taken t))))
    (implies-of (not opened) (eqb share 0 && (eqb presentAreas 0 && not taken))
    (λ o. let n = R.closed (not-true opened o) in and-of (eq-eqb share 0 n.0) (and-of (eq-eqb presentAreas 0 n.1) (ap not n.2)))))
