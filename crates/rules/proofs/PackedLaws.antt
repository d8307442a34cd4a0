-- The areas that a request leaves, from those of its change.
use Prim.Native.Nat.{ℕ}
use mathlib.Core.Path.{◌≡◌}
use mathlib.Core.Bool.{true}
use borrow.Author.Tests.{ne_eqb}
use Rattle.interface.specs.declared.page.Attributes.{Attributes}
use Rattle.interface.specs.declared.request.Request.{Request}
use Rattle.interface.specs.Requests.{◌is◌, map_code, unmap_code, protect_code, snapshot_code, rewind_code}
use Rattle.interface.specs.Outcome.{first_of, new_page, slots_after}
use Rattle.areas.specs.Areas.{slots}
use Rattle.areas.specs.Formed.{WellFormed}
use Rattle.areas.proofs.OrderLaws.{slots-bounded}
use Rattle.packing.specs.declared.pack.Packed.{Packed}
use Rattle.packing.specs.declared.pack.Change.{Change}
use Rattle.packing.specs.Pack.{pack, changed}
use Rattle.packing.proofs.ChangeLaws.{commit-slots}
use Rattle.records.specs.declared.Record.{Record}
use Rattle.rules.specs.After.{packed_after}

module _ (q : Request) (b : Record) (r : Packed) where
  pub packed-map : q.code ≡ map_code → (first : ℕ) (t : Attributes) → first ≡ first_of (slots b.present) q → t ≡ new_page q
      → r ≡ pack (changed (slots b.present) first q.p2 (Change.Map t)) → r ≡ packed_after q b
  unfolding packed_after slots_after
  packed-map e first t f n h =
      let map : (q is map_code) ≡ true = rw e in
      rw map (rw (f, n) at h)

  pub packed-unmap : q.code ≡ unmap_code → r ≡ pack (changed (slots b.present) q.p1 q.p2 Change.Unmap) → r ≡ packed_after q b
  unfolding packed_after slots_after
  packed-unmap e h = rw e h

  pub packed-protect : q.code ≡ protect_code → r ≡ pack (changed (slots b.present) q.p1 q.p2 (Change.Protect q.p3)) → r ≡ packed_after q b
  unfolding packed_after slots_after
  packed-protect e h = rw e h

  pub packed-snapshot : (images : ℕ) → WellFormed images b.present → q.code ≡ snapshot_code → r ≡ pack (changed (slots b.present) 0 64 Change.Commit)
      → r ≡ packed_after q b
  unfolding packed_after slots_after
  packed-snapshot images w e h = rw e (rw (commit-slots (slots b.present) (slots-bounded images b.present w)) at h)

module _ (q : Request) (b : Record) where
  pub packed-rewind : q.code ≡ rewind_code → record { areas = b.snapshot; fits = true } ≡ packed_after q b
  unfolding packed_after
  packed-rewind e = rw e

  pub packed_none : (q.code ≡ map_code → ⊥) → (q.code ≡ unmap_code → ⊥) → (q.code ≡ protect_code → ⊥) → (q.code ≡ snapshot_code → ⊥) → (q.code ≡ rewind_code → ⊥)
      → record { areas = b.present; fits = true } ≡ packed_after q b
  unfolding packed_after
  packed_none m u p n w = rw (ne_eqb _ _ m, ne_eqb _ _ u, ne_eqb _ _ p, ne_eqb _ _ n, ne_eqb _ _ w)
