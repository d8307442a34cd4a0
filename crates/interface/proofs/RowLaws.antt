-- Rows 13 and 14 over the view of a sound state: which calls they can meet.
use Prim.Native.Nat.{ℕ, ◌≤◌}
use mathlib.Core.Path.{◌≡◌, sym}
use mathlib.Core.Bool.{true, false, false≢true}
use mathlib.Core.Option.{Option, some, none}
use native.Mathlib.Omega.{arith}
use lib.Dec.{ltb}
use borrow.Author.Tests.{le-ltb}
use Rattle.basics.specs.Ranges.{over}
use Rattle.interface.specs.declared.page.Slot.TheVariants.{Unmapped}
use Rattle.interface.specs.declared.request.Request.{Request}
use Rattle.interface.specs.Requests.{◌is◌, open_code, map_code, unmap_code, protect_code, snapshot_code, rewind_code}
use Rattle.interface.specs.Slots.{Slots, is_mapped, is_committed, with_rights, areas, charge_of, copied}
use Rattle.interface.specs.Outcome.{slots_after, copy_after, share_after}
use Rattle.interface.specs.Refusals.{View, is_taken, slots_then, charge_then}
use Rattle.interface.specs.Settled.{Settled}
use Rattle.interface.proofs.KindLaws.{Kind, is_map, is_unmap, is_protect, is_write, is_snapshot, is_rewind, is_other}
use Rattle.interface.proofs.ChargeLaws.{unmap-charge, protect-charge, rewind-charge}

pub copy-charge : (f : Slots) (c : Option Slots) (share : ℕ) → is_taken c ≡ true → ((i : ℕ) → is_mapped (copied c i) ≡ true → is_committed (copied c i) ≡ true)
    → charge_of f c ≤ share → charge_of (copied c) c ≤ share
copy-charge f none share t m h = absurd (false≢true t)
copy-charge f (some d) share t m h = omega (arith, h, rewind-charge f d m)

module _ (v : View) (S : Settled v) (q : Request) where
  -- only open, map and snapshot can be refused by row 13
  pub row-13 : Kind q → (q is open_code) ≡ false → (q is map_code) ≡ false → (q is snapshot_code) ≡ false → ((q is rewind_code) ≡ true → is_taken v.copy ≡ true)
      → ltb (share_after q v.share) (charge_then v q) ≡ false
  unfolding slots_after copy_after
  row-13 (is_map e) o m n t = absurd (false≢true (sym (rw e at m)))
  row-13 (is_unmap e) o m n t =
      let less : charge_of (over q.p1 q.p2 (λ i. Unmapped) v.slots) v.copy ≤ v.share =
      omega (arith, S.charged, unmap-charge v.slots v.copy q.p1 q.p2) in
      rw e (le-ltb _ _ less)
  row-13 (is_protect e) o m n t =
      let less : charge_of (over q.p1 q.p2 (λ i. with_rights q.p3 (v.slots i)) v.slots) v.copy ≤ v.share =
      omega (arith, S.charged, protect-charge v.slots v.copy q.p1 q.p2 q.p3) in
      rw e (le-ltb _ _ less)
  row-13 (is_write e) o m n t = rw e (le-ltb _ _ S.charged)
  row-13 (is_snapshot e) o m n t = absurd (false≢true (sym (rw e at n)))
  row-13 (is_rewind e) o m n t = let less = copy-charge v.slots v.copy v.share (t (rw e)) S.copy_marked S.charged in rw e (le-ltb _ _ less)
  row-13 (is_other x₁ x₂ x₃ x₄ x₅ x₆) o m n t = rw (o, x₁, x₂, x₃, x₅, x₆) (le-ltb _ _ S.charged)

  -- only map, unmap, protect and snapshot can be refused by row 14
  pub row-14 : Kind q → (q is map_code) ≡ false → (q is unmap_code) ≡ false → (q is protect_code) ≡ false → (q is snapshot_code) ≡ false → areas (slots_then v q) ≤ 8
  unfolding slots_after
  row-14 (is_map e) m u p n = absurd (false≢true (sym (rw e at m)))
  row-14 (is_unmap e) m u p n = absurd (false≢true (sym (rw e at u)))
  row-14 (is_protect e) m u p n = absurd (false≢true (sym (rw e at p)))
  row-14 (is_write e) m u p n = rw e S.few
  row-14 (is_snapshot e) m u p n = absurd (false≢true (sym (rw e at n)))
  row-14 (is_rewind e) m u p n = rw e S.copy_few
  row-14 (is_other x₁ x₂ x₃ x₄ x₅ x₆) m u p n = rw (x₁, x₂, x₃, x₅, x₆) S.few
