-- Row 13 as it is tested: from the present charge, and only for open, map and snapshot.
use Prim.Native.Nat.{ℕ, ◌+◌, ◌*◌, ◌≤◌}
use mathlib.Core.Path.{◌≡◌, refl, ap}
use mathlib.Core.Bool.{Bool, true, false, ◌&&◌, ◌||◌}
use native.Mathlib.Omega.{arith}
use lib.Dec.{ltb}
use borrow.Author.Tests.{le-ltb, eqb-true, ne_eqb, not-true}
use Rattle.basics.specs.Choice.{same}
use Rattle.basics.proofs.TestLaws.{by_cases}
use Rattle.basics.proofs.RangeLaws.{inside-first, inside-end}
use Rattle.basics.proofs.LoopLaws.{every-at}
use Rattle.interface.specs.declared.answer.Refusal.TheVariants.{ShareExceeded}
use Rattle.interface.specs.declared.request.Request.{Request}
use Rattle.interface.specs.Requests.{◌is◌, open_code, map_code, snapshot_code}
use Rattle.interface.specs.Slots.{is_mapped, mapped_pages, charge_of}
use Rattle.interface.specs.Outcome.{first_of, new_page, slots_after, copy_after, share_after}
use Rattle.interface.specs.Refusals.{View, charge_then, applies}
use Rattle.interface.specs.Settled.{Settled}
use Rattle.interface.proofs.KindLaws.{kind}
use Rattle.interface.proofs.ChargeLaws.{map-charge, snapshot-charge}
use Rattle.interface.proofs.RowLaws.{row-13}
use Rattle.areas.specs.Areas.{slots}
use Rattle.records.specs.declared.Record.{Record}
use Rattle.records.specs.Record.{copy_of, view_from}
use Rattle.rules.specs.Ready.{Ready, Passed}

module _ (frames images shares : ℕ) (b : Record) (q : Request) where
  abbrev pub view : View
  view = view_from true frames images shares b

  -- the row's condition
  abbrev pub exceeded : Bool
  exceeded = applies view q ShareExceeded

  -- a closed sandbox is charged nothing
  open-charge : {n : ℕ} → Ready n b → Passed view q → q.code ≡ open_code → ltb (share_after q b.share) (charge_then view q) ≡ false
  unfolding slots_after copy_after
  open-charge r p e =
      let none : b.share ≡ 0 = ap (λ (x : Record). x.share) (r.sound.closed (p.closed e)) in
      let less : charge_of (slots b.present) (copy_of b) ≤ q.p1 = omega (arith, r.sound.charged, none) in
      rw e (le-ltb _ _ less)

  -- the pages of a map are unmapped before it
  map-then : Passed view q → q.code ≡ map_code → charge_then view q ≡ charge_of (slots b.present) (copy_of b) + q.p2
  unfolding slots_after copy_after
  map-then p e =
      let first : ℕ = first_of (slots b.present) q in
      let m : (q is map_code) ≡ true = rw e in
      let n : (q is snapshot_code) ≡ false = rw e in
      rw (m, n)
      (map-charge (slots b.present) (copy_of b) (new_page q) first q.p2 refl (p.fits e)
      (λ i l.
      let from = inside-first first q.p2 i l in
      let below = inside-end first q.p2 i l in
      not-true (is_mapped (slots b.present i)) (every-at (λ j. same false (is_mapped (slots b.present j))) first q.p2 (p.free e) i from below)))

  snapshot-then : q.code ≡ snapshot_code → charge_then view q ≡ 2 * mapped_pages (slots b.present)
  unfolding slots_after copy_after
  snapshot-then e = rw e (snapshot-charge (slots b.present))

  pub exceeds-open : {n : ℕ} → Ready n b → Passed view q → q.code ≡ open_code → ltb frames (shares + q.p1) ≡ exceeded
  unfolding applies
  exceeds-open r p e =
      let o : (q is open_code) ≡ true = rw e in
      by_cases (ltb frames (shares + q.p1)) (λ x. rw (open-charge r p e, o, x)) (λ x. rw (open-charge r p e, o, x))

  pub exceeds-map : Passed view q → q.code ≡ map_code → (charge : ℕ) → charge ≡ charge_of (slots b.present) (copy_of b)
      → ltb b.share (charge + q.p2) ≡ exceeded
  unfolding applies
  exceeds-map p e charge h =
      let o : (q is open_code) ≡ false = rw e in
      rw (map-then p e, o, h)

  pub exceeds-snapshot : q.code ≡ snapshot_code → (pages : ℕ) → pages ≡ mapped_pages (slots b.present) → ltb b.share (2 * pages) ≡ exceeded
  unfolding applies
  exceeds-snapshot e pages h =
      let o : (q is open_code) ≡ false = rw e in
      rw (snapshot-then e, o, h)

  pub exceeds-not : Settled view → Passed view q → (q.code ≡ open_code → ⊥) → (q.code ≡ map_code → ⊥) → (q.code ≡ snapshot_code → ⊥) → false ≡ exceeded
  unfolding applies
  exceeds-not s p o m n =
      let no_open : (q is open_code) ≡ false = ne_eqb _ _ o in
      rw (row-13 view s q (kind q) no_open (ne_eqb _ _ m) (ne_eqb _ _ n) (λ t. p.taken (eqb-true _ _ t)), no_open)
