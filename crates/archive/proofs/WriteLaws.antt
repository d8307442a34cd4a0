-- The writes of an archive roll, played.
use Prim.Native.Nat.{ℕ, suc, ◌+◌, ◌*◌, ◌/◌, ◌%◌, ◌≤◌, ◌<◌}
use mathlib.Core.Path.{◌≡◌, refl, sym, ap, ◌∙◌, fun_ext}
use mathlib.Core.Bool.{Bool, true, false, ◌&&◌}
use mathlib.Core.List.{[], ◌∷◌}
use native.Mathlib.Omega.{arith}
use lib.Dec.{ltb, eqb}
use borrow.Author.Tests.{eqb-true, eq-eqb, ltb-true, ltb-false, lt-ltb, le-ltb, not-false, not-true}
use Rattle.basics.specs.Choice.{◌when◌else◌}
use Rattle.basics.proofs.TestLaws.{by_cases, when-cases, never, and_left, and_right, and-of, and-not-right}
use Rattle.basics.proofs.CountLaws.{count-le}
use Rattle.interface.specs.declared.page.Slot.{Slot}
use Rattle.interface.specs.declared.page.Slot.TheVariants.{Unmapped, Mapped}
use Rattle.interface.specs.declared.request.Request.{Request}
use Rattle.interface.specs.Slots.{Slots, is_mapped, rights_at, areas, mapped_pages, charge_of}
use Rattle.interface.specs.Outcome.{slots_after, copy_after}
use Rattle.interface.specs.Refusals.{refusal}
use Rattle.plain.specs.Machine.{Given, Pages, Core, view_of, stored, bytes_after, core_after}
use Rattle.archive.specs.Archive.{only, differs, write_at, addresses, writes}
use Rattle.archive.proofs.IsSnapshot.{IsSnapshot}
use Rattle.archive.specs.Segments.{Goes, built, remade, writable, filled}
use Rattle.archive.proofs.SegmentLaws.{goes_one, goes-only, goes-joined}
use Rattle.archive.proofs.TakenLaws.{write-taken}
use Rattle.archive.proofs.RunLaws.{areas-le}
use Rattle.archive.proofs.MapLaws.{mapped-remade, starts-remade, blank}

-- what a picture made anew charges and how many areas it has
pub remade-charge : (f : Slots) (r : ℕ → ℕ) → mapped_pages (λ i. remade r (f i)) ≤ mapped_pages f
unfolding mapped_pages
remade-charge f r = count-le (λ i. is_mapped (remade r (f i))) (λ i. is_mapped (f i)) 64 (λ i. rw (mapped-remade r (f i)) (λ m. m))

pub remade-areas : (f : Slots) (r : ℕ → ℕ) → areas (λ i. remade r (f i)) ≤ areas f
remade-areas f r = areas-le (λ i. remade r (f i)) f (starts-remade r f)

rights-writable : (x : Slot) → is_mapped x ≡ true → rights_at (writable x) ≡ 3
rights-writable Unmapped m = never false m refl
rights-writable (Mapped t) m = refl

ltb_next : (x a : ℕ) → (x ≡ a → ⊥) → ltb x a ≡ ltb x (suc a)
ltb_next x a n =
    by_cases (ltb x a) (λ l. l ∙ sym (lt-ltb x (suc a) (omega (arith, ltb-true x a l)))) (λ l. l ∙ sym (le-ltb x (suc a) (omega (arith, n, ltb-false x a l))))

module _ (g : Given) (s share : ℕ) (row : s < 4) (d : Pages) (h : IsSnapshot g.image share d) where
  abbrev f : Slots
  f = d.slots

  abbrev blank' : ℕ → ℕ → ℕ
  blank' = blank g s share row d h

  -- the bytes with those below an address written
  unfoldable pub filled_to : ℕ → ℕ → ℕ → ℕ
  filled_to a i j = d.bytes i j when is_mapped (f i) && (ltb j 256 && ltb (i * 256 + j) a) else blank' i j

  abbrev pub write_stage : ℕ → Core
  write_stage a = built share (λ i. writable (f i)) (filled_to a)

  filled_off : (a i j : ℕ) → (eqb i (a / 256) && eqb j (a % 256)) ≡ false → filled_to a i j ≡ filled_to (suc a) i j
  unfolding filled_to
  filled_off a i j n =
      by_cases (ltb j 256)
      (λ l. let other : i * 256 + j ≡ a → ⊥ = λ e.
      let page : i ≡ a / 256 = omega (arith, ltb-true j 256 l) in
      let offset : j ≡ a % 256 = omega (arith, ltb-true j 256 l) in
      never (eqb i (a / 256) && eqb j (a % 256)) (and-of (eq-eqb i (a / 256) page) (eq-eqb j (a % 256) offset)) n in
      rw (ltb_next (i * 256 + j) a other))
      (λ l. rw l)

  filled_at : (a : ℕ) → is_mapped (f (a / 256)) ≡ true → filled_to (suc a) (a / 256) (a % 256) ≡ d.bytes (a / 256) (a % 256)
  unfolding filled_to
  filled_at a m = rw (m, lt-ltb (a % 256) 256 (omega arith), lt-ltb (a / 256 * 256 + a % 256) (suc a) (omega arith))

  filled-before : (a : ℕ) → filled_to a (a / 256) (a % 256) ≡ blank' (a / 256) (a % 256)
  unfolding filled_to
  filled-before a = by_cases (is_mapped (f (a / 256))) (λ m. rw (m, lt-ltb (a % 256) 256 (omega arith), le-ltb (a / 256 * 256 + a % 256) a (omega arith)))
      (λ m. rw m)

  filled-unmapped : (a i j : ℕ) → is_mapped (f i) ≡ false → filled_to a i j ≡ blank' i j
  unfolding filled_to
  filled-unmapped a i j m = rw m

  module _ (a : ℕ) (l : a < addresses) where
    abbrev q : Request
    q = write_at s d a

    abbrev here : ℕ → ℕ → Bool
    here i j = eqb i (a / 256) && eqb j (a % 256)

    -- a function of pages and places that is told at the address and elsewhere
    at-or-off : (x y : ℕ → ℕ → ℕ) → x (a / 256) (a % 256) ≡ y (a / 256) (a % 256) → ((i j : ℕ) → here i j ≡ false → x i j ≡ y i j) → x ≡ y
    at-or-off x y e n =
        fun_ext λ i. fun_ext λ j.
        by_cases (here i j)
        (λ t. rw (eqb-true i (a / 256) (and_left (eqb i (a / 256)) _ t), eqb-true j (a % 256) (and_right (eqb i (a / 256)) _ t)) e)
        (n i j)

    module _ (differ : differs g.image d (a / 256) (a % 256) ≡ true) where
      there : is_mapped (f (a / 256)) ≡ true
      there = and_left (is_mapped (f (a / 256))) _ differ

      byte : d.bytes (a / 256) (a % 256) < 256
      byte = h.order.bytes (a / 256) (a % 256) there (not-true _ (and_right (is_mapped (f (a / 256))) _ differ))

      write_bytes : stored q (filled_to a) ≡ filled_to (suc a)
      write_bytes =
          at-or-off (stored q (filled_to a)) (filled_to (suc a))
          (rw (eq-eqb (a / 256) (a / 256) refl, eq-eqb (a % 256) (a % 256) refl) (sym (filled_at a there)))
          (λ i j n. rw n (filled_off a i j n))

      write-accepted : refusal (view_of g 0 (write_stage a)) q ≡ 0
      unfolding slots_after copy_after charge_of
      write-accepted =
          write-taken (view_of g 0 (write_stage a)) refl s row refl a (d.bytes (a / 256) (a % 256)) (omega (arith, l)) byte
          (rw (mapped-remade (λ r. 3) (f (a / 256))) there)
          (rights-writable (f (a / 256)) there)
          (omega (arith, h.charged, remade-charge f (λ r. 3))) (omega (arith, h.few, remade-areas f (λ r. 3)))

      write-leaves : core_after g q (write_stage a) ≡ write_stage (suc a)
      unfolding slots_after copy_after bytes_after
      write-leaves = ap (built share (λ i. writable (f i))) write_bytes

      write_goes : Goes g s (q ∷ []) (write_stage a) (write_stage (suc a))
      write_goes = goes_one g s q (write_stage a) (write_stage (suc a)) refl refl write-accepted write-leaves

    write-stays : differs g.image d (a / 256) (a % 256) ≡ false → write_stage a ≡ write_stage (suc a)
    write-stays n =
        ap (built share (λ i. writable (f i)))
        (at-or-off (filled_to a) (filled_to (suc a))
        (by_cases (is_mapped (f (a / 256)))
        (λ m. let equal = eqb-true _ _ (not-false _ (and-not-right (is_mapped (f (a / 256))) _ n m)) in filled-before a ∙ sym equal ∙ sym (filled_at a m))
        (λ m. filled-before a ∙ sym (filled-unmapped (suc a) (a / 256) (a % 256) m)))
        (filled_off a))

  pub writes_go : Goes g s (writes s g.image d) (write_stage 0) (write_stage addresses)
  unfolding writes
  writes_go =
      goes-joined g s (λ a. only (differs g.image d (a / 256) (a % 256)) (write_at s d a)) write_stage addresses
      (λ a l. goes-only g s (differs g.image d (a / 256) (a % 256)) (write_at s d a) (write_stage a) (write_stage (suc a)) (write_goes a l) (write-stays a l))

  none_yet : (i j : ℕ) → filled_to 0 i j ≡ blank' i j
  unfolding filled_to
  none_yet i j =
      when-cases (λ (x : ℕ). x ≡ blank' i j) (is_mapped (f i) && (ltb j 256 && ltb (i * 256 + j) 0))
      (λ e. absurd (omega (arith, ltb-true (i * 256 + j) 0 (and_right (ltb j 256) _ (and_right (is_mapped (f i)) _ e))))) (λ _. refl)

  pub write-start : built share (λ i. writable (f i)) blank' ≡ write_stage 0
  write-start = ap (built share (λ i. writable (f i))) (fun_ext λ i. fun_ext λ j. sym (none_yet i j))

  -- all bytes are written
  all-filled : (i j : ℕ) → filled_to addresses i j ≡ filled g.image d i j
  unfolding filled_to
  all-filled i j =
      by_cases (is_mapped (f i))
      (λ m. by_cases (ltb j 256)
      (λ l. rw (m, l, lt-ltb (i * 256 + j) addresses (omega (arith, h.inside i m, ltb-true j 256 l))))
      (λ l. rw (m, l)))
      (λ m. rw m)

  pub write-end : write_stage addresses ≡ built share (λ i. writable (f i)) (filled g.image d)
  write-end = ap (built share (λ i. writable (f i))) (fun_ext λ i. fun_ext λ j. all-filled i j)
