-- The protects and the snapshot of an archive roll, played.
use Prim.Native.Nat.{ℕ, zero, suc, ◌+◌, ◌≤◌, ◌<◌}
use mathlib.Core.Path.{◌≡◌, refl, sym, ap, ◌∙◌, fun_ext}
use mathlib.Core.Bool.{true, false, ◌&&◌, ◌||◌}
use mathlib.Core.List.{[], ◌∷◌}
use mathlib.Core.Option.{some, none}
use native.Mathlib.Omega.{arith}
use lib.Dec.{ltb, eqb}
use borrow.Author.Tests.{eqb-true, ltb-true, ltb-false}
use Rattle.basics.specs.Choice.{same}
use Rattle.basics.proofs.TestLaws.{by_cases, never, and_left, and_right, and-not-right}
use Rattle.basics.proofs.LoopLaws.{every_of}
use Rattle.basics.proofs.CountLaws.{count-le}
use Rattle.interface.specs.declared.page.Slot.{Slot}
use Rattle.interface.specs.declared.page.Slot.TheVariants.{Unmapped, Mapped}
use Rattle.interface.specs.declared.request.Request.{Request}
use Rattle.interface.specs.Requests.{request_of, snapshot_code}
use Rattle.interface.specs.Slots.{Slots, is_mapped, is_committed, rights_at, with_rights, with_committed, joins, previous, starts_area, areas, mapped_pages}
use Rattle.interface.specs.Slots.{charge_of, all_are}
use Rattle.interface.specs.Outcome.{slots_after, copy_after}
use Rattle.interface.specs.Refusals.{refusal}
use Rattle.interface.proofs.ChargeLaws.{snapshot-charge}
use Rattle.plain.specs.Machine.{Given, Pages, Core, view_of, bytes_after, core_after}
use Rattle.archive.specs.Archive.{only, end_from, read_only_start, pages_from, protect_at, protects, closing}
use Rattle.archive.proofs.IsSnapshot.{IsSnapshot}
use Rattle.archive.specs.Segments.{Goes, built, writable, unmarked, snapped}
use Rattle.archive.proofs.SegmentLaws.{goes_one, goes-only, goes-joined}
use Rattle.archive.proofs.TakenLaws.{protect-taken, snapshot-taken}
use Rattle.archive.proofs.RunLaws.{cut, cut-from, cut-split, cut-none, cut_all, cut_on, over-cut, end-past, end-here, end-apart, none-joins}
use Rattle.archive.proofs.RunLaws.{areas-le, starts-of}
use Rattle.archive.proofs.MapLaws.{mapped-remade, remade-none, starts-below, starts-remade, start-mapped, start-end, start-next, start-some}
use Rattle.archive.proofs.MapLaws.{start-inside, start-page, cut-stays, nothing-past}
use Rattle.archive.proofs.WriteLaws.{remade-charge}

rights-back : (x : Slot) → rights_at x ≡ 1 → with_rights 1 (writable x) ≡ unmarked x
rights-back Unmapped e = refl
rights-back (Mapped t) e = rw e

rights-stay : (x : Slot) → rights_at x ≡ 3 → unmarked x ≡ writable x
rights-stay Unmapped e = refl
rights-stay (Mapped t) e = rw e

three : (r : ℕ) → (eqb r 1 || eqb r 3) ≡ true → eqb r 1 ≡ false → r ≡ 3
three r ok n = eqb-true r 3 (rw n at ok)

commit-back : (x : Slot) → (is_mapped x ≡ true → is_committed x ≡ true) → with_committed (unmarked x) ≡ x
commit-back Unmapped h = refl
commit-back (Mapped t) h = rw (h refl)

previous-from : (b : ℕ) (f g : Slots) (i : ℕ) → b < i → previous (cut b f g) i ≡ previous g i
previous-from b f g zero h = absurd (omega arith)
previous-from b f g (suc i) h = cut-from b f g i (omega arith)

starts_from : (b : ℕ) (f g : Slots) (i : ℕ) → b < i → starts_area (cut b f g) i ≡ starts_area g i
starts_from b f g i h = rw (previous-from b f g i h, cut-from b f g i (omega arith))

module _ (g : Given) (s share : ℕ) (row : s < 4) (d : Pages) (h : IsSnapshot g.image share d) (bytes : ℕ → ℕ → ℕ) where
  abbrev f : Slots
  f = d.slots

  abbrev pub protected_to : ℕ → Slots
  protected_to b = cut b (λ i. unmarked (f i)) (λ i. writable (f i))

  abbrev pub protect_stage : ℕ → Core
  protect_stage i = built share (protected_to (end_from f i)) bytes

  mapped-there : (b i : ℕ) → is_mapped (protected_to b i) ≡ is_mapped (f i)
  mapped-there b i = cut-split (λ x. is_mapped x ≡ is_mapped (f i)) b (λ i. unmarked (f i)) (λ i. writable (f i)) i (λ _. mapped-remade (λ r. r) (f i))
      (λ _. mapped-remade (λ r. 3) (f i))

  protected-charge : (b : ℕ) → charge_of (protected_to b) none ≤ share
  unfolding charge_of mapped_pages
  protected-charge b = omega (arith, h.charged, count-le (λ i. is_mapped (protected_to b i)) (λ i. is_mapped (f i)) 64 (λ i. rw (mapped-there b i) (λ m. m)))

  -- an area's end is none of its pages
  end-joins : (i : ℕ) → i ≤ 64 → joins (previous f (end_from f i)) (f (end_from f i)) ≡ false
  end-joins i l =
      by_cases (ltb (end_from f i) 64) (λ e. end-apart f i (ltb-true (end_from f i) 64 e))
      (λ e. none-joins (previous f (end_from f i)) (f (end_from f i)) (rw (nothing-past g s share row d h (end_from f i) (ltb-false (end_from f i) 64 e))))

  protected-areas : (b : ℕ) → joins (previous f b) (f b) ≡ false → areas (protected_to b) ≤ 8
  protected-areas b apart =
      omega (
        arith,
        h.few,
        areas-le (protected_to b) f λ i.
            by_cases (ltb i b)
            (λ l. rw (starts-below b (λ i. unmarked (f i)) (λ i. writable (f i)) i (ltb-true i b l)) (starts-remade (λ r. r) f i))
            (λ l. by_cases (ltb b i)
            (λ m. rw (starts_from b (λ i. unmarked (f i)) (λ i. writable (f i)) i (ltb-true b i m)) (starts-remade (λ r. 3) f i))
            (λ m. let is : i ≡ b = omega (arith, ltb-false i b l, ltb-false b i m) in
            starts-of (protected_to b) f i (rw (mapped-there b i) (λ m. m)) (λ e. never (joins (previous f b) (f b)) (rw is at e) apart))),
      )

  module _ (i : ℕ) (l : i < 64) (starts : starts_area f i ≡ true) where
    abbrev q : Request
    q = protect_at s f i

    rights-there : (j : ℕ) → i ≤ j → j < i + pages_from f i → rights_at (f j) ≡ rights_at (f i)
    rights-there j a b = rw (start-page f i l starts j a b)

    module _ (one : rights_at (f i) ≡ 1) where
      protect-slots : slots_after q (protected_to i) none ≡ protected_to (i + pages_from f i)
      unfolding slots_after
      protect-slots =
          over-cut i (pages_from f i) (λ j. with_rights 1 (protected_to i j)) (λ j. unmarked (f j)) (λ j. writable (f j))
          (λ j a b. rw (cut-from i (λ j. unmarked (f j)) (λ j. writable (f j)) j a) (rights-back (f j) (rights-there j a b ∙ one)))

      protect-mapped : all_are true (protected_to i) i (pages_from f i) ≡ true
      protect-mapped = every_of (λ j. same true (is_mapped (protected_to i j))) i (pages_from f i) (λ j a b. mapped-there i j ∙ rw (start-page f i l starts j a b))

      protect-accepted : refusal (view_of g 0 (built share (protected_to i) bytes)) q ≡ 0
      unfolding copy_after
      protect-accepted =
          protect-taken (view_of g 0 (built share (protected_to i) bytes)) refl s row refl i (pages_from f i) l (start-some f i l starts)
          (start-inside f i l starts) protect-mapped
          (rw protect-slots (protected-charge (i + pages_from f i)))
          (rw protect-slots (protected-areas (i + pages_from f i) (rw (start-next f i l starts) (end-joins (suc i) (omega arith)))))

      protect-leaves : core_after g q (built share (protected_to i) bytes) ≡ built share (protected_to (i + pages_from f i)) bytes
      unfolding copy_after bytes_after
      protect-leaves = ap (λ (x : Slots). built share x bytes) protect-slots

      protect-goes : Goes g s (q ∷ []) (protect_stage i) (protect_stage (suc i))
      protect-goes =
          rw (start-end f i l starts, ← start-next f i l starts)
          (goes_one g s q (built share (protected_to i) bytes) (built share (protected_to (i + pages_from f i)) bytes) refl refl protect-accepted protect-leaves)

    protect-not : eqb (rights_at (f i)) 1 ≡ false → protected_to (end_from f i) ≡ protected_to (end_from f (suc i))
    protect-not n =
        let right : rights_at (f i) ≡ 3 = three (rights_at (f i)) (h.order.rights i (start-mapped f i l starts)) n in
        rw (start-end f i l starts, ← start-next f i l starts)
        (cut_on i (i + pages_from f i) (λ j. unmarked (f j)) (λ j. writable (f j)) (omega arith) (λ j a b. rights-stay (f j) (rights-there j a b ∙ right)))

  protect-stays : (i : ℕ) → i < 64 → (read_only_start f i) ≡ false → protect_stage i ≡ protect_stage (suc i)
  protect-stays i l n =
      ap (λ (x : Slots). built share x bytes)
      (by_cases (starts_area f i) (λ t. protect-not i l t (and-not-right (starts_area f i) _ n t))
      (λ t. cut-stays f i (λ i. unmarked (f i)) (λ i. writable (f i)) l (λ u. remade-none (λ r. r) (f i) u ∙ sym (remade-none (λ r. 3) (f i) u)) t))

  pub protects-go : Goes g s (protects s f) (protect_stage 0) (protect_stage 64)
  unfolding protects
  protects-go =
      goes-joined g s (λ i. only (read_only_start f i) (protect_at s f i)) protect_stage 64
      (λ i l. goes-only g s (read_only_start f i) (protect_at s f i) (protect_stage i) (protect_stage (suc i))
      (λ t. protect-goes i l (and_left (starts_area f i) _ t) (eqb-true _ 1 (and_right (starts_area f i) _ t))) (protect-stays i l))

  pub protect-start : built share (λ i. writable (f i)) bytes ≡ protect_stage 0
  unfolding joins
  protect-start = rw (end-here f 0 (omega arith) refl) (ap (λ (x : Slots). built share x bytes) (sym (cut-none (λ i. unmarked (f i)) (λ i. writable (f i)))))

  pub protect-end : protect_stage 64 ≡ built share (λ i. unmarked (f i)) bytes
  protect-end =
      rw (end-past f 64 (omega arith))
      (ap (λ (x : Slots). built share x bytes) (cut_all 64 (λ i. unmarked (f i)) (λ i. writable (f i)) (λ i l. rw (nothing-past g s share row d h i l))))

  -- the snapshot
  abbrev pub rebuilt : Pages
  rebuilt = record { slots = f; bytes = bytes }

  snapshot-slots : slots_after (request_of snapshot_code s 0 0 0 0 0) (λ i. unmarked (f i)) none ≡ f
  unfolding slots_after
  snapshot-slots = fun_ext λ i. commit-back (f i) (h.marked i)

  snapshot-accepted : refusal (view_of g 0 (built share (λ i. unmarked (f i)) bytes)) (request_of snapshot_code s 0 0 0 0 0) ≡ 0
  unfolding slots_after copy_after
  snapshot-accepted =
      snapshot-taken (view_of g 0 (built share (λ i. unmarked (f i)) bytes)) refl s row refl refl
      (omega (arith, h.charged, snapshot-charge (λ i. unmarked (f i)), remade-charge f (λ r. r)))
      (rw snapshot-slots h.few)

  pub snapshot-goes : Goes g s (closing s) (built share (λ i. unmarked (f i)) bytes) (snapped share rebuilt)
  unfolding copy_after bytes_after
  snapshot-goes =
      goes_one g s (request_of snapshot_code s 0 0 0 0 0) (built share (λ i. unmarked (f i)) bytes) (snapped share rebuilt) refl refl snapshot-accepted
      (ap (λ (x : Slots). snapped share (record { slots = x; bytes = bytes })) snapshot-slots)
