-- What an accepted call touches: the fields of `Touches`, and that the entries of other sandboxes are none of those named.
use mathlib.Core.Path.{◌≡◌, sym, ap, ◌∙◌}
use mathlib.Core.Logic.{◌⊎◌, inl, inr, ⊎_elim}
use mathlib.Core.Bool.{true, false}
use mathlib.Core.List.{List}
use Prim.Native.Nat.{ℕ, suc, ◌+◌, ◌*◌, ◌≤◌, ◌<◌}
use native.Mathlib.Omega.{arith}
use lib.ListN.{length, set}
use lib.Seq.{get_or-set_same}
use borrow.Author.Tests.{eqb-true}
use Rattle.basics.proofs.TestLaws.{by_cases, and_left, never}
use Rattle.interface.specs.declared.request.Request.{Request}
use Rattle.interface.specs.Requests.{◌is◌, open_code, map_code, read_code, write_code, snapshot_code, rewind_code, report_code, compare_code, page_of, offset_of}
use Rattle.interface.specs.Limits.{within}
use Rattle.run_choice.specs.Runs.{takes_run}
use Rattle.interface.proofs.AcceptedLaws.{map-fits}
use Rattle.run_choice.proofs.RunLaws.{run-low, granted-le}
use Rattle.interface.proofs.KindLaws.{kind}
use Rattle.interface.specs.Numbers.{pages_in}
use Rattle.frames.specs.Frames.{held, mark}
use Rattle.frames.proofs.FrameLaws.{lt-or-ge}
use Rattle.pages.specs.Parts.{frame, set_frame}
use Rattle.table.specs.Store.{Store, kept, entry, front_of, back_of, Filed}
use Rattle.table.proofs.LeftLaws.{Left}
use Rattle.runs.specs.declared.Runs.{Runs}
use Rattle.runs.specs.Row.{lengths_of}
use Rattle.kept.specs.Spare.{kept_at}
use Rattle.kept.proofs.SpareLaws.{run-kept}
use Rattle.state.specs.declared.sandbox.Sandbox.{Sandbox}
use Rattle.state.specs.World.{World, sandbox_at, frames_of, rows_of}
use Rattle.rules.specs.After.{changes, record_after}
use Rattle.content.specs.Content.{page_read}
use Rattle.memory.specs.Memory.{place_for, frames_for, store_after}
use Rattle.step.specs.Step.{takes, gives, Outcome, Stepped}
use Rattle.step.proofs.StayLaws.{sandboxes-same}
use Rattle.simulation.proofs.StepLaws.{taking}
use Rattle.simulation.proofs.StoreSteps.{write-page}
use Rattle.simulation.proofs.AcceptedLaws.{number, left, met, sound-parts, own, free, stored}
use Rattle.claims.specs.Touches.{first_page, names_front, names_back, leaves_sandboxes, Untouched, Touches}
use Rattle.claims.proofs.TouchSteps.{no-back, back_low, front_low, none_after, pool-after, entries-after, Meets, one_byte, filled, left_after}
use Rattle.claims.proofs.TouchRuns.{sandboxes-are, runs_same, runs-stay, grants, gave, unkept, gathered}

module _ (image : List ℕ) (w : World) (q : Request) (o : Outcome) (s : Stepped image w q o) (n : o.answer.number ≡ 0) where
  abbrev b : Sandbox
  b = sandbox_at w q.sandbox

  abbrev after : Store
  after = store_after image s.frame q b w.store

  -- the front entry of a written page
  abbrev place : ℕ
  place = front_of q.sandbox (page_of q)

  store_is : o.world.store ≡ after
  store_is = ap (λ (x : World). x.store) (left image w q o s n)

  limits : within (pages_in (length image)) q ≡ true
  limits = (met image w q o s n).in_limits

  filed : Filed 256 (frames_of w) w.store
  filed = (sound-parts image w q o s n).filed

  filed_after : Filed 256 (frames_of w) after
  filed_after = (stored image w q o s n).tidy.filed

  -- a map that takes a run
  fits : takes_run q ≡ true → first_page b q + frames_for q b ≤ 64
  fits y = omega (arith, map-fits _ q (met image w q o s n) (eqb-true q.code map_code (and_left (q is map_code) _ y)), granted-le q.p2 (lengths_of b.runs))

  meets : Meets image s.frame q b (frames_of w) w.store
  meets = record {
    filed = filed;
    whole = (sound-parts image w q o s n).whole;
    present = (own image w q o s n).rec.present;
    snapshot = (own image w q o s n).rec.snapshot;
    row = (met image w q o s n).in_row;
    limits = limits;
    blank = λ x l e.
        let one = run-kept (rows_of w) q.sandbox (place_for q b) x (omega (arith, (met image w q o s n).in_row)) (run-low q.p2 (lengths_of b.runs)) in
        let S = (sound-parts image w q o s n).spare in
        let inPool : x < frames_of w = ⊎_elim (λ d. d) (λ d. absurd (omega (arith, one, e, S.of_pool x d l))) (lt-or-ge x (frames_of w)) in
        (inPool, S.blank x inPool (omega (arith, one, e)));
    fits = fits;
    free = λ e z. let x = free image w q o s n e z in (x.0, x.1.0);
  }

  -- ---- state

  module _ (g : gives image w q ≡ false) where
    unchanged : (q is open_code) ≡ false → changes q ≡ false → (q is snapshot_code) ≡ false → (q is rewind_code) ≡ false → takes_run q ≡ false
        → o.world.sandboxes ≡ w.sandboxes
    unchanged x₁ x₂ x₃ x₄ x₅ =
        sandboxes-are image w q o s n
        ∙ ap (λ (r : Runs). set w.sandboxes q.sandbox (record { rec = record_after q b.rec; runs = r })) (runs_same image w q o s n x₅ x₄ g)
        ∙ sandboxes-same q x₁ x₂ x₃ x₄ w q.sandbox ((met image w q o s n).opened x₁)

    state : leaves_sandboxes q ≡ true → o.world.sandboxes ≡ w.sandboxes
    state h =
        by_cases (q is read_code) (λ e. let c = eqb-true q.code read_code e in unchanged (rw c) (rw c) (rw c) (rw c) (rw c)) λ x.
        by_cases (q is write_code) (λ e. let c = eqb-true q.code write_code e in unchanged (rw c) (rw c) (rw c) (rw c) (rw c)) λ y.
        by_cases (q is report_code) (λ e. let c = eqb-true q.code report_code e in unchanged (rw c) (rw c) (rw c) (rw c) (rw c)) λ z.
        let c = eqb-true q.code compare_code (rw (x, y, z) at h) in unchanged (rw c) (rw c) (rw c) (rw c) (rw c)

  -- ---- entries

  low : (i : ℕ) → names_front b q i ≡ true → i < 64
  low = front_low q (pages_in (length image)) limits b fits (kind q)

  entries : (k : ℕ) → ((i : ℕ) → names_front b q i ≡ true → k ≡ front_of q.sandbox i → ⊥)
      → ((i : ℕ) → names_back q i ≡ true → k ≡ back_of q.sandbox i → ⊥) → entry o.world.store k ≡ entry w.store k
  entries k front back = rw store_is (entries-after image s.frame q b w.store k front back (kind q))

  -- those of another sandbox
  pub entries-other : (t x : ℕ) → x < 128 → (q.sandbox ≡ t → ⊥) → entry o.world.store (t * 128 + x) ≡ entry w.store (t * 128 + x)
  entries-other t x l d =
      entries (t * 128 + x) (λ i h e. let m = low i h in d (omega arith)) (λ i h e. let m = back_low q i h in d (omega arith))

  entries-back : (q is snapshot_code) ≡ false → (t i : ℕ) → i < 64 → entry o.world.store (back_of t i) ≡ entry w.store (back_of t i)
  entries-back h t i l = entries (back_of t i) (λ j g e. let m = low j g in omega arith) (λ j g e. no-back q h j g)

  -- ---- the frame that a write takes

  taken_free : takes image w q ≡ true
      → (s.frame < frames_of w)
      × ((held w.store.marks s.frame ≡ 0) × ((kept_at (rows_of w) s.frame ≡ 0) ⊎ ((gives image w q ≡ true) × (s.frame ≡ s.given))))
  taken_free t =
      let this = taking image w q t in
      let x = free image w q o s n (rw this.writes) this.bare in
      (x.0, (x.1.0, ⊎_elim (λ f. inl f.unkept) (λ f. inr f) (s.chosen.free t)))

  -- ---- frames

  stays : (f : ℕ) → Untouched image w q s.frame f → Left 256 f w.store after
  unfolding takes
  stays f u =
      left_after image s.frame q b (frames_of w) w.store meets f u.unnamed (λ e z. u.untaken (rw (number image w q o s n, e, z))) u.ungot (kind q)

  bytes : (f : ℕ) → Untouched image w q s.frame f → frame 256 o.world.store.pool f ≡ frame 256 w.store.pool f
  bytes f u = rw store_is (stays f u).bytes

  marks : (f : ℕ) → Untouched image w q s.frame f → held o.world.store.marks f ≡ held w.store.marks f
  marks f u = rw store_is (stays f u).marked

  -- the bytes of a frame that is neither named nor taken: a map that takes a run changes none at all
  bytes-stay : (f : ℕ) → ((i : ℕ) → names_front b q i ≡ true → entry w.store (front_of q.sandbox i) ≡ suc f → ⊥)
      → (takes image w q ≡ true → f ≡ s.frame → ⊥) → frame 256 o.world.store.pool f ≡ frame 256 w.store.pool f
  bytes-stay f unnamed untaken =
      by_cases (takes_run q)
      (λ y. ap (λ (p : List ℕ). frame 256 p f) (grants image w q o s n y meets).pool)
      (λ y. bytes f (record { unnamed = unnamed; untaken = untaken; ungot = λ z. never (takes_run q) z y }))

  -- frames that no entry names
  unheld-stays : (f : ℕ) → held w.store.marks f ≡ 0 → (takes image w q ≡ true → f ≡ s.frame → ⊥)
      → frame 256 o.world.store.pool f ≡ frame 256 w.store.pool f
  unheld-stays f z = bytes-stay f (λ j h e. let one = filed.names.marked (front_of q.sandbox j) f e in omega arith)

  -- the frames of backs: no front names them, and they are held
  back-stays : (t i f : ℕ) → i < 64 → entry w.store (back_of t i) ≡ suc f → frame 256 o.world.store.pool f ≡ frame 256 w.store.pool f
  back-stays t i f l e =
      bytes-stay f
      (λ j h z. let same : front_of q.sandbox j ≡ back_of t i = filed.names.once _ _ f z e in let m = low j h in omega arith)
      (λ h z. let one : held w.store.marks s.frame ≡ 1 = ap (held w.store.marks) (sym z) ∙ filed.names.marked (back_of t i) f e in
      omega (arith, one, (taken_free h).1.0))

  -- ---- a write that takes a frame

  module _ (t : takes image w q ≡ true) where
    filled-after : after
        ≡ kept (mark w.store.marks s.frame 1)
        (set (set_frame 256 w.store.pool s.frame (page_read image w.store b.rec q.sandbox (page_of q))) (s.frame * 256 + offset_of q) q.p2)
        (set w.store.table place (suc s.frame))
    filled-after =
        let this = taking image w q t in
        filled image s.frame q b (frames_of w) w.store meets this.writes (eqb-true (entry w.store place) 0 this.bare)

    taken-entry : entry after place ≡ suc s.frame
    taken-entry =
        ap (λ (x : Store). entry x place) filled-after
        ∙ get_or-set_same w.store.table place (suc s.frame) 0
        (omega (arith, write-page _ q (taking image w q t).writes limits, (met image w q o s n).in_row, filed.entries))

    taken-alone : (k : ℕ) → entry after k ≡ suc s.frame → k ≡ place
    taken-alone k e = filed_after.names.once k place s.frame e taken-entry

  pub touches : Touches image w q o s.frame s.given
  touches =
      record {
        none = λ h. store_is ∙ none_after image s.frame q b w.store (kind q) h;
        state = λ h g. state g h;
        gave = gave image w q o s n;
        granted = λ y. grants image w q o s n y meets;
        gathered = gathered image w q o s n;
        runs = runs-stay image w q o s n;
        snapshot = λ e. rw store_is (pool-after image s.frame q b w.store e);
        pool_length = rw store_is (filed_after.pages ∙ sym filed.pages);
        table_length = rw store_is (filed_after.entries ∙ sym filed.entries);
        entries = entries;
        back_entries = λ h t i l. entries-back h t i;
        bytes = bytes;
        marks = marks;
        backs = λ t i f l m e. back-stays t i f m e;
        unheld = unheld-stays;
        one_byte = λ f e z. store_is ∙ one_byte image s.frame q b (frames_of w) w.store meets e f z;
        filled = λ t. store_is ∙ filled-after t;
        free = taken_free;
        alone = λ t. (rw store_is (taken-entry t), (rw store_is (taken-alone t), unkept image w q o s n t));
      }
