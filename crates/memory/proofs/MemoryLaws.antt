-- The store after an accepted request, by each of the calls that change it.
use Prim.Native.Nat.{ℕ, ◌*◌, ◌<◌}
use mathlib.Core.Path.{◌≡◌, sym, ap, ◌∙◌}
use mathlib.Core.Bool.{true, false, false≢true}
use mathlib.Core.List.{List}
use native.Mathlib.Omega.{arith}
use lib.Dec.{eqb}
use lib.ListN.{length, get_or}
use borrow.Author.Tests.{eqb-true, eq-eqb, ne_eqb}
use Rattle.basics.proofs.TestLaws.{by_cases, and_left, and_right, and-of}
use Rattle.basics.proofs.ListLaws.{get_d_any}
use Rattle.interface.specs.declared.request.Request.{Request}
use Rattle.interface.specs.declared.page.Slot.{Slot}
use Rattle.interface.specs.Requests.{◌is◌, map_code, unmap_code, write_code, snapshot_code, rewind_code, page_of, offset_of}
use Rattle.interface.specs.Slots.{is_committed, backing_at}
use Rattle.run_choice.specs.Runs.{takes_run}
use Rattle.frames.specs.Frames.{held}
use Rattle.table.specs.Store.{Store, front_of, back_of, Ranged, Tidy}
use Rattle.table.specs.Store.{take, store_byte, free_to, move_to}
use Rattle.rewind_cases.specs.Rewind.{rewind_to}
use Rattle.table.specs.Backing.{backing_page}
use Rattle.table.proofs.StoreLaws.{taken}
use Rattle.table.proofs.FiledLaws.{filed-ranged}
use Rattle.table.proofs.TouchLaws.{backing-whole, under_whole}
use Rattle.runs.specs.declared.Runs.{Runs}
use Rattle.runs.specs.Row.{row, tabled}
use Rattle.kept.specs.Spare.{row_rewound}
use Rattle.kept.specs.Test.{kept_to}
use Rattle.areas.specs.Areas.{slots}
use Rattle.state.specs.declared.sandbox.Sandbox.{Sandbox}
use Rattle.state.specs.World.{World, closed_sandbox, frames_of, rows_of}
use Rattle.state.proofs.SharesLaws.{zero_sandbox}
use Rattle.content.specs.Content.{page_under, copy_backing}
use Rattle.content.proofs.ReadingLaws.{backing-there}
use Rattle.reuse.specs.declared.Given.{Given}
use Rattle.reuse.specs.Reuse.{GaveUp}
use Rattle.granting.specs.Granting.{map_runs, map_adopts}
use Rattle.memory.specs.Memory.{gives_at, runs_after, touched, keeps_front, store_after}
use Rattle.memory.specs.Parts.{own_sandbox, own_front, Asked, WithFrames, LeftBy, StoreStepped, TouchStepped}
use Rattle.memory.proofs.SpareLaws.{gives, gives-is, takes_of, takes-free, adopts}

-- the sandbox as the code reads it is that of the world: the default of an array read is another, but no read is past the row
pub read-own : (sandboxes : List Sandbox) (s : ℕ) → length sandboxes ≡ 4 → s < 4 → get_or sandboxes s zero_sandbox ≡ get_or sandboxes s closed_sandbox
read-own sandboxes s four row = get_d_any sandboxes s zero_sandbox closed_sandbox (omega (arith, four, row))

-- ---- a page touched before a write

module _ (image : List ℕ) (q : Request) (w : World) (A : Asked image q w) (e : q.code ≡ write_code) where
  abbrev own : Sandbox
  own = own_sandbox q w

  abbrev page : ℕ
  page = page_of q

  pub touch-kept : (own_front q w.store ≡ 0 → ⊥) → TouchStepped image q w w.store own.runs
  unfolding touched gives_at runs_after
  touch-kept h =
      let some : eqb (own_front q w.store) 0 ≡ false = ne_eqb (own_front q w.store) 0 h in
      record {
        frame = 0;
        given = 0;
        gave = λ t. absurd (false≢true (rw (e, some) at t));
        takes = λ t. absurd (h (eqb-true _ 0 (and_right (q is write_code) _ t)));
        so = (rw some, rw (e, some));
      }

  pub touch-made : (after : Store) (r : Given) (f : ℕ) (z : own_front q w.store ≡ 0)
      (g : GaveUp (gives image q w A e z) own.runs (kept_to (rows_of w) 4).held r)
      → f < frames_of w → held w.store.marks f ≡ 0 → held r.kept f ≡ 0
      → after ≡ take 256 (front_of q.sandbox page) f (page_under image w.store own.rec q.sandbox page) w.store
      → TouchStepped image q w after r.runs
  unfolding touched runs_after
  touch-made after r f z g low unnamed unkept a =
      let same = gives-is image q w A e z in
      record {
        frame = f;
        given = g.given;
        gave = λ t. g.gave (sym same ∙ t);
        takes = λ _. takes_of image q w A e z r g f low unnamed unkept;
        so = (a ∙ rw (eq-eqb (own_front q w.store) 0 z), g.left ∙ rw (same, e));
      }

  tidy_of : Tidy (λ f. ⊥) 256 (frames_of w) w.store
  tidy_of = record { filed = A.filed; clean = λ f c. absurd c }

  -- what the page reads but for a front is a whole page
  whole : length (page_under image w.store own.rec q.sandbox page) ≡ 256
  unfolding page_under
  whole =
      let slot : Slot = slots own.rec.present page in
      under_whole 256 (frames_of w) w.store tidy_of (back_of q.sandbox page) (backing_page image (backing_at slot))
      (backing-whole image (backing_at slot) (backing-there image own.rec.present A.ready.sound.present page)) (is_committed slot)

  pub touch-ranged : (after : Store) (left : Runs) → page < 64 → TouchStepped image q w after left → Ranged 256 after.pool after.table
  unfolding touched
  touch-ranged after left m t =
      by_cases (eqb (own_front q w.store) 0)
      (λ z. let free = takes-free image q w A t.frame t.given (t.takes (and-of (eq-eqb q.code write_code e) z)) t.gave in
      let bytes : List ℕ = page_under image w.store own.rec q.sandbox page in
      let same : after ≡ take 256 (front_of q.sandbox page) t.frame bytes w.store = t.so.0 ∙ rw z in
      let changed =
      taken 256 (frames_of w) w.store tidy_of (front_of q.sandbox page) t.frame bytes (omega (arith, A.row)) (eqb-true _ 0 z) free.0 free.1
      whole in
      rw same (filed-ranged 256 (frames_of w) _ changed.tidy.filed))
      (λ z. let same : after ≡ w.store = t.so.0 ∙ rw z in rw same (filed-ranged 256 (frames_of w) w.store A.filed))

-- ---- what each call leaves

-- what follows from what is so with some frames is so with these frames
pub with-frames : (q : Request) (w : World) (So Then : ℕ → ℕ → Type 0) → ((f g : ℕ) → So f g → Then f g) → WithFrames q w So → WithFrames q w Then
with-frames q w So Then go t = record { frame = t.frame; given = t.given; gave = t.gave; takes = t.takes; so = go t.frame t.given t.so }

module _ (image : List ℕ) (q : Request) (w : World) where
  abbrev its : Sandbox
  its = own_sandbox q w

  pub written : (mid after : Store) (left : Runs) → TouchStepped image q w mid left → q.code ≡ write_code
      → after ≡ store_byte 256 (front_of q.sandbox (page_of q)) (offset_of q) q.p2 mid → StoreStepped image q w after left
  unfolding store_after
  written mid after left t e a =
      with-frames q w _ _
      (λ f g mid-is. (a ∙ ap (store_byte 256 (front_of q.sandbox (page_of q)) (offset_of q) q.p2) mid-is.0 ∙ rw e, mid-is.1)) t

  -- the calls that take no frame and give none up
  pub stepped-none : (after : Store) (left : Runs) → (q is write_code) ≡ false → LeftBy image q its w.store after left → StoreStepped image q w after left
  unfolding gives_at
  stepped-none after left n so = record {
    frame = 0;
    given = 0;
    gave = λ h. absurd (false≢true (sym n ∙ and_left (q is write_code) _ h));
    takes = λ h. absurd (false≢true (sym n ∙ and_left (q is write_code) _ h));
    so = so;
  }

  pub mapped : Asked image q w → (after : Store) (left : Runs) → q.code ≡ map_code
      → after ≡ map_adopts q its w.store → left ≡ map_runs q its → StoreStepped image q w after left
  unfolding store_after runs_after gives_at map_adopts map_runs
  mapped A after left e a r =
      stepped-none after left (rw e) (
        by_cases (takes_run q)
            (λ t. a ∙ rw t (adopts image q w A e))
            (λ t. a ∙ rw (t, e)),
        by_cases (takes_run q) (λ t. r ∙ rw t) (λ t. r ∙ rw (t, e)),
      )

module _ (image : List ℕ) (q : Request) (b : Sandbox) (st : Store) where
  pub unmapped : (after : Store) → q.code ≡ unmap_code → after ≡ free_to 256 (front_of q.sandbox q.p1) st q.p2 → LeftBy image q b st after b.runs
  unfolding store_after runs_after gives_at
  unmapped after e a = (a ∙ rw e, rw e)

  pub copied : (after : Store) → q.code ≡ snapshot_code → after ≡ move_to (q.sandbox * 128) st 64 → LeftBy image q b st after b.runs
  unfolding store_after runs_after gives_at
  copied after e a = (a ∙ rw e, rw e)

  pub rewound : (after : Store) (left : Runs) → q.code ≡ rewind_code → after ≡ rewind_to image (q.sandbox * 128) (keeps_front b.rec) (copy_backing b.rec) st 64
      → left ≡ tabled (row_rewound st q.sandbox (slots b.rec.present) (row b.runs)) → LeftBy image q b st after left
  unfolding store_after runs_after gives_at
  rewound after left e a r = (a ∙ rw e, r ∙ rw e)

  pub left_alone : (q.code ≡ map_code → ⊥) → (q.code ≡ unmap_code → ⊥) → (q.code ≡ write_code → ⊥) → (q.code ≡ snapshot_code → ⊥) → (q.code ≡ rewind_code → ⊥)
      → LeftBy image q b st st b.runs
  unfolding store_after runs_after gives_at
  left_alone m u x s r =
      let none = ne_eqb q.code map_code m in (
        rw (none, ne_eqb q.code unmap_code u, ne_eqb q.code write_code x, ne_eqb q.code snapshot_code s, ne_eqb q.code rewind_code r),
        rw (none, ne_eqb q.code write_code x, ne_eqb q.code rewind_code r),
      )
