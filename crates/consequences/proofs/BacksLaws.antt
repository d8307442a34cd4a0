-- No byte of the back frame of a page that call 10 passes over can alter its answer: such a page reads what the snapshot's does whatever its back holds, and
-- no other page that is compared reads that frame.
use mathlib.Core.Path.{◌≡◌, refl, sym, ◌∙◌}
use mathlib.Core.Bool.{Bool, true, ◌&&◌}
use mathlib.Core.List.{List}
use Prim.Native.Nat.{ℕ, ◌<◌}
use native.Mathlib.Omega.{arith}
use lib.Dec.{eqb, ltb}
use lib.ListN.{length}
use borrow.Author.Tests.{eqb-true, eq-eqb, ltb-true}
use Rattle.basics.specs.Ranges.{every}
use Rattle.basics.proofs.TestLaws.{by_cases, never, both_ways, and_left, and_right, and_both, and-of, implied, implies-of}
use Rattle.basics.proofs.LoopLaws.{every-at, every_of}
use Rattle.interface.specs.declared.request.Request.{Request}
use Rattle.interface.specs.declared.page.Slot.{Slot}
use Rattle.interface.specs.Requests.{compare_code}
use Rattle.interface.specs.Slots.{is_committed, rights_at}
use Rattle.comparison.specs.Compare.{agree}
use Rattle.comparison.proofs.CompareLaws.{agree-bytes, difference-same}
use Rattle.interface.specs.Numbers.{pages_in}
use Rattle.frames.specs.declared.Held.{Held}
use Rattle.frames.specs.Frames.{held, apart_held}
use Rattle.frames.proofs.PairLaws.{apart-true}
use Rattle.pages.specs.Parts.{same_bytes}
use Rattle.marks.specs.Marks.{marksb}
use Rattle.marks.proofs.NamedLaws.{by-entry}
use Rattle.table.specs.Store.{entry, front_of, back_of, contents}
use Rattle.table.proofs.StoreLaws.{contents-none, contents-some}
use Rattle.kept.specs.Test.{kept_to, blankb, frame_ok, spareb}
use Rattle.areas.specs.Areas.{slots}
use Rattle.records.specs.declared.Record.{Record}
use Rattle.state.specs.declared.sandbox.Sandbox.{Sandbox}
use Rattle.state.specs.World.{World, sandbox_at, record_at, frames_of, lengths_ok, rows_of}
use Rattle.page_test.specs.Pages.{pages_ok}
use Rattle.run_soundness.specs.Test.{runs_ok}
use Rattle.soundness.specs.Test.{sandbox_ok, sandboxes_ok, runs_ok_at, kept_ok, soundb}
use Rattle.soundness.proofs.TestLaws.{Tested, tested}
use Rattle.content.specs.Content.{page_under, page_read, copy_read, differing}
use Rattle.agreement.proofs.CompareLaws.{passed_over}
use Rattle.memory.specs.Memory.{value_at}
use Rattle.memory.proofs.ValueLaws.{compare-value}
use Rattle.step.specs.Step.{number_at, step}
use Rattle.simulation.proofs.StepLaws.{was-sound, was-accepted}
use Rattle.consequences.specs.StillClean.{PassedOver, AlikeButBacks, BacksCannotAlter}

-- ---- the refusal

-- the same, seen from the other world
alike-back : (w v : World) → AlikeButBacks w v → AlikeButBacks v w
alike-back w v E =
    let over : (s i : ℕ) → PassedOver w s i → PassedOver v s i = λ s i P. record {
      row = P.row;
      page = P.page;
      committed = rw (← E.sandboxes) P.committed;
      rights = rw (← E.sandboxes) P.rights;
      frontless = rw (← E.table) P.frontless;
    } in
    record {
      sandboxes = sym E.sandboxes;
      marks = sym E.marks;
      table = sym E.table;
      pool_length = sym E.pool_length;
      bytes = λ f l apart. sym (E.bytes f (rw E.pool_length l) (λ s i P e. apart s i (over s i P) (rw (← E.table) e)));
    }

-- the test reads the pool at kept frames alone, and in a state that passes it no entry names one of these
module _ (image : List ℕ) (w v : World) (E : AlikeButBacks w v) (h : soundb image w ≡ true) where
  spare-was : spareb (frames_of w) w.store (rows_of w) ≡ true
  unfolding soundb kept_ok
  spare-was =
      let lengths = and_both (lengths_ok (length w.store.pool) (length w.store.table) (length image)) _ h in
      let marks = and_both (marksb (frames_of w) w.store.marks w.store.table) _ lengths.1 in
      let sandboxes = and_both (sandboxes_ok (pages_in (length image)) w) _ marks.1 in
      and_right (every (runs_ok_at w) 0 4) _ (and_left (kept_ok w) _ sandboxes.1)

  abbrev all_kept : Held
  all_kept = (kept_to (rows_of w) 4).held

  spare-is : spareb (frames_of v) v.store (rows_of v) ≡ true
  unfolding spareb blankb
  spare-is =
      let once = and_both (kept_to (rows_of w) 4).good _ spare-was in
      let apart = and_both (apart_held w.store.marks all_kept) _ once.1 in
      let names = (tested image w h).filed.names in
      let frames : every (frame_ok (frames_of w) v.store.pool all_kept) 0 128 ≡ true =
      every_of (frame_ok (frames_of w) v.store.pool all_kept) 0 128 (λ f a d.
      implies-of (eqb (held all_kept f) 1) (ltb f (frames_of w) && blankb v.store.pool f) (λ k.
      let was = and_both (ltb f (frames_of w)) (blankb w.store.pool f)
      (implied (eqb (held all_kept f) 1) (ltb f (frames_of w) && blankb w.store.pool f)
      (every-at (frame_ok (frames_of w) w.store.pool all_kept) 0 128 apart.1 f a d) k) in
      let unmarked = apart-true w.store.marks all_kept apart.0 f in
      let bytes = E.bytes f (ltb-true f (frames_of w) was.0)
      (λ s i P e. omega (arith, names.marked (back_of s i) f e, unmarked, eqb-true (held all_kept f) 1 k)) in
      and-of was.0 (rw (← bytes) was.1))) in
      rw (← E.sandboxes, ← E.marks, ← E.pool_length) (and-of once.0 (and-of apart.0 frames))

  sound-too : soundb image v ≡ true
  unfolding soundb kept_ok sandboxes_ok sandbox_ok pages_ok runs_ok
  sound-too =
      let rest = rw spare-was at h in
      rw spare-is (rw (E.sandboxes, E.marks, E.table, E.pool_length) at rest)

module _ (image : List ℕ) (w v : World) (E : AlikeButBacks w v) where
  sound-same : soundb image w ≡ soundb image v
  sound-same = both_ways (soundb image w) (soundb image v) (sound-too image w v E) (sound-too image v w (alike-back w v E))

  number_same : (q : Request) → number_at image w q ≡ number_at image v q
  unfolding number_at
  number_same q = rw (sound-same, E.sandboxes, E.pool_length)

  -- ---- the pages

  entry-same : (k : ℕ) → entry w.store k ≡ entry v.store k
  entry-same k = rw E.table

  -- an entry that is no back of a page that is passed over
  contents-same : Tested image w → (k : ℕ) → ((s i : ℕ) → PassedOver w s i → k ≡ back_of s i → ⊥) → contents 256 w.store k ≡ contents 256 v.store k
  contents-same T k apart =
      by-entry (contents 256 w.store k ≡ contents 256 v.store k) (entry w.store k)
      (λ z. contents-none 256 w.store k z ∙ sym (contents-none 256 v.store k (sym (entry-same k) ∙ z)))
      (λ f z. rw (
        contents-some 256 w.store k f z,
        contents-some 256 v.store k f (sym (entry-same k) ∙ z),
        E.bytes f (T.filed.names.within k f z) (λ s i P e. apart s i P (T.filed.names.once k (back_of s i) f z e)),
      ))

  module _ (T : Tested image w) (s : ℕ) (row : s < 4) where
    abbrev b : Record
    b = record_at w s

    abbrev same_in : World → ℕ → Bool
    same_in u i = same_bytes 256 (page_read image u.store b s i) (copy_read image u.store b s i)

    -- a page that is passed over has the same bytes in the snapshot, in any world with these entries
    passed : (u : World) → u.store.table ≡ w.store.table → (i : ℕ) → PassedOver w s i → same_in u i ≡ true
    unfolding page_read page_under copy_read contents
    passed u e i P =
        let none : entry u.store (front_of s i) ≡ 0 = rw e P.frontless in
        passed_over image u.store.pool (slots b.present i) (slots b.snapshot i) (entry u.store (front_of s i)) (entry u.store (back_of s i))
        (and-of P.committed (eq-eqb _ 0 none)) ((T.each s row).rec.backing i)

    -- any other page reads the same in both worlds
    compared : (i : ℕ) → i < 64 → (PassedOver w s i → ⊥) → same_in w i ≡ same_in v i
    unfolding page_read page_under copy_read
    compared i l other =
        let front = contents-same T (front_of s i) (λ t j P e. let m = P.page in omega arith) in
        let back = contents-same T (back_of s i) (λ t j P e.
        let m = P.page in let same : s ≡ t = omega arith in let page : i ≡ j = omega arith in other (rw (same, page) P)) in
        rw (front, back)

    -- a page is passed over, or it is not
    passed-or-not : {R : Type 0} (i : ℕ) → i < 64 → (PassedOver w s i → R) → ((PassedOver w s i → ⊥) → R) → R
    passed-or-not i l over other =
        let now : Slot = slots b.present i in
        let was : Slot = slots b.snapshot i in
        let front : ℕ = entry w.store (front_of s i) in
        by_cases (is_committed now && (eqb (rights_at now) (rights_at was) && eqb front 0))
        (λ t. let first = and_both (is_committed now) _ t in
        let rest = and_both (eqb (rights_at now) (rights_at was)) _ first.1 in
        over (record {
          row = row;
          page = l;
          committed = first.0;
          rights = eqb-true (rights_at now) (rights_at was) rest.0;
          frontless = eqb-true front 0 rest.1;
        }))
        (λ f. other (λ P. never _ (and-of P.committed (and-of (eq-eqb (rights_at now) (rights_at was) P.rights) (eq-eqb front 0 P.frontless))) f))

    agree-alike : (i : ℕ) → i < 64
        → agree (slots b.present i) (slots b.snapshot i) (same_in w i) ≡ agree (slots b.present i) (slots b.snapshot i) (same_in v i)
    agree-alike i l =
        agree-bytes (slots b.present i) (slots b.snapshot i) (same_in w i) (same_in v i)
        (λ m c. passed-or-not i l (λ P. passed w refl i P ∙ sym (passed v (sym E.table) i P)) (compared i l))

    differing-same : differing image w.store b s ≡ differing image v.store b s
    unfolding differing
    differing-same = difference-same (slots b.present) (slots b.snapshot) (same_in w) (same_in v) agree-alike

-- ---- the answer

module _ (image : List ℕ) (w v : World) (E : AlikeButBacks w v) (q : Request) (e : q.code ≡ compare_code) where
  value_same : number_at image w q ≡ 0 → value_at image q (sandbox_at w q.sandbox) w.store ≡ value_at image q (sandbox_at v q.sandbox) v.store
  value_same n =
      let T = tested image w (was-sound image w q n) in
      let row : q.sandbox < 4 = omega (arith, (was-accepted image w q n).in_row) in
      let b : Sandbox = sandbox_at w q.sandbox in
      rw (← E.sandboxes)
      (sym (compare-value image q b w.store _ e refl) ∙ differing-same image w v E T q.sandbox row ∙ compare-value image q b v.store _ e refl)

pub backs-cannot-alter : (image : List ℕ) → BacksCannotAlter image
unfolding step
backs-cannot-alter image w v E q e o p s t =
    rw (s.equals, t.equals, ← number_same image w v E q)
    (by_cases (eqb (number_at image w q) 0) (λ z. rw (z, value_same image w v E q e (eqb-true _ 0 z))) (λ z. rw z))
