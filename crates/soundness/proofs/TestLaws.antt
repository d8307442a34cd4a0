-- The test of a sound state is true exactly of the sound states.
use mathlib.Core.Path.{◌≡◌}
use mathlib.Core.Bool.{Bool, true}
use mathlib.Core.List.{List}
use Prim.Native.Nat.{ℕ, ◌*◌, ◌≤◌, ◌<◌}
use native.Mathlib.Omega.{arith}
use lib.ListN.{length}
use borrow.Author.Tests.{leb-true, le-leb}
use Rattle.basics.specs.Ranges.{every}
use Rattle.basics.proofs.TestLaws.{and_both, and-of}
use Rattle.basics.proofs.LoopLaws.{every-at, every_of}
use Rattle.interface.specs.Slots.{is_mapped, is_committed}
use Rattle.interface.specs.Numbers.{pages_in}
use Rattle.frames.specs.Frames.{held}
use Rattle.marks.specs.Marks.{marksb}
use Rattle.marks.proofs.MarkLaws.{words, marksb-named, named-marksb}
use Rattle.table.specs.Store.{Store, Filed}
use Rattle.kept.specs.Spare.{kept_at, Spare}
use Rattle.kept.specs.Test.{kept_to, spareb}
use Rattle.kept.proofs.TestLaws.{spare-true, spare-found, spare_of}
use Rattle.areas.specs.Areas.{slots}
use Rattle.record_soundness.specs.Test.{record_ok}
use Rattle.record_soundness.proofs.RecordLaws.{Passed as PassedRecord, record-true, record_of, record-sound, committed-inside, sound-passed as record-passed}
use Rattle.page_test.specs.Pages.{pages_ok}
use Rattle.page_test.proofs.PageLaws.{AtPage, pages-true, pages-of}
use Rattle.run_soundness.specs.Test.{runs_ok}
use Rattle.run_soundness.proofs.RunLaws.{runs-true, runs_of}
use Rattle.state.specs.declared.sandbox.Sandbox.{Sandbox}
use Rattle.state.specs.World.{World, sandbox_at, shares_of, frames_of, lengths_ok, rows_of}
use Rattle.state.specs.Sound.{SoundAt, Sound}
use Rattle.state.proofs.LentLaws.{lengths-true, lengths-of}
use Rattle.soundness.specs.Test.{Typed, sandbox_ok, sandboxes_ok, runs_ok_at, kept_ok, soundb}

-- ---- a sandbox

-- what the test of a sandbox says: what soundness asks of it, but of its runs
pub record Passed (images : ℕ) (st : Store) (s : ℕ) (b : Sandbox) : Type 0 where
  pub rec : PassedRecord images b.rec
  pub page : (i : ℕ) → i < 64 → AtPage st s b.rec.present b.rec.snapshot i

module _ (images : ℕ) (st : Store) (s : ℕ) (b : Sandbox) where
  pub passed-true : sandbox_ok images st s b ≡ true → Passed images st s b
  unfolding sandbox_ok
  passed-true h =
      let both = and_both (record_ok images b.rec) (pages_ok st s b.rec.present b.rec.snapshot) h in
      record { rec = record-true images b.rec both.0; page = pages-true st s b.rec.present b.rec.snapshot both.1 }

  passed-of : Passed images st s b → sandbox_ok images st s b ≡ true
  unfolding sandbox_ok
  passed-of P = and-of (record_of images b.rec P.rec) (pages-of st s b.rec.present b.rec.snapshot P.page)

  -- of every page, as no page past 63 is mapped
  pub passed-committed : Passed images st s b → (i : ℕ) → is_committed (slots b.rec.present i) ≡ true → is_mapped (slots b.rec.snapshot i) ≡ true
  passed-committed P i c = (P.page i (committed-inside images b.rec P.rec i c)).committed c

  pub sandbox-true : runs_ok st s b.rec.opened b.rec.share b.runs ≡ true → Passed images st s b → SoundAt images st s b
  sandbox-true r P =
      let K = runs-true st s b.rec.opened b.rec.share b.runs r in
      record {
        rec = record-sound images b.rec P.rec
            (λ i l. record { marked = (P.page i l).marked; committed = (P.page i l).committed; backing = (P.page i l).backing });
        fronts = λ i l. (P.page i l).fronts;
        backs = λ i l. (P.page i l).backs;
        in_share = K.in_share;
        places = K.places;
        closed = K.closed;
      }

  pub sound-passed : SoundAt images st s b → Passed images st s b
  sound-passed S =
      let R = S.rec in
      record {
        rec = record-passed images b.rec R;
        page = λ i l. record { marked = R.marked i; committed = R.committed i; backing = R.backing i; fronts = S.fronts i l; backs = S.backs i l };
      }

  runs-sound : SoundAt images st s b → runs_ok st s b.rec.opened b.rec.share b.runs ≡ true
  runs-sound S =
      runs_of st s b.rec.opened b.rec.share b.runs (record { places = S.places; in_share = S.in_share; closed = S.closed })

-- ---- the world

module _ (images : ℕ) (w : World) where
  abbrev sandbox_passes : ℕ → Bool
  sandbox_passes s = sandbox_ok images w.store s (sandbox_at w s)

  sandboxes-passed : sandboxes_ok images w ≡ true → (s : ℕ) → s < 4 → Passed images w.store s (sandbox_at w s)
  unfolding sandboxes_ok
  sandboxes-passed h s l = passed-true images w.store s (sandbox_at w s) (every-at sandbox_passes 0 4 h s (omega arith) (omega arith))

  pub sandboxes-true : every (runs_ok_at w) 0 4 ≡ true → sandboxes_ok images w ≡ true → (s : ℕ) → s < 4 → SoundAt images w.store s (sandbox_at w s)
  sandboxes-true r h s l =
      sandbox-true images w.store s (sandbox_at w s) (every-at (runs_ok_at w) 0 4 r s (omega arith) (omega arith)) (sandboxes-passed h s l)

  pub sandboxes-of : ((s : ℕ) → s < 4 → SoundAt images w.store s (sandbox_at w s)) → sandboxes_ok images w ≡ true
  unfolding sandboxes_ok
  sandboxes-of each =
      every_of sandbox_passes 0 4
      (λ s l d. passed-of images w.store s (sandbox_at w s) (sound-passed images w.store s (sandbox_at w s) (each s (omega arith))))

-- what a test that passes shows of a state: all that `Sound` says but for the ranges of the runs' words, which their types give. (The marks are two words of
-- 64 bits, because they are those that the pass over the entries found.)
pub record Tested (image : List ℕ) (w : World) : Type 0 where
  pub frames : 1 ≤ frames_of w
  pub whole : length image ≡ pages_in (length image) * 256
  pub images : pages_in (length image) ≤ 64
  pub filed : Filed 256 (frames_of w) w.store
  pub each : (s : ℕ) → s < 4 → SoundAt (pages_in (length image)) w.store s (sandbox_at w s)
  pub spare : Spare 256 (frames_of w) w.store (rows_of w)
  -- the marks of all runs together, as a pass over them finds them
  pub found : (f : ℕ) → f < 128 → held (kept_to (rows_of w) 4).held f ≡ kept_at (rows_of w) f
  pub pooled : shares_of w ≤ frames_of w

pub tested : (image : List ℕ) (w : World) → soundb image w ≡ true → Tested image w
unfolding soundb kept_ok
tested image w h =
    let h₁ = and_both (lengths_ok (length w.store.pool) (length w.store.table) (length image)) _ h in
    let h₂ = and_both (marksb (frames_of w) w.store.marks w.store.table) _ h₁.1 in
    let h₃ = and_both (sandboxes_ok (pages_in (length image)) w) _ h₂.1 in
    let h₄ = and_both (kept_ok w) _ h₃.1 in
    let h₅ = and_both (every (runs_ok_at w) 0 4) (spareb (frames_of w) w.store (rows_of w)) h₄.0 in
    let L = lengths-true (length w.store.pool) (length w.store.table) (length image) h₁.0 in
    let two = words (frames_of w) w.store.marks w.store.table L.few h₂.0 in
    let F : Filed 256 (frames_of w) w.store = record {
      few = L.few;
      pages = L.pages;
      entries = L.entries;
      names = marksb-named (frames_of w) w.store.marks w.store.table L.few L.entries h₂.0;
      low = two.0;
      high = two.1;
    } in
    record {
      frames = L.some;
      whole = L.whole;
      images = L.images;
      filed = F;
      each = sandboxes-true (pages_in (length image)) w h₅.0 h₃.0;
      spare = spare-true (frames_of w) w.store (rows_of w) F h₅.1;
      found = spare-found (frames_of w) w.store (rows_of w) h₅.1;
      pooled = leb-true _ _ h₄.1;
    }

pub sound-true : (image : List ℕ) (w : World) → Typed w → soundb image w ≡ true → Sound image w
sound-true image w T h =
    let t = tested image w h in
    record {
      frames = t.frames;
      whole = t.whole;
      images = t.images;
      row = T.row;
      filed = t.filed;
      each = t.each;
      spare = t.spare;
      words = T.words;
      pooled = t.pooled;
    }

pub sound-of : (image : List ℕ) (w : World) → Sound image w → soundb image w ≡ true
unfolding soundb kept_ok
sound-of image w S =
    and-of (lengths-of (length w.store.pool) (length w.store.table) (length image) (record {
      pages = S.filed.pages;
      some = S.frames;
      few = S.filed.few;
      entries = S.filed.entries;
      whole = S.whole;
      images = S.images;
    }))
    (and-of (named-marksb (frames_of w) w.store.marks w.store.table S.filed.few S.filed.entries S.filed.low S.filed.high
    S.filed.names)
    (and-of (sandboxes-of (pages_in (length image)) w S.each)
    (and-of
    (and-of (every_of (runs_ok_at w) 0 4 (λ s l d. runs-sound (pages_in (length image)) w.store s (sandbox_at w s) (S.each s (omega arith))))
    (spare_of (frames_of w) w.store (rows_of w) S.filed S.words S.spare))
    (le-leb _ _ S.pooled))))
