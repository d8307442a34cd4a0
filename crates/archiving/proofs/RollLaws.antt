-- The roll that the code writes is the archive roll of the machine's snapshot.
use Prim.Native.Nat.{ℕ, zero, suc, ◌+◌, ◌*◌, ◌/◌, ◌%◌, ◌≤◌, ◌<◌}
use mathlib.Core.Path.{◌≡◌, refl, sym, ap, ap₂, ◌∙◌}
use mathlib.Core.Bool.{true, false}
use mathlib.Core.List.{List, [], ◌++◌, append_assoc, append-nil}
use native.Mathlib.Omega.{arith}
use lib.ListN.{length}
use Rattle.basics.proofs.TestLaws.{by_cases}
use Rattle.interface.specs.declared.page.Slot.{Slot}
use Rattle.interface.specs.declared.request.Request.{Request}
use Rattle.interface.specs.Slots.{is_mapped}
use Rattle.interface.specs.Numbers.{pages_in}
use Rattle.table.specs.Store.{contents}
use Rattle.table.proofs.FiledLaws.{filed-ranged}
use Rattle.areas.specs.Areas.{slots}
use Rattle.areas.specs.Formed.{WellFormed}
use Rattle.areas.specs.Walk.{Formed}
use Rattle.areas.proofs.FormedLaws.{near}
use Rattle.state.specs.declared.sandbox.Sandbox.{Sandbox}
use Rattle.state.specs.World.{World, sandbox_at, frames_of}
use Rattle.soundness.specs.Test.{soundb}
use Rattle.soundness.proofs.TestLaws.{tested}
use Rattle.plain.specs.Machine.{Pages}
use Rattle.content.specs.Content.{copy_read}
use Rattle.content.proofs.ReadingLaws.{backing-there}
use Rattle.archive.specs.Archive.{joined, only, opening, maps, differs, write_at, writes, protects, closing, archive}
use Rattle.replay.specs.Snapshot.{snapshot_of, archive_of}
use Rattle.segments.specs.declared.Snapshot.{Snapshot}
use Rattle.page_writes.specs.PageLines.{byte_line, back_page}
use Rattle.segments.specs.ByPages.{writes_at, writes_of, Readable}
use Rattle.whole_roll.specs.Whole.{roll_of}
use Rattle.page_writes.proofs.PageLaws.{joined-none}
use Rattle.segments.proofs.AreaLaws.{maps-by-areas, protects-by-areas}

joined-below : {A : Type 0} (x y : ℕ → List A) (n : ℕ) → ((i : ℕ) → i < n → x i ≡ y i) → joined x n ≡ joined y n
unfolding joined
joined-below x y zero h = refl
joined-below x y (suc n) h = ap₂ ◌++◌ (joined-below x y n (λ i l. h i (omega arith))) (h n (omega arith))

-- the next n behind the first a
joined-split : {A : Type 0} (f : ℕ → List A) (a n : ℕ) → joined f (a + n) ≡ joined f a ++ joined (λ i. f (a + i)) n
unfolding joined
joined-split f a zero = let e : a + zero ≡ a = omega arith in rw e (sym (append-nil (joined f a)))
joined-split f a (suc n) =
    let e : a + suc n ≡ suc (a + n) = omega arith in
    rw (e, joined-split f a n) (append_assoc (joined f a) (joined (λ i. f (a + i)) n) (f (a + n)))

-- by addresses is by pages and places
pub joined-pages : {A : Type 0} (f : ℕ → List A) (n : ℕ) → joined f (n * 256) ≡ joined (λ i. joined (λ j. f (i * 256 + j)) 256) n
unfolding joined
joined-pages f zero = refl
joined-pages f (suc n) =
    let e : suc n * 256 ≡ n * 256 + 256 = omega arith in
    rw e (joined-split f (n * 256) 256 ∙ ap (λ l. l ++ joined (λ j. f (n * 256 + j)) 256) (joined-pages f n))

five : {A : Type 0} (a b c d e : List A) → (((a ++ b) ++ c) ++ d) ++ e ≡ a ++ (b ++ (c ++ (d ++ e)))
five a b c d e = simp append_assoc

module _ (image : List ℕ) (w : World) (s : ℕ) where
  abbrev b : Sandbox
  b = sandbox_at w s

  abbrev d : Pages
  d = snapshot_of image w s

  -- the snapshot as the code hands it on
  abbrev pub handed_on : Snapshot
  handed_on = record { sandbox = s; share = b.rec.share; areas = b.rec.snapshot }

  abbrev slot : ℕ → Slot
  slot i = slots b.rec.snapshot i

  abbrev page : ℕ → List ℕ
  page i = back_page image w.store.pool w.store.table s i (slot i)

  -- the page that the code looks at is the snapshot's
  page-same : (i : ℕ) → page i ≡ copy_read image w.store b.rec s i
  unfolding copy_read contents
  page-same i = refl

  abbrev line : ℕ → List Request
  line a = only (differs image d (a / 256) (a % 256)) (write_at s d a)

  line_same : (i j a : ℕ) → i ≡ a / 256 → j ≡ a % 256 → a ≡ i * 256 + j → is_mapped (slot i) ≡ true → line a ≡ byte_line image s i (slot i) (page i) j
  line_same i j a x y z m = rw (← x, ← y, m, z, page-same i)

  line-none : (i j a : ℕ) → i ≡ a / 256 → j ≡ a % 256 → is_mapped (slot i) ≡ false → line a ≡ []
  line-none i j a x y m = rw (← x, m)

  page-lines : (i : ℕ) → joined (λ j. line (i * 256 + j)) 256 ≡ writes_at image w.store.pool w.store.table handed_on i
  page-lines i =
      by_cases (is_mapped (slot i))
      (λ m. joined-below (λ j. line (i * 256 + j)) (byte_line image s i (slot i) (page i)) 256
      (λ j l. line_same i j (i * 256 + j) (omega arith) (omega arith) refl m) ∙ rw m)
      (λ m. joined-none (λ j. line (i * 256 + j)) 256 (λ j l. line-none i j (i * 256 + j) (omega arith) (omega arith) m) ∙ rw m)

  pub writes-by-pages : writes s image d ≡ writes_of image w.store.pool w.store.table handed_on
  unfolding writes
  writes-by-pages =
      joined-pages line 64
      ∙ joined-below (λ i. joined (λ j. line (i * 256 + j)) 256) (writes_at image w.store.pool w.store.table handed_on) 64 (λ i l. page-lines i)

  roll-is : Formed b.rec.snapshot → roll_of image w.store.pool w.store.table handed_on ≡ archive_of image w s
  unfolding roll_of archive
  roll-is F =
      rw (← maps-by-areas b.rec.snapshot F s, ← protects-by-areas b.rec.snapshot F s, ← writes-by-pages)
      (five (opening s b.rec.share) (maps s (slots b.rec.snapshot)) (writes s image d) (protects s (slots b.rec.snapshot)) (closing s))

  -- ---- of a sound state

  module _ (sound : soundb image w ≡ true) (row : s < 4) where
    well : WellFormed (pages_in (length image)) b.rec.snapshot
    well = ((tested image w sound).each s (omega arith)).rec.snapshot

    -- its snapshot's bytes can be read
    pub readable : Readable image w.store.pool w.store.table handed_on
    readable =
        let t = tested image w sound in
        record {
          row = omega arith;
          near = near (pages_in (length image)) b.rec.snapshot well t.images;
          ranged = filed-ranged 256 (frames_of w) w.store t.filed;
          backed = backing-there image b.rec.snapshot well;
        }

    pub roll-here : roll_of image w.store.pool w.store.table handed_on ≡ archive_of image w s
    roll-here = roll-is (record { images = pages_in (length image); few = (tested image w sound).images; formed = well })
