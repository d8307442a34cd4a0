-- A sound state has a frame for every mapped page without a front.
use mathlib.Core.Path.{◌≡◌, refl}
use mathlib.Core.Bool.{Bool, true, false}
use mathlib.Core.List.{List}
use Prim.Native.Nat.{ℕ, zero, suc, ◌+◌, ◌*◌, ◌≤◌, ◌<◌}
use native.Mathlib.Omega.{arith}
use lib.Dec.{eqb}
use lib.ListN.{length}
use borrow.Author.Tests.{eqb-true, eqb-false}
use Rattle.basics.specs.Ranges.{one, count, sum}
use Rattle.basics.proofs.TestLaws.{by_cases}
use Rattle.basics.proofs.CountLaws.{count-sum, sum-plus}
use Rattle.interface.specs.Slots.{is_mapped, mapped_pages}
use Rattle.run_choice.specs.Runs.{longest_run}
use Rattle.interface.proofs.ChargeLaws.{charge-covers}
use Rattle.run_choice.proofs.RunLaws.{longest-some}
use Rattle.interface.specs.Numbers.{pages_in}
use Rattle.frames.specs.Frames.{held}
use Rattle.marks.specs.Named.{used, used_below}
use Rattle.marks.specs.Marks.{from}
use Rattle.marks.proofs.NamedLaws.{by-entry}
use Rattle.marks.proofs.MarkLaws.{used-add, used-parts}
use Rattle.table.specs.Store.{Store, entry, front_of, back_of}
use Rattle.kept.specs.Spare.{lengths, kept_at, kept_by}
use Rattle.kept.proofs.SpareLaws.{frame-there as frame-kept}
use Rattle.areas.specs.Areas.{slots}
use Rattle.records.specs.Record.{copy_of}
use Rattle.records.proofs.SettledLaws.{copied-as}
use Rattle.record_soundness.proofs.RecordLaws.{passed-untaken}
use Rattle.state.specs.declared.sandbox.Sandbox.{Sandbox}
use Rattle.state.specs.World.{World, sandbox_at, record_at, frames_of, rows_of}
use Rattle.state.specs.Sound.{SoundAt}
use Rattle.soundness.proofs.TestLaws.{Passed, passed-committed, sound-passed, Tested}

-- ---- sums that are no greater, and less where one place is

sum-le : (f h : ℕ → ℕ) (n : ℕ) → ((i : ℕ) → i < n → f i ≤ h i) → sum f n ≤ sum h n
unfolding sum
sum-le f h zero e = omega arith
sum-le f h (suc n) e = omega (arith, e n (omega arith), sum-le f h n (λ i l. e i (omega arith)))

sum_less : (f h : ℕ → ℕ) (n i : ℕ) → ((j : ℕ) → j < n → f j ≤ h j) → i < n → f i < h i → sum f n < sum h n
unfolding sum
sum_less f h zero i e l d = absurd (omega arith)
sum_less f h (suc n) i e l d =
    by_cases (eqb i n)
    (λ t. let last : f n < h n = rw (eqb-true i n t) at d in omega (arith, last, sum-le f h n (λ j m. e j (omega arith))))
    (λ t. omega (arith, e n (omega arith), sum_less f h n i (λ j m. e j (omega arith)) (omega (arith, eqb-false i n t)) d))

-- entries that name a frame only at numbers that pass
module _ (f : ℕ → ℕ) (m : ℕ → Bool) (n : ℕ) (e : (i : ℕ) → i < n → used (f i) ≤ one (m i)) where
  used_le : used_below f n ≤ count m n
  unfolding used_below
  used_le = rw (count-sum m n) (sum-le (λ i. used (f i)) (λ i. one (m i)) n e)

  used-less : (i : ℕ) → i < n → used (f i) < one (m i) → used_below f n < count m n
  unfolding used_below
  used-less i l d = rw (count-sum m n) (sum_less (λ j. used (f j)) (λ j. one (m j)) n i e l d)

-- ---- a sandbox that passes its test, whatever it keeps

module _ (images : ℕ) (st : Store) (s : ℕ) (b : Sandbox) (P : Passed images st s b) where
  abbrev mapped_at : ℕ → Bool
  mapped_at i = is_mapped (slots b.rec.present i)

  abbrev copied_at : ℕ → Bool
  copied_at i = is_mapped (slots b.rec.snapshot i)

  covers : mapped_pages (slots b.rec.present) + count copied_at 64 ≤ b.rec.share
  covers =
      let copy = copied-as b.rec (passed-untaken images b.rec P.rec) in
      omega (
        arith,
        P.rec.charged,
        charge-covers (slots b.rec.present) (copy_of b.rec) copied_at (λ i c. rw copy (passed-committed images st s b P i c)) (λ i c. rw copy c),
      )

  used-by : (k : ℕ) (m : Bool) → (m ≡ false → entry st k ≡ 0) → used (entry st k) ≤ one m
  used-by k true h = by-entry (used (entry st k) ≤ 1) (entry st k) (λ z. rw z (omega arith)) (λ f z. rw z (omega arith))
  used-by k false h = rw (h refl) (omega arith)

  fronts : (i : ℕ) → i < 64 → used (from (s * 128) st.table i) ≤ one (mapped_at i)
  fronts i l = used-by (front_of s i) (mapped_at i) (P.page i l).fronts

  backs : used_below (λ i. from (s * 128) st.table (64 + i)) 64 ≤ count copied_at 64
  backs =
      used_le (λ i. from (s * 128) st.table (64 + i)) copied_at 64
      (λ i l. let z : s * 128 + (64 + i) ≡ s * 128 + i + 64 = omega arith in rw z (used-by (back_of s i) (copied_at i) (P.page i l).backs))

  -- its entries name at most as many frames as its share
  pub passed-share : used_below (from (s * 128) st.table) 128 ≤ b.rec.share
  unfolding mapped_pages
  passed-share = omega (arith, used-add (from (s * 128) st.table) 64 64, covers, backs, used_le (from (s * 128) st.table) mapped_at 64 fronts)

  -- and fewer where a mapped page has no front
  passed-less : (i : ℕ) → i < 64 → is_mapped (slots b.rec.present i) ≡ true → entry st (front_of s i) ≡ 0
      → used_below (from (s * 128) st.table) 128 < b.rec.share
  unfolding mapped_pages
  passed-less i l m e =
      omega (
        arith,
        used-add (from (s * 128) st.table) 64 64,
        covers,
        backs,
        used-less (from (s * 128) st.table) mapped_at 64 fronts i l (rw (e, m) (omega arith)),
      )

-- ---- the world

pub holds-share : (images : ℕ) (st : Store) (s : ℕ) (b : Sandbox) → SoundAt images st s b → used_below (from (s * 128) st.table) 128 ≤ b.rec.share
holds-share images st s b S = omega (arith, S.in_share)

-- fronts, backs and kept frames of sandbox s
abbrev pub holds : World → ℕ → ℕ
holds w s = used_below (from (s * 128) w.store.table) 128 + kept_by (rows_of w s)

module _ (image : List ℕ) (w : World) (S : Tested image w) (s i : ℕ) (l : s < 4) (k : i < 64)
    (m : is_mapped (slots (record_at w s).present i) ≡ true) (e : entry w.store (front_of s i) ≡ 0) where
  -- where a sandbox holds fewer frames than its share, entries and runs together hold fewer than the pool has
  pub room : holds w s < (record_at w s).share → used_below (entry w.store) 512 + sum (λ t. kept_by (rows_of w t)) 4 < frames_of w
  room h =
      omega (
        arith,
        used-parts (entry w.store) 128 4,
        S.pooled,
        sum-plus (λ t. used_below (from (t * 128) w.store.table) 128) (λ t. kept_by (rows_of w t)) 4,
        sum_less (λ t. holds w t) (λ t. (record_at w t).share) 4 s (λ t d. (S.each t d).in_share) l h,
      )

  -- so a frame of the pool is neither named nor kept
  pub frame-there : holds w s < (record_at w s).share → (f : ℕ) × ((f < frames_of w) × ((held w.store.marks f ≡ 0) × (kept_at (rows_of w) f ≡ 0)))
  frame-there h = frame-kept 256 (frames_of w) w.store (rows_of w) S.filed S.spare (room h)

  -- fronts and backs leave room within the share for the page's front
  pub room-left : used_below (from (s * 128) w.store.table) 128 < (record_at w s).share
  room-left =
      let images : ℕ = pages_in (length image) in
      passed-less images w.store s (sandbox_at w s) (sound-passed images w.store s (sandbox_at w s) (S.each s l)) i k m e

  -- so where it holds as many as its share, it keeps a frame to give up
  pub kept_there : (record_at w s).share ≤ holds w s → 1 ≤ lengths (rows_of w s) (longest_run (lengths (rows_of w s)))
  unfolding kept_by
  kept_there h = longest-some (lengths (rows_of w s)) (omega (arith, h, room-left))
