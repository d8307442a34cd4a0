-- Laws of the runs that a map takes and a write gives a frame up from.
use Prim.Native.Nat.{ℕ, ◌+◌, ◌-◌, ◌≤◌, ◌<◌}
use mathlib.Core.Path.{◌≡◌}
use mathlib.Core.Bool.{true, false, false≢true}
use native.Mathlib.Omega.{arith}
use lib.Dec.{leb}
use borrow.Author.Tests.{leb-true, leb-false}
use Rattle.basics.specs.Ranges.{sum}
use Rattle.basics.specs.Rows.{best, longer, fitter, in_place}
use Rattle.basics.proofs.TestLaws.{by_cases}
use Rattle.basics.proofs.CountLaws.{sum-put, sum-some}
use Rattle.basics.proofs.RowLaws.{best-low, best-same, longest-top}
use Rattle.interface.specs.declared.page.Slot.{Slot}
use Rattle.interface.specs.declared.page.Slot.TheVariants.{Unmapped, Mapped}
use Rattle.interface.specs.Slots.{is_committed}
use Rattle.run_choice.specs.Runs.{run_places, is_spared, run_for, granted, longest_run}

module _ (pages : ℕ) (l : ℕ → ℕ) where
  pub run-low : run_for pages l < run_places
  unfolding run_for
  run-low = best-low (fitter pages) l run_places (omega arith)

  -- no more frames than pages, and no more than the run has
  pub granted-le : granted pages l ≤ pages
  unfolding granted
  granted-le =
      by_cases (leb pages (l (run_for pages l)))
      (λ e. rw e (omega arith))
      (λ e. let m : l (run_for pages l) < pages = leb-false _ _ e in rw e (omega arith))

  pub granted-run : granted pages l ≤ l (run_for pages l)
  unfolding granted
  granted-run =
      by_cases (leb pages (l (run_for pages l)))
      (λ e. let m : pages ≤ l (run_for pages l) = leb-true _ _ e in rw e m)
      (λ e. rw e (omega arith))

-- rows with the same lengths
module _ (l m : ℕ → ℕ) (same : (i : ℕ) → i < run_places → l i ≡ m i) where
  pub run-same : (pages : ℕ) → run_for pages l ≡ run_for pages m
  unfolding run_for
  run-same pages = best-same (fitter pages) l m run_places same

  pub granted-same : (pages : ℕ) → granted pages l ≡ granted pages m
  unfolding granted
  granted-same pages = rw (run-same pages, same (run_for pages m) (run-low pages m))

  pub longest-same : longest_run l ≡ longest_run m
  unfolding longest_run
  longest-same = best-same longer l m run_places same

pub longest-low : (l : ℕ → ℕ) → longest_run l < run_places
unfolding longest_run
longest-low l = best-low longer l run_places (omega arith)

-- where a frame is kept, the longest run has one
pub longest-some : (l : ℕ → ℕ) → 1 ≤ sum l run_places → 1 ≤ l (longest_run l)
unfolding longest_run
longest-some l h = sum-some l run_places (l (best longer l run_places)) (longest-top l run_places) h

-- a run with fewer frames
pub sum_less : (l : ℕ → ℕ) (c frames : ℕ) → c < run_places → frames ≤ l c → sum (λ i. in_place c (l c - frames) l i) run_places + frames ≡ sum l run_places
sum_less l c frames low h = omega (arith, sum-put (λ x. x) l c (l c - frames) run_places low)

-- a committed page's front is in no run
pub spared-uncommitted : (x : Slot) → is_spared x ≡ true → is_committed x ≡ false
spared-uncommitted Unmapped e = cc
spared-uncommitted (Mapped t) e = by_cases t.committed (λ c. absurd (false≢true (rw c at e))) (λ c. c)
