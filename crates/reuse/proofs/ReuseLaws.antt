-- What a write gives up, and a frame that is not held.
use Prim.Native.Nat.{ℕ, ◌+◌, ◌≤◌, ◌<◌}
use mathlib.Core.Path.{◌≡◌, sym, ap, ◌∙◌}
use mathlib.Core.Bool.{Bool, true, false, false≢true}
use native.Mathlib.Omega.{arith}
use lib.Dec.{ltb}
use borrow.Author.Tests.{lt-ltb, le-ltb}
use Rattle.basics.specs.Ranges.{sum}
use Rattle.run_choice.specs.Runs.{longest_run}
use Rattle.run_choice.proofs.RunLaws.{longest-some}
use Rattle.frames.specs.declared.Held.{Held}
use Rattle.frames.specs.Frames.{held, mark, count_held, least_held, both_held}
use Rattle.frames.proofs.PairLaws.{held_both, least-found}
use Rattle.runs.specs.declared.Runs.{Runs}
use Rattle.runs.specs.Row.{row, lengths_of, with_run_at}
use Rattle.kept.specs.Spare.{kept_by}
use Rattle.std.specs.Prelude.{Option, Some, None, unwrap_or}
use Rattle.frames.specs.declared.FrameNo.{FrameNo}
use Rattle.free_frames.specs.Greatest.{greatest}
use Rattle.free_frames.proofs.GreatestLaws.{greatest-found, greatest-all}
use Rattle.reuse.specs.Reuse.{GaveUp}

-- ---- a frame is given up

pub gave-none : (gives : Bool) (runs : Runs) (kept : Held) → gives ≡ false → GaveUp gives runs kept (record { runs = runs; kept = kept })
gave-none gives runs kept e = record { given = 0; gave = λ t. absurd (false≢true (sym e ∙ t)); left = rw e; marks = rw e }

pub gave_one : (gives : Bool) (runs : Runs) (kept : Held) (place : ℕ) (run : Held) → gives ≡ true → place ≡ longest_run (lengths_of runs) → run ≡ row runs place
    → 1 ≤ count_held run → GaveUp gives runs kept (record { runs = with_run_at place (mark run (least_held run) 0) runs; kept = mark kept (least_held run) 0 })
gave_one gives runs kept place run e p r some =
    let there : run ≡ row runs (longest_run (lengths_of runs)) = r ∙ ap (row runs) p in
    let found = least-found run some in
    record {
      given = least_held run;
      gave = λ _. record { low = found.0; kept = ap (λ (h : Held). held h (least_held run)) (sym there) ∙ found.1 };
      left = rw (e, p) (ap (λ (h : Held). with_run_at (longest_run (lengths_of runs)) (mark h (least_held run) 0) runs) there);
      marks = rw e;
    }

-- where a frame is kept the longest run has one
pub longest-has : (runs : Runs) (place most : ℕ) (run : Held) → most ≡ sum (lengths_of runs) 8 → (most ≡ 0 → ⊥)
    → place ≡ longest_run (lengths_of runs) → run ≡ row runs place
    → 1 ≤ count_held run
longest-has runs place most run m n p r =
    rw (r, p) (longest-some (lengths_of runs) (omega (arith, m, n)))

-- whether the share is exceeded, by the numbers that the code counts
module _ (share used most : ℕ) (runs : Runs) (all : most ≡ sum (lengths_of runs) 8) where
  pub nothing-kept : used < share → most ≡ 0 → ltb share (used + kept_by (row runs) + 1) ≡ false
  unfolding kept_by
  nothing-kept l z = le-ltb share _ (omega (arith, l, all, z))

  pub within-share : used + most < share → ltb share (used + kept_by (row runs) + 1) ≡ false
  unfolding kept_by
  within-share l = le-ltb share _ (omega (arith, l, all))

  pub above-share : share ≤ used + most → ltb share (used + kept_by (row runs) + 1) ≡ true
  unfolding kept_by
  above-share l = lt-ltb share _ (omega (arith, l, all))

-- ---- a frame that is not held

pub both-free : (named kept : Held) (f : ℕ) → f < 128 → held (both_held named kept) f ≡ 0 → (held named f ≡ 0) × (held kept f ≡ 0)
both-free named kept f l e = let m = held_both named kept f l in (omega (arith, m, e), omega (arith, m, e))

pub free-both : (named kept : Held) (f : ℕ) → f < 128 → held named f ≡ 0 → held kept f ≡ 0 → held (both_held named kept) f ≡ 0
free-both named kept f l a b = held_both named kept f l ∙ rw (a, b)

-- one of the pool that neither marks
pub record Unheld (named kept : Held) (n : ℕ) (f : FrameNo) : Type 0 where
  pub within : f.0 < n
  pub unnamed : held named f.0 ≡ 0
  pub unkept : held kept f.0 ≡ 0

-- the greatest is one; that none is found is impossible, since there is one
pub unheld-found : (named kept both : Held) (n : ℕ) (found : Option FrameNo) (other : FrameNo) → n ≤ 128 → both ≡ both_held named kept
    → found ≡ greatest (held both) n → (f : ℕ) × ((f < n) × ((held named f ≡ 0) × (held kept f ≡ 0))) → Unheld named kept n (unwrap_or found other)
unheld-found named kept both n (Some f) other few b e there =
    let g = greatest-found (held both) n f (sym e) in
    let two = both-free named kept f.0 (omega (arith, g.within)) (ap (λ (h : Held). held h f.0) (sym b) ∙ g.free) in
    record { within = g.within; unnamed = two.0; unkept = two.1 }
unheld-found named kept both n None other few b e there =
    absurd (greatest-all (held both) n (sym e) there.0 there.1.0
    (ap (λ (h : Held). held h there.0) b ∙ free-both named kept there.0 (omega (arith, there.1.0)) there.1.1.0 there.1.1.1))
