-- The test of a sandbox's runs says what soundness asks of them, both ways.
use mathlib.Core.Path.{◌≡◌, ap}
use mathlib.Core.Bool.{Bool, true, false, not}
use Prim.Native.Nat.{ℕ, ◌+◌, ◌*◌, ◌≤◌}
use native.Mathlib.Omega.{arith}
use lib.Dec.{leb, eqb}
use lib.ListN.{length, get_or-replicate}
use borrow.Author.Tests.{eq-eqb, eqb-true, leb-true, le-leb, not-true}
use Rattle.basics.specs.Ranges.{every}
use Rattle.basics.proofs.TestLaws.{and_both, and-of, implied, implies-of}
use Rattle.basics.proofs.LoopLaws.{every-at, every_of}
use Rattle.frames.specs.Frames.{none_held, same_held}
use Rattle.frames.proofs.FrameLaws.{same-held-true, same-held-of}
use Rattle.marks.specs.Named.{used_below}
use Rattle.marks.specs.Marks.{from}
use Rattle.table.specs.Store.{Store}
use Rattle.runs.specs.declared.Runs.{Runs}
use Rattle.runs.specs.Row.{row, no_runs}
use Rattle.runs.proofs.RowLaws.{no-runs}
use Rattle.kept.specs.Spare.{kept_by}
use Rattle.run_soundness.specs.Test.{none_kept, runs_ok}

pub record RunsSound (st : Store) (s : ℕ) (opened : Bool) (share : ℕ) (r : Runs) : Type 0 where
  pub places : length r.list ≡ 8
  pub in_share : used_below (from (s * 128) st.table) 128 + kept_by (row r) ≤ share
  pub closed : opened ≡ false → r ≡ no_runs

pub runs-true : (st : Store) (s : ℕ) (opened : Bool) (share : ℕ) (r : Runs) → runs_ok st s opened share r ≡ true → RunsSound st s opened share r
unfolding runs_ok none_kept
runs-true st s opened share r h =
    let h₁ = and_both (eqb (length r.list) 8) _ h in
    let h₂ = and_both (leb (used_below (from (s * 128) st.table) 128 + kept_by (row r)) share) _ h₁.1 in
    let eight : length r.list ≡ 8 = eqb-true _ 8 h₁.0 in
    let none : Bool = every (λ i. same_held (row r i) none_held) 0 8 in
    record {
      places = eight;
      in_share = leb-true _ _ h₂.0;
      closed = λ o. no-runs r eight (λ i l. same-held-true (row r i) none_held
          (every-at (λ i. same_held (row r i) none_held) 0 8 (implied (not opened) none h₂.1 (ap not o)) i (omega arith) (omega arith)));
    }

pub runs_of : (st : Store) (s : ℕ) (opened : Bool) (share : ℕ) (r : Runs) → RunsSound st s opened share r → runs_ok st s opened share r ≡ true
unfolding runs_ok none_kept
runs_of st s opened share r R =
    and-of (eq-eqb _ 8 R.places)
    (and-of (le-leb _ _ R.in_share)
    (implies-of (not opened) (every (λ i. same_held (row r i) none_held) 0 8)
    (λ o. rw (R.closed (not-true opened o)) (every_of (λ i. same_held (row no_runs i) none_held) 0 8
    (λ i a b. same-held-of (row no_runs i) none_held (get_or-replicate 8 i none_held none_held (omega arith)))))))
