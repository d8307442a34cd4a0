-- The tests of the runs, by the code's loops and ways out.
use Prim.Native.Nat.{ℕ, ◌+◌, ◌*◌, ◌≤◌, ◌<◌}
use mathlib.Core.Path.{◌≡◌, sym}
use mathlib.Core.Bool.{Bool, true, false, not}
use native.Mathlib.Omega.{arith}
use lib.Dec.{leb}
use lib.ListN.{length}
use borrow.Author.Tests.{eq-eqb, le-leb}
use Rattle.basics.specs.Ranges.{sum, every}
use Rattle.basics.proofs.TestLaws.{and-of, and-true, and-false, implies-of}
use Rattle.basics.proofs.LoopLaws.{every-at}
use Rattle.frames.specs.Frames.{held, apart_held, same_held, none_held}
use Rattle.words.proofs.SumLaws.{sum-none}
use Rattle.frames.proofs.FrameLaws.{held-zero, same-held-true, none-count}
use Rattle.marks.specs.declared.Marks.{Marks}
use Rattle.marks.specs.Named.{used_below}
use Rattle.marks.specs.Marks.{from}
use Rattle.table.specs.Store.{Store}
use Rattle.runs.specs.declared.Runs.{Runs}
use Rattle.runs.specs.Row.{row, lengths_of}
use Rattle.kept.specs.Spare.{Rows, kept_by}
use Rattle.kept.specs.Test.{kept_to, frame_ok, spareb}
use Rattle.run_soundness.specs.Test.{none_kept, runs_ok}

module _ (n : ℕ) (st : Store) (rows : Rows) (m : Marks) (found : m ≡ kept_to rows 4) where
  pub twice : m.good ≡ false → false ≡ spareb n st rows
  unfolding spareb
  twice e = rw (← found, e)

  pub named-too : m.good ≡ true → apart_held st.marks m.held ≡ false → false ≡ spareb n st rows
  unfolding spareb
  named-too e d = rw (← found, e, d)

  pub frames-decide : m.good ≡ true → apart_held st.marks m.held ≡ true → every (frame_ok n st.pool m.held) 0 128 ≡ spareb n st rows
  unfolding spareb
  frames-decide e d = rw (← found, e, d)

-- runs without a frame keep none
none-kept : (r : Runs) → none_kept r ≡ true → kept_by (row r) ≡ 0
unfolding none_kept kept_by
none-kept r e =
    let empty : (i : ℕ) → i < 8 → row r i ≡ none_held =
    λ i l. same-held-true (row r i) none_held (every-at (λ i. same_held (row r i) none_held) 0 8 e i (omega arith) l) in
    sum-none (lengths_of r) 8 (λ i l. none-count (row r i) (λ f d. rw (empty i l) (held-zero f)))

module _ (st : Store) (s : ℕ) (opened : Bool) (share : ℕ) (r : Runs) (eight : length r.list ≡ 8) where
  pub keeps-none : none_kept r ≡ true → used_below (from (s * 128) st.table) 128 ≤ share → true ≡ runs_ok st s opened share r
  unfolding runs_ok
  keeps-none e h = sym (and-of (eq-eqb _ 8 eight) (and-of (le-leb _ share (omega (arith, h, none-kept r e))) (implies-of (not opened) (none_kept r) (λ o. e))))

  pub closed-keeps : none_kept r ≡ false → opened ≡ false → false ≡ runs_ok st s opened share r
  unfolding runs_ok
  closed-keeps e o = rw (eq-eqb _ 8 eight, e, o) (sym (and-false (leb (used_below (from (s * 128) st.table) 128 + kept_by (row r)) share)))

  pub open-keeps : (u k : ℕ) → u ≡ used_below (from (s * 128) st.table) 128 → k ≡ sum (lengths_of r) 8 → opened ≡ true
      → leb (u + k) share ≡ runs_ok st s opened share r
  unfolding runs_ok kept_by
  open-keeps u k us ks o = rw (eq-eqb _ 8 eight, ← us, ← ks, o) (sym (and-true (leb (u + k) share)))
