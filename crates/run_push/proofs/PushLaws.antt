-- A push by the code's ways out, and the runs that move up one by one.
use Prim.Native.Nat.{ℕ, suc, ◌+◌, ◌-◌, ◌≤◌, ◌<◌}
use mathlib.Core.Path.{◌≡◌, sym, ◌∙◌}
use mathlib.Core.Bool.{Bool, true}
use native.Mathlib.Omega.{arith}
use borrow.Author.Tests.{le-leb, lt-leb}
use Rattle.basics.specs.Rows.{best, no_longer}
use Rattle.frames.specs.declared.Held.{Held}
use Rattle.frames.specs.Frames.{none_held, same_held, count_held}
use Rattle.frames.proofs.FrameLaws.{held-zero, none-count, same-held-true}
use Rattle.runs.specs.declared.Runs.{Runs}
use Rattle.runs.specs.Row.{row, lengths_of, with_run_at, shift_to, moved_runs, pushed}

pub shift-more : (c : ℕ) (r₀ : Runs) (i : ℕ) (r : Runs) (h : Held) (q : Runs) → c ≤ i → r ≡ shift_to c r₀ (i - c) → h ≡ row r (i + 1) → q ≡ with_run_at i h r
    → q ≡ shift_to c r₀ (i + 1 - c)
unfolding shift_to
shift-more c r₀ i r h q l a b d =
    let z : i + 1 - c ≡ suc (i - c) = omega arith in
    let y : c + (i - c) ≡ i = omega arith in
    d ∙ rw (z, y) (rw (b, a))

module _ (r : Runs) (run : Held) (c n m : ℕ) (place : c ≡ best no_longer (lengths_of r) 8) (size : n ≡ count_held run) (old : m ≡ lengths_of r c) where
  pub push-stays : n ≤ m → r ≡ pushed r run
  unfolding pushed
  push-stays h = rw (← place, ← size, ← old, le-leb n m h)

pub push-moves : (r : Runs) (run : Held) (c n m : ℕ) (q : Runs) → c ≡ best no_longer (lengths_of r) 8 → n ≡ count_held run → m ≡ lengths_of r c → m < n
    → q ≡ moved_runs c run r → q ≡ pushed r run
unfolding pushed
push-moves r run c n m q place size old h d = rw (← place, ← size, ← old, lt-leb n m h) d

-- a last place without a frame is the shortest, and the newest of those
pub push-last : (r : Runs) (run : Held) (n : ℕ) (e : Bool) (q : Runs) → n ≡ count_held run → (n ≡ 0 → ⊥) → e ≡ same_held (row r 7) none_held → e ≡ true
    → q ≡ with_run_at 7 run r → q ≡ pushed r run
unfolding pushed best moved_runs shift_to
push-last r run n e q size some same t d =
    let none : lengths_of r 7 ≡ 0 = rw (same-held-true (row r 7) none_held (sym same ∙ t)) (none-count none_held (λ f l. held-zero f)) in
    d ∙ rw (none, le-leb 0 (lengths_of r (best no_longer (lengths_of r) 7)) (omega arith), none, ← size, lt-leb n 0 (omega (arith, some)))
