-- What a store has whose marks are those of the frames that its entries name.
use mathlib.Core.Path.{◌≡◌, sym}
use mathlib.Core.Logic.{◌⊎◌, inl, inr, ⊎_elim}
use mathlib.Core.Bool.{true}
use Prim.Native.Nat.{ℕ, ◌+◌, ◌*◌, ◌^◌, ◌≤◌, ◌<◌}
use native.Mathlib.Nat.{le_trans, le_of_eq, mul-le-mul_right, zero-mul}
use native.Mathlib.Omega.{arith}
use lib.ListN.{length}
use Rattle.frames.specs.Frames.{count_held}
use Rattle.frames.proofs.FrameLaws.{lt-or-ge}
use Rattle.marks.specs.Named.{used_below}
use Rattle.marks.specs.Marks.{marks_to, marksb, from}
use Rattle.marks.proofs.NamedLaws.{by-entry}
use Rattle.marks.proofs.MarkLaws.{past_end, marksb-named, count-named, count-run as count-run-named}
use Rattle.table.specs.Store.{Store, entry, Ranged, Filed}

-- ---- what the code asks

pub zero-times : (a b : ℕ) → 0 * a ≤ b
zero-times a b = omega (arith, zero-mul a)

-- a store with the right marks is safe
pub filed-ranged : (size n : ℕ) (s : Store) → Filed size n s → Ranged size s.pool s.table
filed-ranged size n s t =
    record {
      entries = t.entries;
      few = λ k. by-entry (entry s k ≤ 128) (entry s k) (λ e. omega arith) (λ f e. omega (arith, t.names.within k f e, t.few));
      room = λ k. by-entry (entry s k * size ≤ length s.pool) (entry s k)
          (λ e. rw e (zero-times size (length s.pool)))
          (λ f e. rw e (le_trans (mul-le-mul_right size (t.names.within k f e)) (le_of_eq (sym t.pages))));
    }

-- the code's test of the marks says it
pub filed-of : (size n : ℕ) (s : Store) → n ≤ 128 → length s.pool ≡ n * size → length s.table ≡ 512 → marksb n s.marks s.table ≡ true
    → s.marks.low < 2 ^ 64 → s.marks.high < 2 ^ 64 → Filed size n s
filed-of size n s few a b e l h = record { few = few; pages = a; entries = b; names = marksb-named n s.marks s.table few b e; low = l; high = h }

-- ---- how many frames are held

module _ (size n : ℕ) (s : Store) (t : Filed size n s) where
  -- as many as entries name one
  pub count-filed : count_held s.marks ≡ used_below (entry s) 512
  count-filed = count-named n t.few s.marks (entry s) t.names 512 (past_end s.table t.entries)

  -- the frames that a run of entries names, counted by their marks
  pub count-run : (first m : ℕ) → count_held (marks_to n (from first s.table) m).held ≡ used_below (from first s.table) m
  count-run = count-run-named n t.few s.marks (entry s) t.names

-- ---- sandboxes

-- the entries of another sandbox lie outside a run of this one's
pub other-sandbox : (a b x m : ℕ) → (a ≡ b → ⊥) → x < 128 → m ≤ 128 → (b * 128 + x < a * 128) ⊎ (a * 128 + m ≤ b * 128 + x)
other-sandbox a b x m d l k = ⊎_elim (λ p. inr (omega arith)) (λ p. inl (omega arith)) (lt-or-ge a b)
