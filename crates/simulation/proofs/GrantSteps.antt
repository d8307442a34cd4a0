-- A map that takes a run: the entries and marks of the pages that get its frames, and that no byte of the pool changes.
use mathlib.Core.Path.{◌≡◌, refl, ◌∙◌}
use mathlib.Core.Logic.{⊎_elim}
use Prim.Native.Nat.{ℕ, zero, suc, ◌+◌, ◌≤◌, ◌<◌}
use native.Mathlib.Omega.{arith}
use native.Mathlib.Numerals.{add-one}
use lib.ListN.{length, length-set}
use lib.Seq.{get_or-set_same, get_or-set_other}
use Rattle.frames.specs.declared.Held.{Held}
use Rattle.frames.specs.Frames.{held, least_held}
use Rattle.frames.proofs.FrameLaws.{held-mark-other}
use Rattle.marks.proofs.NamedLaws.{same_or}
use Rattle.table.specs.Store.{Store, entry, put, take}
use Rattle.kept.specs.Spare.{left_of, grant_to}

module _ (size first : ℕ) (run : Held) (st : Store) where
  abbrev to : ℕ → Store
  to m = grant_to size first run st m

  grant-table : (m : ℕ) → length (to m).table ≡ length st.table
  unfolding grant_to take put
  grant-table zero = refl
  grant-table (suc m) = length-set (to m).table (first + m) _ ∙ grant-table m

  -- each page gets the smallest frame that is left
  pub grant-front : (m j : ℕ) → j < m → first + m ≤ length st.table → entry (to m) (first + j) ≡ suc (least_held (left_of run j))
  unfolding grant_to take put
  grant-front zero j l room = absurd (omega arith)
  grant-front (suc m) j l room =
      ⊎_elim
      (λ e. rw e (get_or-set_same (to m).table (first + m) (least_held (left_of run m) + 1) 0 (omega (arith, grant-table m)) ∙ add-one (least_held (left_of run m))))
      (λ e. get_or-set_other (to m).table (first + m) (first + j) (least_held (left_of run m) + 1) 0 (λ z. e (omega arith))
      ∙ grant-front m j (omega arith) (omega arith))
      (same_or j m)

  -- the marks of other frames stay
  pub grant-marked : (m x : ℕ) → ((j : ℕ) → j < m → x ≡ least_held (left_of run j) → ⊥) → held (to m).marks x ≡ held st.marks x
  unfolding grant_to take put
  grant-marked zero x d = refl
  grant-marked (suc m) x d =
      held-mark-other (to m).marks (least_held (left_of run m)) 1 x (omega arith) (d m (omega arith)) ∙ grant-marked m x (λ j l. d j (omega arith))
