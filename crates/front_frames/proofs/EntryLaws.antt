-- The frames that entries name come to a run: one more, a group of entries behind others, entries that name none, and the fronts of pages.
use Prim.Native.Nat.{ℕ, zero, suc, ◌+◌, ◌<◌}
use mathlib.Core.Path.{◌≡◌, refl, sym, ap, ◌∙◌}
use mathlib.Core.List.{List}
use native.Mathlib.Omega.{arith}
use native.Mathlib.Nat.{add-zero, add-suc}
use native.Mathlib.Numerals.{add-one}
use borrow.Author.Tests.{eq-eqb}
use lib.ListN.{get_or}
use Rattle.frames.specs.declared.Held.{Held}
use Rattle.frames.specs.Frames.{none_held}
use Rattle.table.specs.Store.{front_of}
use Rattle.front_frames.specs.Fronts.{with_entry, with_entries, fronts_to}

module _ (table : List ℕ) (at : ℕ) (run : Held) where
  pub entries-more : (i e : ℕ) (all next : Held) → all ≡ with_entries table at run i → e ≡ get_or table (at + i) 0 → next ≡ with_entry e all
      → next ≡ with_entries table at run (i + 1)
  unfolding with_entries
  entries-more i e all next a b d = d ∙ rw (add-one i) (rw (a, b))

  pub entries-join : (i m : ℕ) → with_entries table (at + i) (with_entries table at run i) m ≡ with_entries table at run (i + m)
  unfolding with_entries
  entries-join i zero = ap (with_entries table at run) (sym (add-zero i))
  entries-join i (suc m) =
      let place : at + i + m ≡ at + (i + m) = omega arith in
      rw (add-suc i m, place) (ap (with_entry (get_or table (at + (i + m)) 0)) (entries-join i m))

  pub entries_none : (n : ℕ) → ((i : ℕ) → i < n → get_or table (at + i) 0 ≡ 0) → with_entries table at run n ≡ run
  unfolding with_entries
  entries_none zero h = refl
  entries_none (suc n) h =
      rw (eq-eqb (get_or table (at + n) 0) 0 (h n (omega arith))) (entries_none n (λ i l. h i (omega arith)))

pub entries-fronts : (table : List ℕ) (s first n : ℕ) → with_entries table (front_of s first) none_held n ≡ fronts_to table s first n
unfolding with_entries fronts_to
entries-fronts table s first zero = refl
entries-fronts table s first (suc n) =
    let place : front_of s first + n ≡ front_of s (first + n) = omega arith in
    rw place (ap (with_entry (get_or table (front_of s (first + n)) 0)) (entries-fronts table s first n))
