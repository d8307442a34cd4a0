-- A map takes a run: its first pages get the run's frames, smallest first, and hold zeros; the store stays tidy, the rest is kept, once and zero.
use mathlib.Core.Path.{◌≡◌, refl, ap, ◌∙◌}
use mathlib.Core.Logic.{◌⊎◌, inl, inr, ⊎_elim}
use mathlib.Core.Option.{none, some}
use Prim.Native.Nat.{ℕ, zero, suc, ◌+◌, ◌-◌, ◌≤◌, ◌<◌}
use native.Mathlib.Omega.{arith}
use lib.Dec.{eqb}
use Rattle.basics.specs.Rows.{in_place}
use Rattle.basics.proofs.TestLaws.{by_cases}
use Rattle.run_choice.specs.Runs.{run_places}
use Rattle.frames.specs.declared.Held.{Held}
use Rattle.frames.specs.Frames.{held, mark, count_held, least_held}
use Rattle.frames.proofs.FrameLaws.{lt-or-ge, held-lt, held-mark-same, held-mark-other, count-without}
use Rattle.frames.proofs.PairLaws.{least-found}
use Rattle.pages.specs.Parts.{zeros}
use Rattle.pages.proofs.PartLaws.{length-zeros}
use Rattle.marks.proofs.NamedLaws.{same_or}
use Rattle.table.specs.Store.{Store, entry, contents, Filed, Tidy, take}
use Rattle.table.proofs.StoreLaws.{Changed, none-entry, taken}
use Rattle.kept.specs.Spare.{Rows, lengths, Spare, left_of, grant_to, with_run}
use Rattle.kept.proofs.SpareLaws.{kept-with, run-kept, take-marks, spare-step}

-- ---- the smallest frames of a run

-- what is left when the j smallest are gone
pub left-count : (run : Held) (j : ℕ) → j ≤ count_held run → count_held (left_of run j) + j ≡ count_held run
unfolding left_of
left-count run zero h = omega arith
left-count run (suc j) h =
    let ih = left-count run j (omega arith) in
    let f = least-found (left_of run j) (omega (arith, ih)) in
    omega (arith, ih, count-without (left_of run j) (least_held (left_of run j)) f.0 f.1)

-- the next smallest is there
pub next-found : (run : Held) (j : ℕ) → suc j ≤ count_held run → (least_held (left_of run j) < 128) × (held (left_of run j) (least_held (left_of run j)) ≡ 1)
next-found run j h = least-found (left_of run j) (omega (arith, left-count run j (omega arith)))

pub left_le : (run : Held) (j f : ℕ) → held (left_of run j) f ≤ held run f
unfolding left_of
left_le run zero f = omega arith
left_le run (suc j) f =
    ⊎_elim
    (λ e. omega (
      arith,
      ap (held (mark (left_of run j) (least_held (left_of run j)) 0)) e,
      held-mark-same (left_of run j) (least_held (left_of run j)) 0 (omega arith),
    ))
    (λ e. omega (arith, left_le run j f, held-mark-other (left_of run j) (least_held (left_of run j)) 0 f (omega arith) e)) (same_or f (least_held (left_of run j)))

-- ---- the fronts

-- r is st after j entries from first on took the j smallest frames of a run
pub record Granted (C : ℕ → Type 0) (size n first : ℕ) (run : Held) (st : Store) (j : ℕ) (r : Store) : Type 0 where
  pub tidy : Tidy C size n r
  pub inside : (k : ℕ) → k < j → contents size r (first + k) ≡ some (zeros size)
  pub outside : (k : ℕ) → (k < first) ⊎ (first + j ≤ k) → contents size r k ≡ contents size st k
  -- each frame is where it was: a mark is gained where one is lost from the run
  pub marks : (f : ℕ) → f < 128 → held r.marks f + held (left_of run j) f ≡ held st.marks f + held run f

module _ {C : ℕ → Type 0} (size n first : ℕ) (run : Held) (st : Store) (T : Tidy C size n st) (m : ℕ)
    (enough : m ≤ count_held run) (place : first + m ≤ 512) (empty : (k : ℕ) → k < m → contents size st (first + k) ≡ none)
    (apart : (f : ℕ) → f < 128 → held st.marks f + held run f ≤ 1) (of_pool : (f : ℕ) → f < 128 → held run f ≡ 1 → f < n) where
  pub granted-to : (j : ℕ) → j ≤ m → Granted C size n first run st j (grant_to size first run st j)
  unfolding grant_to left_of
  granted-to zero l = record { tidy = T; inside = λ k d. absurd (omega arith); outside = λ k d. refl; marks = λ f d. refl }
  granted-to (suc j) l =
      let ih = granted-to j (omega arith) in
      let s : Store = grant_to size first run st j in
      let left : Held = left_of run j in
      let f : ℕ = least_held left in
      let found : (f < 128) × (held left f ≡ 1) = next-found run j (omega arith) in
      let mine : held run f ≡ 1 = omega (arith, found.1, left_le run j f, held-lt run f) in
      let idle : held s.marks f ≡ 0 = omega (arith, found.1, ih.marks f found.0, apart f found.0) in
      let bare : entry s (first + j) ≡ 0 = none-entry size s (first + j) (ih.outside (first + j) (inr (omega arith)) ∙ empty j (omega arith)) in
      let t : Store = take size (first + j) f (zeros size) s in
      let c : Changed C size n s (first + j) (some (zeros size)) t =
      taken size n s ih.tidy (first + j) f (zeros size) (omega arith) bare (of_pool f found.0 mine) idle (length-zeros size) in
      record {
        tidy = c.tidy;
        inside = λ k d. ⊎_elim (λ e. rw e c.same) (λ e. c.other (first + k) (λ z. e (omega arith)) ∙ ih.inside k (omega arith)) (same_or k j);
        outside = λ k d.
            c.other k (⊎_elim (λ x z. omega arith) (λ x z. omega arith) d) ∙ ih.outside k (⊎_elim (λ x. inl x) (λ x. inr (omega arith)) d);
        marks = λ g d. ⊎_elim
            (λ e. let a : held (mark s.marks f 1) g ≡ 1 = ap (held (mark s.marks f 1)) e ∙ held-mark-same s.marks f 1 (omega arith) in
            let b : held (mark left f 0) g ≡ 0 = ap (held (mark left f 0)) e ∙ held-mark-same left f 0 (omega arith) in
            let x : held s.marks g ≡ 0 = ap (held s.marks) e ∙ idle in
            let y : held left g ≡ 1 = ap (held left) e ∙ found.1 in
            let z : held t.marks g ≡ 1 = ap (λ (h : Held). held h g) (take-marks size (first + j) f (zeros size) s) ∙ a in
            omega (arith, z, b, x, y, ih.marks g d))
            (λ e. let a = held-mark-other s.marks f 1 g (omega arith) e in
            let b = held-mark-other left f 0 g (omega arith) e in
            let z : held t.marks g ≡ held s.marks g = ap (λ (h : Held). held h g) (take-marks size (first + j) f (zeros size) s) ∙ a in
            omega (arith, z, b, ih.marks g d)) (same_or g f);
      }

-- ---- with the runs of all

module _ (size n first : ℕ) (st : Store) (rows : Rows) (s c m : ℕ) (row : s < 4) (run : c < run_places) (F : Filed size n st) (S : Spare size n st rows)
    (enough : m ≤ count_held (rows s c)) (place : first + m ≤ 512) (empty : (k : ℕ) → k < m → contents size st (first + k) ≡ none) where
  apart : (f : ℕ) → f < 128 → held st.marks f + held (rows s c) f ≤ 1
  apart f l = omega (arith, S.once f l, run-kept rows s c f row run)

  of_pool : (f : ℕ) → f < 128 → held (rows s c) f ≡ 1 → f < n
  of_pool f l e = ⊎_elim (λ d. d) (λ d. absurd (omega (arith, S.of_pool f d l, run-kept rows s c f row run))) (lt-or-ge f n)

  -- what the new pages hold, that nothing else changes, and that the store stays tidy
  pub grant : {C : ℕ → Type 0} → Tidy C size n st → Granted C size n first (rows s c) st m (grant_to size first (rows s c) st m)
  grant T = granted-to size n first (rows s c) st T m enough place empty apart of_pool m (omega arith)

  -- 'a surplus stays kept'
  pub grant-spare : Spare size n (grant_to size first (rows s c) st m) (with_run s c (left_of (rows s c) m) rows)
  grant-spare =
      let any : Tidy (λ g. ⊥) size n st = record { filed = F; clean = λ g e. absurd e } in
      spare-step size n st (grant_to size first (rows s c) st m) rows (with_run s c (left_of (rows s c) m) rows) F S
      (λ f T. (grant T).tidy)
      (λ f l. omega (arith, (grant any).marks f l, kept-with rows s c (left_of (rows s c) m) f row run, S.once f l))
      (λ f l. omega (arith, kept-with rows s c (left_of (rows s c) m) f row run, left_le (rows s c) m f))

-- the lengths of the runs are those of the plain machine: one run has so many fewer
pub lengths-less : (row : ℕ → Held) (c m i : ℕ) → m ≤ count_held (row c)
    → lengths (in_place c (left_of (row c) m) row) i ≡ in_place c (lengths row c - m) (lengths row) i
lengths-less row c m i h =
    by_cases (eqb c i) (λ e. rw e (omega (arith, left-count (row c) m h))) (λ e. rw e)
