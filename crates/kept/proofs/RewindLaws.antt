-- A rewind makes runs of the fronts of uncommitted anonymous areas: which frames these gain; and their lengths are the plain machine's.
use mathlib.Core.Path.{◌≡◌, refl, sym, ap, ◌∙◌}
use mathlib.Core.Logic.{◌⊎◌, inl, inr, ⊎_elim}
use mathlib.Core.Bool.{Bool, true, not, ◌&&◌}
use Prim.Native.Nat.{ℕ, suc, ◌+◌, ◌-◌, ◌≤◌, ◌<◌}
use native.Mathlib.Omega.{arith}
use lib.Dec.{eqb}
use lib.ListN.{get_or, set}
use lib.Seq.{get_or-set_other}
use borrow.Author.Tests.{eqb-true, eqb-false, not-true}
use Rattle.basics.specs.Ranges.{one, count}
use Rattle.basics.proofs.TestLaws.{by_cases, when-cases, and_left, and_right}
use Rattle.basics.proofs.CountLaws.{count-sum}
use Rattle.basics.proofs.RowLaws.{walked-sum, walked_same}
use Rattle.interface.specs.Slots.{Slots, starts_area}
use Rattle.run_choice.specs.Runs.{run_places, is_spared, runs_rewound}
use Rattle.frames.specs.declared.Held.{Held}
use Rattle.frames.specs.Frames.{held, mark, none_held, count_held}
use Rattle.frames.proofs.FrameLaws.{held-lt, held-or, held-zero, held-mark-other, count-with, none-count}
use Rattle.marks.proofs.NamedLaws.{same_or, by-entry}
use Rattle.table.specs.Store.{Store, entry, front_of, Filed, put, free}
use Rattle.table.proofs.FreeLaws.{get_or-clear}
use Rattle.kept.specs.Spare.{Row, lengths, kept_in, spares, gather, row_rewound}

-- ---- an entry that gives up its page: each stays or is cleared

pub free-entry : (size k : ℕ) (s : Store) (j : ℕ) → (entry (free size k s) j ≡ entry s j) ⊎ (entry (free size k s) j ≡ 0)
unfolding free put
free-entry size k s j =
    when-cases (λ (r : Store). (entry r j ≡ entry s j) ⊎ (entry r j ≡ 0)) (eqb (entry s k) 0) (λ _. inl refl)
    (λ _. ⊎_elim (λ e. inr (ap (λ (x : ℕ). get_or (set s.table k 0) x 0) e ∙ get_or-clear s.table k)) (λ e. inl (get_or-set_other s.table k j 0 0 e))
    (same_or j k))

-- ---- frames that go to runs

module _ (size n : ℕ) (st : Store) (F : Filed size n st) (s : ℕ) (f : Slots) where
  -- page i has a front that goes to a run, frame g
  abbrev pub goes : ℕ → ℕ → Bool
  goes g i = spares st s f i && eqb (entry st (front_of s i)) (suc g)

  pub named : (g i : ℕ) → goes g i ≡ true → entry st (front_of s i) ≡ suc g
  named g i e = eqb-true (entry st (front_of s i)) (suc g) (and_right (spares st s f i) _ e)

  pub spared : (g i : ℕ) → goes g i ≡ true → is_spared (f i) ≡ true
  spared g i e = and_right (not (eqb (entry st (front_of s i)) 0)) _ (and_left (spares st s f i) _ e)

  -- a run that gathers page i keeps frame g if it did, or if that is the frame of page i
  gather-gain : (g i : ℕ) (a : Held) → held (gather st s f i a) g ≤ held a g + one (goes g i)
  gather-gain g i a =
      by_cases (spares st s f i)
      (λ e. let some : entry st (front_of s i) ≡ 0 → ⊥ = eqb-false _ 0 (not-true _ (and_left (not (eqb (entry st (front_of s i)) 0)) _ e)) in
      by_cases (eqb (entry st (front_of s i)) (suc g))
      (λ d. rw (e, d) (omega (arith, held-lt (mark a (entry st (front_of s i) - 1) 1) g)))
      (λ d. let apart : g ≡ entry st (front_of s i) - 1 → ⊥ = λ z. eqb-false _ (suc g) d (omega arith) in
      rw (e, d) (omega (arith, held-mark-other a (entry st (front_of s i) - 1) 1 g (omega arith) apart))))
      (λ e. rw e (omega arith))

  pub runs-gain : (row : Row) (g : ℕ) → kept_in (row_rewound st s f row) g ≤ kept_in row g + count (goes g) 64
  unfolding kept_in row_rewound
  runs-gain row g =
      omega (
        arith,
        walked-sum count_held run_places (λ (h : Held). held h g) none_held (starts_area f) (gather st s f) row (omega arith) (λ i. one (goes g i)) (held-zero g) 64
            (λ i a l. gather-gain g i a) 64 (omega arith),
        count-sum (goes g) 64,
      )

  -- ---- the lengths

  -- the frames of the run at hand are fronts of pages before this one
  abbrev Before : ℕ → Held → Type 0
  Before i a = (g : ℕ) → g < 128 → held a g ≡ 1 → (j : ℕ) × ((j < i) × (entry st (front_of s j) ≡ suc g))

  before-next : (i : ℕ) (a : Held) → Before i a → Before (suc i) (gather st s f i a)
  before-next i a h g l =
      by_cases (spares st s f i)
      (λ e. let some : entry st (front_of s i) ≡ 0 → ⊥ = eqb-false _ 0 (not-true _ (and_left (not (eqb (entry st (front_of s i)) 0)) _ e)) in
      ⊎_elim
      (λ d z. (i, (omega arith, omega (arith, d))))
      (λ d. rw e (λ z. let y = h g l (sym (held-mark-other a (entry st (front_of s i) - 1) 1 g (omega arith) d) ∙ z) in
      (y.0, (omega (arith, y.1.0), y.1.1))))
      (same_or g (entry st (front_of s i) - 1)))
      (λ e. rw e (λ z. let y = h g l z in (y.0, (omega (arith, y.1.0), y.1.1))))

  -- a page's frame makes the run longer by one
  gather-count : (i : ℕ) (a : Held) → Before i a → count_held (gather st s f i a) ≡ count_held a + one (spares st s f i)
  gather-count i a h =
      by_cases (spares st s f i)
      (λ e. by-entry (count_held (gather st s f i a) ≡ count_held a + one (spares st s f i)) (entry st (front_of s i))
      (λ z. absurd (eqb-false _ 0 (not-true _ (and_left (not (eqb (entry st (front_of s i)) 0)) _ e)) z))
      (λ g z. let low : g < 128 = omega (arith, F.names.within (front_of s i) g z, F.few) in
      let new : held a g ≡ 0 = ⊎_elim (λ u. u)
      (λ u. let y = h g low u in let x = F.names.once (front_of s y.0) (front_of s i) g y.1.1 z in absurd (omega (arith, y.1.0, x))) (held-or a g) in
      let m : entry st (front_of s i) - 1 ≡ g = omega arith in
      rw (e, m) (count-with a g low new)))
      (λ e. rw e (omega arith))

  -- the machine's runs have the lengths of the plain machine's, where its front marks are the front entries
  pub rewind-lengths : (row : Row) (front : ℕ → Bool) (runs : ℕ → ℕ) → ((i : ℕ) → i < run_places → lengths row i ≡ runs i)
      → ((i : ℕ) → i < 64 → not (eqb (entry st (front_of s i)) 0) ≡ front i)
      → (i : ℕ) → i < run_places → lengths (row_rewound st s f row) i ≡ runs_rewound f front runs i
  unfolding row_rewound runs_rewound
  rewind-lengths row front runs same fronts =
      walked_same count_held (λ (x : ℕ). x) run_places (omega arith) none_held 0 (starts_area f) (gather st s f)
      (λ i x. x + one (front i && is_spared (f i))) row runs 64
      Before (λ i g l e. absurd (omega (arith, e, held-zero g))) (λ i a l h. before-next i a h) (none-count none_held (λ g l. held-zero g))
      (λ i a b l h e. gather-count i a h ∙ rw (e, fronts i l)) same 64 (omega arith)
