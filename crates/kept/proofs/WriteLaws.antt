-- A write gives up a frame of the longest run where it must, and takes one that is then not held; the other operations of the store leave the kept frames.
use mathlib.Core.Path.{◌≡◌, refl, ap, ◌∙◌}
use mathlib.Core.Logic.{⊎_elim}
use mathlib.Core.List.{List}
use Prim.Native.Nat.{ℕ, suc, ◌-◌, ◌≤◌, ◌<◌}
use native.Mathlib.Omega.{arith}
use lib.Dec.{eqb}
use lib.ListN.{length}
use Rattle.basics.specs.Rows.{in_place}
use Rattle.basics.proofs.TestLaws.{by_cases}
use Rattle.run_choice.specs.Runs.{run_places}
use Rattle.frames.specs.declared.Held.{Held}
use Rattle.frames.specs.Frames.{held, mark}
use Rattle.frames.proofs.FrameLaws.{held-lt, held-or, held-mark-same, held-mark-other, count-without}
use Rattle.marks.proofs.NamedLaws.{same_or}
use Rattle.table.specs.Store.{Store, entry, Filed, Tidy, take}
use Rattle.table.proofs.StoreLaws.{take-tidy}
use Rattle.kept.specs.Spare.{Rows, lengths, kept_at, Spare, with_run}
use Rattle.kept.proofs.SpareLaws.{kept-with, run-kept, take-marks, spare-step, spare-fewer}

-- ---- a frame is given up

module _ (size n : ℕ) (st : Store) (rows : Rows) (s c g : ℕ) (row : s < 4) (run : c < run_places) (mine : held (rows s c) g ≡ 1) where
  less : (f : ℕ) → held (mark (rows s c) g 0) f ≤ held (rows s c) f
  less f =
      ⊎_elim
      (λ e. omega (arith, ap (held (mark (rows s c) g 0)) e, held-mark-same (rows s c) g 0 (omega arith)))
      (λ e. omega (arith, held-mark-other (rows s c) g 0 f (omega arith) e)) (same_or f g)

  pub given-fewer : (f : ℕ) → kept_at (with_run s c (mark (rows s c) g 0) rows) f ≤ kept_at rows f
  given-fewer f = omega (arith, kept-with rows s c (mark (rows s c) g 0) f row run, less f)

  pub given-spare : n ≤ 128 → Spare size n st rows → Spare size n st (with_run s c (mark (rows s c) g 0) rows)
  given-spare few S = spare-fewer size n st rows (with_run s c (mark (rows s c) g 0) rows) S (λ f l. given-fewer f) few

  -- it is then not held: 'the write may take it'
  pub given-free : g < 128 → Spare size n st rows → (held st.marks g ≡ 0) × (kept_at (with_run s c (mark (rows s c) g 0) rows) g ≡ 0)
  given-free l S =
      let a = S.once g l in
      let b = run-kept rows s c g row run in
      (omega (arith, a, b), omega (arith, a, kept-with rows s c (mark (rows s c) g 0) g row run, held-mark-same (rows s c) g 0 (omega arith)))

-- the lengths are the plain machine's: the run has one fewer
pub given-lengths : (row : ℕ → Held) (c g i : ℕ) → g < 128 → held (row c) g ≡ 1
    → lengths (in_place c (mark (row c) g 0) row) i ≡ in_place c (lengths row c - 1) (lengths row) i
given-lengths row c g i l e = by_cases (eqb c i) (λ d. rw d (omega (arith, count-without (row c) g l e))) (λ d. rw d)

-- ---- a frame that is not held is taken

pub take-spare : (size n : ℕ) (st : Store) (rows : Rows) (k f : ℕ) (ys : List ℕ) → Filed size n st → Spare size n st rows
    → k < 512 → entry st k ≡ 0 → f < n → held st.marks f ≡ 0 → kept_at rows f ≡ 0 → length ys ≡ size → Spare size n (take size k f ys st) rows
take-spare size n st rows k f ys F S place empty low idle unkept whole =
    spare-step size n st (take size k f ys st) rows rows F S
    (λ g T. take-tidy size n st T k f ys place empty low idle whole)
    (λ g l. ⊎_elim
    (λ e. let a : kept_at rows g ≡ 0 = ap (kept_at rows) e ∙ unkept in omega (arith, a, held-lt (take size k f ys st).marks g))
    (λ e. let a : held (take size k f ys st).marks g ≡ held st.marks g = ap (λ (h : Held). held h g) (take-marks size k f ys st)
    ∙ held-mark-other st.marks f 1 g (omega arith) e in
    omega (arith, a, S.once g l)) (same_or g f))
    (λ g l. omega arith)

-- ---- what takes no frame

-- an operation after which each entry names what some entry named before
pub marks-from : (size n : ℕ) (st r : Store) → Filed size n st → Filed size n r → ((k g : ℕ) → entry r k ≡ suc g → (j : ℕ) × (entry st j ≡ suc g))
    → (g : ℕ) → g < 128 → held r.marks g ≤ held st.marks g
marks-from size n st r F R from g l =
    ⊎_elim
    (λ z. omega arith)
    (λ z. let k = R.names.named g l z in let j = from k.0 g k.1 in omega (arith, F.names.marked j.0 g j.1)) (held-or r.marks g)

-- leaves the kept frames
pub same-spare : (size n : ℕ) (st r : Store) (rows : Rows) → Filed size n st → Spare size n st rows
    → ((g : ℕ) → Tidy (λ x. x ≡ g) size n st → Tidy (λ x. x ≡ g) size n r)
    → ((g : ℕ) → g < 128 → held r.marks g ≤ held st.marks g) → Spare size n r rows
same-spare size n st r rows F S tidy fewer =
    spare-step size n st r rows rows F S tidy (λ g l. omega (arith, S.once g l, fewer g l)) (λ g l. omega arith)
