-- Kept frames through one operation on the store: what is asked of it, and that then they are kept, once and zero.
use mathlib.Core.Path.{◌≡◌, refl, sym, ap, ◌∙◌}
use mathlib.Core.List.{List}
use Prim.Native.Nat.{ℕ, zero, ◌+◌, ◌-◌, ◌≤◌, ◌<◌}
use native.Mathlib.Omega.{arith}
use Rattle.basics.specs.Ranges.{sum}
use Rattle.basics.specs.Rows.{in_place}
use Rattle.basics.proofs.CountLaws.{sum-put, sum-swap, sum-plus, sum-hole, part-le}
use Rattle.run_choice.specs.Runs.{run_places}
use Rattle.frames.specs.declared.Held.{Held}
use Rattle.frames.specs.Frames.{held, mark, count_held}
use Rattle.words.proofs.SumLaws.{sum_same, sum-add}
use Rattle.frames.proofs.FrameLaws.{count-within}
use Rattle.pages.specs.Parts.{frame}
use Rattle.marks.specs.Named.{used_below}
use Rattle.marks.proofs.MarkLaws.{within-named}
use Rattle.table.specs.Store.{Store, entry, Filed, Tidy, put, take}
use Rattle.table.proofs.FiledLaws.{count-filed}
use Rattle.kept.specs.Spare.{Row, Rows, kept_in, kept_at, kept_by, Spare, with_run}

-- ---- sums over the runs

-- one run replaced
pub kept-with : (rows : Rows) (s c : ℕ) (run : Held) (f : ℕ) → s < 4 → c < run_places
    → kept_at (with_run s c run rows) f + held (rows s c) f ≡ kept_at rows f + held run f
unfolding kept_at kept_in
kept-with rows s c run f l d =
    let outer = sum-put (λ (row : Row). sum (λ i. held (row i) f) run_places) rows s (in_place c run (rows s)) 4 l in
    let inner = sum-put (λ (h : Held). held h f) (rows s) c run run_places d in
    omega (arith, outer, inner)

-- the runs of one sandbox replaced
pub kept_row : (rows : Rows) (s : ℕ) (row : Row) (f : ℕ) → s < 4 → kept_at (in_place s row rows) f + kept_in (rows s) f ≡ kept_at rows f + kept_in row f
unfolding kept_at
kept_row rows s row f l = sum-put (λ (r : Row). kept_in r f) rows s row 4 l

-- a run keeps what it keeps
pub run-kept : (rows : Rows) (s c f : ℕ) → s < 4 → c < run_places → held (rows s c) f ≤ kept_at rows f
unfolding kept_at kept_in
run-kept rows s c f l d =
    omega (arith, part-le (λ t. sum (λ i. held (rows t i) f) run_places) 4 s l, part-le (λ i. held (rows s i) f) run_places c d)

-- frame by frame or run by run
pub kept-count : (rows : Rows) → sum (kept_at rows) 128 ≡ sum (λ s. kept_by (rows s)) 4
unfolding kept_at kept_in kept_by count_held
kept-count rows =
    sym (sum-swap (λ s f. sum (λ i. held (rows s i) f) run_places) 4 128)
    ∙ sum_same (λ s. sum (λ f. sum (λ i. held (rows s i) f) run_places) 128) (λ s. sum (λ i. sum (held (rows s i)) 128) run_places) 4
    (λ s l. sym (sum-swap (λ i f. held (rows s i) f) run_places 128))

-- ---- one operation

-- a frame that is taken is marked
pub take-marks : (size k f : ℕ) (ys : List ℕ) (s : Store) → (take size k f ys s).marks ≡ mark s.marks f 1
unfolding take put
take-marks size k f ys s = refl

module _ (size n : ℕ) (st r : Store) (rows rows' : Rows) (F : Filed size n st) (S : Spare size n st rows)
    -- what becomes of one frame, by the laws of the table
    (tidy : (f : ℕ) → Tidy (λ g. g ≡ f) size n st → Tidy (λ g. g ≡ f) size n r)
    -- no frame twice afterwards, and a kept frame was kept or named before
    (total : (f : ℕ) → f < 128 → held r.marks f + kept_at rows' f ≤ 1)
    (old : (f : ℕ) → f < 128 → kept_at rows' f ≤ kept_at rows f + held st.marks f) where
  pub spare-step : Spare size n r rows'
  spare-step =
      record {
        once = total;
        of_pool = λ f a b. omega (arith, old f b, S.of_pool f a b, (within-named n F.few st.marks (entry st) F.names).none f a b);
        blank = λ f l k.
            let low : f < 128 = omega (arith, F.few) in
            let before : Tidy (λ g. g ≡ f) size n st = record {
              filed = F;
              clean = λ g e d z.
                  let y : held st.marks f ≡ 0 = ap (held st.marks) (sym e) ∙ z in
                  ap (frame size st.pool) e ∙ S.blank f l (omega (arith, old f low));
            } in
            (tidy f before).clean f refl l (omega (arith, total f low));
      }

-- fewer are kept
pub spare-fewer : (size n : ℕ) (st : Store) (rows rows' : Rows) → Spare size n st rows → ((f : ℕ) → f < 128 → kept_at rows' f ≤ kept_at rows f) → n ≤ 128
    → Spare size n st rows'
spare-fewer size n st rows rows' S less few =
    record {
      once = λ f l. omega (arith, S.once f l, less f l);
      of_pool = λ f a b. omega (arith, S.of_pool f a b, less f b);
      blank = λ f l k. S.blank f l (omega (arith, less f (omega arith)));
    }

-- ---- there is a frame

-- a longer sum is no less
sum-part : (p : ℕ → ℕ) (a b : ℕ) → a ≤ b → sum p a ≤ sum p b
sum-part p a b l = let e : a + (b - a) ≡ b = omega arith in let z = sum-add p a (b - a) in let y = ap (sum p) e in omega (arith, z, y)

-- where fewer frames are held, named or kept, than the pool has, one of the pool is neither
pub frame-there : (size n : ℕ) (st : Store) (rows : Rows) → Filed size n st → Spare size n st rows
    → used_below (entry st) 512 + sum (λ s. kept_by (rows s)) 4 < n → (f : ℕ) × ((f < n) × ((held st.marks f ≡ 0) × (kept_at rows f ≡ 0)))
unfolding count_held
frame-there size n st rows F S h =
    let w = within-named n F.few st.marks (entry st) F.names in
    let marks : sum (held st.marks) n ≡ used_below (entry st) 512 = sym (count-within st.marks n w) ∙ count-filed size n st F in
    let runs : sum (kept_at rows) n ≤ sum (λ s. kept_by (rows s)) 4 = omega (arith, sum-part (kept_at rows) n 128 F.few, kept-count rows) in
    let hole = sum-hole (λ f. held st.marks f + kept_at rows f) n (omega (arith, sum-plus (held st.marks) (kept_at rows) n, marks, runs)) in
    (hole.0, (hole.1.0, (omega (arith, hole.1.1), omega (arith, hole.1.1))))
