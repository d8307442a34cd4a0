-- The test of the kept frames says what `Spare` says.
use mathlib.Core.Path.{◌≡◌, refl, sym, ap, ◌∙◌}
use mathlib.Core.Logic.{⊎_elim}
use mathlib.Core.Bool.{Bool, true, false, ◌&&◌}
use mathlib.Core.List.{List, [], ◌∷◌}
use Prim.Native.Nat.{ℕ, zero, suc, ◌+◌, ◌*◌, ◌^◌, ◌≤◌, ◌<◌}
use native.Mathlib.Numerals.{add-one}
use native.Mathlib.Omega.{arith}
use lib.Dec.{eqb, ltb}
use lib.ListN.{length, get_or}
use borrow.Author.Tests.{eqb-true, eqb-false, eq-eqb, ltb-true, ltb-false, lt-ltb}
use Rattle.basics.specs.Choice.{implies}
use Rattle.basics.specs.Ranges.{sum, every}
use Rattle.basics.proofs.TestLaws.{by_cases, never, both_ways, and_both, and-of, implied, implies-of}
use Rattle.basics.proofs.LoopLaws.{every-at, every_of}
use Rattle.run_choice.specs.Runs.{run_places}
use Rattle.frames.specs.declared.Held.{Held}
use Rattle.frames.specs.Frames.{held, mark, count_held, least_held, apart_held, none_held, same_held}
use Rattle.frames.proofs.FrameLaws.{held-lt, held-zero, held-mark-other, count_none, same-held-true}
use Rattle.frames.proofs.PairLaws.{held_both, both-low, both_high, apart-true, apart_of, least-found, both-none, apart_none}
use Rattle.pages.specs.Parts.{frame, zeros}
use Rattle.pages.proofs.PartLaws.{fits-pool, length-frame}
use Rattle.marks.specs.declared.Marks.{Marks}
use Rattle.marks.proofs.NamedLaws.{same_or}
use Rattle.table.specs.Store.{Store, Filed}
use Rattle.kept.specs.Spare.{Row, Rows, kept_in, kept_at, Spare, Words}
use Rattle.kept.specs.Test.{add_run, runs_to, kept_to, blankb, frame_ok, spareb}

-- ---- a pass that is good has the frames it passed, each once

-- m has the marks of `seen`, each frame at most once
record Found (seen : ℕ → ℕ) (m : Marks) : Type 0 where
  marks : (f : ℕ) → f < 128 → held m.held f ≡ seen f
  few : (f : ℕ) → f < 128 → seen f ≤ 1

add-found : (seen : ℕ → ℕ) (m : Marks) (run : Held) → (m.good ≡ true → Found seen m) → (add_run m run).good ≡ true
    → Found (λ f. seen f + held run f) (add_run m run)
add-found seen m run ih e =
    let both = and_both (apart_held m.held run) m.good e in
    let old = ih both.1 in
    let apart = apart-true m.held run both.0 in
    record {
      marks = λ f l. held_both m.held run f l ∙ omega (arith, old.marks f l, apart f, held-lt run f, held-lt m.held f);
      few = λ f l. omega (arith, old.marks f l, apart f);
    }

runs-found : (seen : ℕ → ℕ) (row : Row) (m : Marks) → (m.good ≡ true → Found seen m) → (i : ℕ) → (runs_to row m i).good ≡ true
    → Found (λ f. seen f + sum (λ j. held (row j) f) i) (runs_to row m i)
unfolding runs_to sum
runs-found seen row m h zero e = let r = h e in record { marks = λ f l. r.marks f l ∙ omega arith; few = λ f l. omega (arith, r.few f l) }
runs-found seen row m h (suc i) e =
    let r = add-found (λ f. seen f + sum (λ j. held (row j) f) i) (runs_to row m i) (row i) (runs-found seen row m h i) e in
    record { marks = λ f l. r.marks f l ∙ omega arith; few = λ f l. omega (arith, r.few f l) }

kept-found : (rows : Rows) (s : ℕ) → (kept_to rows s).good ≡ true → Found (λ f. sum (λ t. kept_in (rows t) f) s) (kept_to rows s)
unfolding kept_to sum kept_in
kept-found rows zero e = record { marks = λ f l. held-zero f; few = λ f l. omega arith }
kept-found rows (suc s) e = runs-found (λ f. sum (λ t. sum (λ i. held (rows t i) f) run_places) s) (rows s) (kept_to rows s) (kept-found rows s) run_places e

-- ---- and where each frame is kept once at most, the pass is good

module _ (rows : Rows) (words : (s : ℕ) → s < 4 → Words (rows s)) where
  record Passed (seen : ℕ → ℕ) (m : Marks) : Type 0 where
    good : m.good ≡ true
    marks : (f : ℕ) → f < 128 → held m.held f ≡ seen f
    low : m.held.low < 2 ^ 64
    high : m.held.high < 2 ^ 64

  add-passed : (seen : ℕ → ℕ) (m : Marks) (run : Held) → run.low < 2 ^ 64 → run.high < 2 ^ 64 → Passed seen m
      → ((f : ℕ) → f < 128 → seen f + held run f ≤ 1) → Passed (λ f. seen f + held run f) (add_run m run)
  add-passed seen m run a b p few =
      record {
        good = and-of (apart_of m.held run p.low p.high a b (λ f l. omega (arith, few f l, p.marks f l))) p.good;
        marks = λ f l. held_both m.held run f l ∙ omega (arith, few f l, p.marks f l);
        low = both-low m.held run p.low a;
        high = both_high m.held run p.high b;
      }

  runs-passed : (seen : ℕ → ℕ) (s : ℕ) (m : Marks) → s < 4 → Passed seen m → (i : ℕ) → i ≤ run_places
      → ((f : ℕ) → f < 128 → seen f + sum (λ j. held (rows s j) f) i ≤ 1) → Passed (λ f. seen f + sum (λ j. held (rows s j) f) i) (runs_to (rows s) m i)
  unfolding runs_to sum
  runs-passed seen s m l p zero u few = record { good = p.good; marks = λ f d. p.marks f d ∙ omega arith; low = p.low; high = p.high }
  runs-passed seen s m l p (suc i) u few =
      let w = words s l in
      let old = runs-passed seen s m l p i (omega arith) (λ f d. omega (arith, few f d)) in
      let r = add-passed (λ f. seen f + sum (λ j. held (rows s j) f) i) (runs_to (rows s) m i) (rows s i) (w.low i (omega arith)) (w.high i (omega arith)) old
      (λ f d. omega (arith, few f d)) in
      record { good = r.good; marks = λ f d. r.marks f d ∙ omega arith; low = r.low; high = r.high }

  kept-passed : (s : ℕ) → s ≤ 4 → ((f : ℕ) → f < 128 → sum (λ t. kept_in (rows t) f) s ≤ 1) → Passed (λ f. sum (λ t. kept_in (rows t) f) s) (kept_to rows s)
  unfolding kept_to sum kept_in
  kept-passed zero u few = record { good = refl; marks = λ f l. held-zero f; low = omega arith; high = omega arith }
  kept-passed (suc s) u few =
      runs-passed (λ f. sum (λ t. sum (λ i. held (rows t i) f) run_places) s) s (kept_to rows s) (omega arith)
      (kept-passed s (omega arith) (λ f l. omega (arith, few f l))) run_places (omega arith) few

-- ---- the pass as a loop does it

pub kept_more : (rows : Rows) (s : ℕ) (m r : Marks) (run : Row) → m ≡ kept_to rows s → run ≡ rows s → r ≡ runs_to (run) m 8 → r ≡ kept_to rows (s + 1)
unfolding kept_to
kept_more rows s m r runs a b d = d ∙ rw (add-one s) (rw (b, a))

-- ---- a frame of zeros

all-zero : (l : List ℕ) (n : ℕ) → length l ≡ n → ((o : ℕ) → o < n → get_or l o 0 ≡ 0) → l ≡ zeros n
unfolding zeros
all-zero [] n e h = rw (sym e)
all-zero (x ∷ l) zero e h = absurd (omega arith)
all-zero (x ∷ l) (suc n) e h =
    let a : x ≡ 0 = h 0 (omega arith) in
    let b : l ≡ zeros n = all-zero l n (omega (arith, e)) (λ o d. h (suc o) (omega arith)) in
    rw (a, b)

zero-at : (n o : ℕ) → get_or (zeros n) o 0 ≡ 0
unfolding zeros
zero-at zero o = refl
zero-at (suc n) zero = refl
zero-at (suc n) (suc o) = zero-at n o

module _ (pool : List ℕ) (n : ℕ) (pages : length pool ≡ n * 256) where
  blank-true : (f : ℕ) → f < n → blankb pool f ≡ true → frame 256 pool f ≡ zeros 256
  unfolding blankb
  blank-true f l e =
      all-zero (frame 256 pool f) 256 (length-frame 256 pool f (fits-pool 256 n pool f pages l))
      (λ o d. eqb-true _ 0 (every-at (λ o. eqb (get_or (frame 256 pool f) o 0) 0) 0 256 e o (omega arith) (omega arith)))

  blank_of : (f : ℕ) → frame 256 pool f ≡ zeros 256 → blankb pool f ≡ true
  unfolding blankb
  blank_of f e = every_of (λ o. eqb (get_or (frame 256 pool f) o 0) 0) 0 256 (λ o a b. eq-eqb _ 0 (ap (λ (l : List ℕ). get_or l o 0) e ∙ zero-at 256 o))

-- ---- the test

pub spare-true : (n : ℕ) (st : Store) (rows : Rows) → Filed 256 n st → spareb n st rows ≡ true → Spare 256 n st rows
unfolding spareb kept_at
spare-true n st rows F h =
    let h₁ = and_both (kept_to rows 4).good _ h in
    let h₂ = and_both (apart_held st.marks (kept_to rows 4).held) _ h₁.1 in
    let found = kept-found rows 4 h₁.0 in
    let ok : (f : ℕ) → f < 128 → held (kept_to rows 4).held f ≡ 1 → (ltb f n ≡ true) × (blankb st.pool f ≡ true) =
    λ f l e. and_both (ltb f n) (blankb st.pool f)
    (implied (eqb (held (kept_to rows 4).held f) 1) (ltb f n && blankb st.pool f)
    (every-at (frame_ok n st.pool (kept_to rows 4).held) 0 128 h₂.1 f (omega arith) (omega arith)) (eq-eqb _ 1 e)) in
    record {
      once = λ f l. omega (arith, apart-true st.marks (kept_to rows 4).held h₂.0 f, found.marks f l);
      of_pool = λ f a l. by_cases (eqb (held (kept_to rows 4).held f) 1)
          (λ e. absurd (let low : f < n = ltb-true f n (ok f l (eqb-true _ 1 e)).0 in omega arith))
          (λ e. omega (arith, found.marks f l, found.few f l, eqb-false (held (kept_to rows 4).held f) 1 e));
      blank = λ f l k.
          let low : f < 128 = omega (arith, F.few) in
          let one : held (kept_to rows 4).held f ≡ 1 = omega (arith, found.marks f low, found.few f low, k) in
          blank-true st.pool n F.pages f l (ok f low one).1;
    }

-- and the pass has the marks of all runs
pub spare-found : (n : ℕ) (st : Store) (rows : Rows) → spareb n st rows ≡ true → (f : ℕ) → f < 128 → held (kept_to rows 4).held f ≡ kept_at rows f
unfolding spareb kept_at
spare-found n st rows h f l = (kept-found rows 4 (and_both (kept_to rows 4).good _ h).0).marks f l

pub spare_of : (n : ℕ) (st : Store) (rows : Rows) → Filed 256 n st → ((s : ℕ) → s < 4 → Words (rows s)) → Spare 256 n st rows → spareb n st rows ≡ true
unfolding spareb kept_at
spare_of n st rows F words S =
    let p = kept-passed rows words 4 (omega arith) (λ f l. omega (arith, S.once f l)) in
    and-of p.good
    (and-of (apart_of st.marks (kept_to rows 4).held F.low F.high p.low p.high (λ f l. omega (arith, S.once f l, p.marks f l)))
    (every_of (frame_ok n st.pool (kept_to rows 4).held) 0 128
    (λ f a b. implies-of (eqb (held (kept_to rows 4).held f) 1) (ltb f n && blankb st.pool f)
    (λ e. let l : f < 128 = omega arith in
    let k : 1 ≤ sum (λ t. kept_in (rows t) f) 4 = omega (arith, eqb-true (held (kept_to rows 4).held f) 1 e, p.marks f l) in
    let low : f < n = by_cases (ltb f n) (λ d. ltb-true f n d) (λ d. absurd (omega (arith, S.of_pool f (ltb-false f n d) l, k))) in
    and-of (lt-ltb f n low) (blank_of st.pool n F.pages f (S.blank f low k))))))

-- ---- the code's loop

-- a sandbox that keeps none adds none
pub runs_none : (row : Row) (m : Marks) → ((i : ℕ) → i < 8 → row i ≡ none_held) → (i : ℕ) → i ≤ 8 → runs_to row m i ≡ m
unfolding runs_to
runs_none row m h zero l = refl
runs_none row m h (suc i) l =
    let ih = runs_none row m h i (omega arith) in
    rw (ih, h i (omega arith), apart_none m.held) (λ j. record { good = m.good; held = both-none m.held j })

pub none-added : (row : Row) (m : Marks) → every (λ i. same_held (row i) none_held) 0 8 ≡ true → m ≡ runs_to row m 8
none-added row m e =
    sym
    (runs_none row m (λ i l. same-held-true (row i) none_held (every-at (λ i. same_held (row i) none_held) 0 8 e i (omega arith) (omega arith))) 8 (omega arith))

pub runs-more : (row : Row) (found m : Marks) (i : ℕ) (run : Held) → m ≡ runs_to row found i → run ≡ row i → add_run m run ≡ runs_to row found (i + 1)
unfolding runs_to
runs-more row found m i run a b = rw (add-one i) (rw (a, b))

-- the kept frames, one by one

every-same : (P Q : ℕ → Bool) (n : ℕ) → ((i : ℕ) → P i ≡ Q i) → every P 0 n ≡ every Q 0 n
every-same P Q n e =
    both_ways _ _ (λ h. every_of Q 0 n (λ i a b. sym (e i) ∙ every-at P 0 n h i a b)) (λ h. every_of P 0 n (λ i a b. e i ∙ every-at Q 0 n h i a b))

pub least-there : (kept : Held) → 1 ≤ count_held kept → (f : ℕ) → f ≡ least_held kept → (f < 128) × (held kept f ≡ 1)
least-there kept some f least = rw least (least-found kept some)

module _ (n : ℕ) (pool : List ℕ) (kept : Held) where
  pub none_left : count_held kept ≡ 0 → every (frame_ok n pool kept) 0 128 ≡ true
  none_left e = every_of (frame_ok n pool kept) 0 128 (λ f a b. rw (count_none kept e f b))

  module _ (some : 1 ≤ count_held kept) (f : ℕ) (least : f ≡ least_held kept) (t : Bool) (is : t ≡ (ltb f n && blankb pool f)) where
    pub least-fails : t ≡ false → every (frame_ok n pool kept) 0 128 ≡ false
    least-fails e =
        let there = least-there kept some f least in
        by_cases (every (frame_ok n pool kept) 0 128)
        (λ h. let passes = every-at (frame_ok n pool kept) 0 128 h f (omega arith) there.0 in
        never t (is ∙ implied (eqb (held kept f) 1) (ltb f n && blankb pool f) passes (eq-eqb _ 1 there.1)) e)
        (λ h. h)

    -- it passes with its mark or without
    pub least-passes : t ≡ true → every (frame_ok n pool kept) 0 128 ≡ every (frame_ok n pool (mark kept f 0)) 0 128
    least-passes e =
        every-same (frame_ok n pool kept) (frame_ok n pool (mark kept f 0)) 128
        (λ g. ⊎_elim
        (λ d. implies-of (eqb (held kept g) 1) (ltb g n && blankb pool g) (λ x. rw d (sym is ∙ e))
        ∙ sym (implies-of (eqb (held (mark kept f 0) g) 1) (ltb g n && blankb pool g) (λ x. rw d (sym is ∙ e))))
        (λ d. ap (λ m. implies (eqb m 1) (ltb g n && blankb pool g)) (sym (held-mark-other kept f 0 g (omega arith) d)))
        (same_or g f))
