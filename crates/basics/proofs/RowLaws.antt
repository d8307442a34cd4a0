-- Laws of rows: which place is chosen, what a pushed thing leaves, and that all of it goes by the lengths alone.
use Prim.Native.Nat.{ℕ, zero, suc, ◌+◌, ◌≤◌, ◌<◌}
use mathlib.Core.Path.{◌≡◌, refl}
use mathlib.Core.Logic.{◌⊎◌, inl, inr, ⊎_elim}
use mathlib.Core.Bool.{Bool, true, false, ◌||◌}
use native.Mathlib.Omega.{arith}
use native.Mathlib.Decide.{ℕ_discrete}
use lib.Dec.{leb, ltb}
use borrow.Author.Tests.{lt-ltb, le-ltb, ltb-true, ltb-false, le-leb, leb-true, leb-false}
use Rattle.basics.specs.Choice.{◌when◌else◌}
use Rattle.basics.specs.Ranges.{sum}
use Rattle.basics.specs.Rows.{best, longer, no_longer, fitter, moved_up, push, Walk, walk_to, walked}
use Rattle.basics.proofs.TestLaws.{by_cases, when-cases, never, or_left, or_right}

-- ---- the chosen place

-- it is one of the places
pub best-low : (better : ℕ → ℕ → Bool) (l : ℕ → ℕ) (n : ℕ) → 0 < n → best better l n < n
unfolding best
best-low better l zero h = h
best-low better l (suc zero) h = when-cases (λ (x : ℕ). x < 1) (better (l 0) (l 0)) (λ _. omega arith) (λ _. omega arith)
best-low better l (suc (suc n)) h =
    let i = best-low better l (suc n) (omega arith) in
    when-cases (λ (x : ℕ). x < suc (suc n)) (better (l (suc n)) (l (best better l (suc n)))) (λ _. omega arith) (λ _. omega arith)

-- it is found by the lengths alone
pub best-same : (better : ℕ → ℕ → Bool) (l m : ℕ → ℕ) (n : ℕ) → ((i : ℕ) → i < n → l i ≡ m i) → best better l n ≡ best better m n
unfolding best
best-same better l m zero h = refl
best-same better l m (suc zero) h = rw (h 0 (omega arith))
best-same better l m (suc (suc n)) h =
    let ih = best-same better l m (suc n) (λ i d. h i (omega arith)) in
    let low = best-low better m (suc n) (omega arith) in
    rw (ih, h (suc n) (omega arith), h (best better m (suc n)) (omega arith))

-- a number below suc n is n or lies below it
last_or : (P : ℕ → Type 0) (n i : ℕ) → i < suc n → P n → (i < n → P i) → P i
last_or P n i d a b = go (ℕ_discrete i n)
  where
    go : Dec (i ≡ n) → P i
    go (yes e) = rw e a
    go (no e) = b (omega arith)

-- none is longer than the longest
pub longest-top : (l : ℕ → ℕ) (n i : ℕ) → i < n → l i ≤ l (best longer l n)
unfolding best
longest-top l zero i d = absurd (omega arith)
longest-top l (suc n) i d =
    by_cases (ltb (l (best longer l n)) (l n))
    (λ e. let m : l (best longer l n) < l n = ltb-true _ _ e in rw e (last_or (λ j. l j ≤ l n) n i d (omega arith) (λ k. omega (arith, longest-top l n i k))))
    (λ e. let m : l n ≤ l (best longer l n) = ltb-false _ _ e in rw e (last_or (λ j. l j ≤ l (best longer l n)) n i d m (longest-top l n i)))

-- and an older one is shorter
pub longest-oldest : (l : ℕ → ℕ) (n i : ℕ) → i < best longer l n → l i < l (best longer l n)
unfolding best
longest-oldest l zero i d = absurd (omega arith)
longest-oldest l (suc n) i d =
    by_cases (ltb (l (best longer l n)) (l n))
    (λ e. let m : l (best longer l n) < l n = ltb-true _ _ e in rw e (omega (arith, longest-top l n i (rw e at d))))
    (λ e. rw e (longest-oldest l n i (rw e at d)))

-- none is shorter than the shortest
pub shortest-least : (l : ℕ → ℕ) (n i : ℕ) → i < n → l (best no_longer l n) ≤ l i
unfolding best
shortest-least l zero i d = absurd (omega arith)
shortest-least l (suc n) i d =
    by_cases (leb (l n) (l (best no_longer l n)))
    (λ e. let m : l n ≤ l (best no_longer l n) = leb-true _ _ e in rw e
    (last_or (λ j. l n ≤ l j) n i d (omega arith) (λ k. omega (arith, shortest-least l n i k))))
    (λ e. let m : l (best no_longer l n) < l n = leb-false _ _ e in rw e (last_or (λ j. l (best no_longer l n) ≤ l j) n i d (omega arith) (shortest-least l n i)))

-- ---- a place changed, and a row moved up

sum-equal : {f g : ℕ → ℕ} (k : ℕ) → ((i : ℕ) → i < k → f i ≡ g i) → sum f k ≡ sum g k
unfolding sum
sum-equal zero h = refl
sum-equal (suc k) h = rw (sum-equal k (λ i d. h i (omega arith)), h k (omega arith))

module _ {ℓ} {A : Type ℓ} (F : A → ℕ) (row : ℕ → A) (c : ℕ) where
  abbrev without : ℕ → A
  without i = row i when ltb i c else row (i + 1)

  sum-before : (k : ℕ) → k ≤ c → sum (λ i. F (without i)) k ≡ sum (λ i. F (row i)) k
  unfolding sum
  sum-before zero h = refl
  sum-before (suc k) h = rw (sum-before k (omega arith), lt-ltb k c (omega arith))

  sum-without : (k : ℕ) → c ≤ k → sum (λ i. F (without i)) k + F (row c) ≡ sum (λ i. F (row i)) (suc k)
  unfolding sum
  sum-without zero h = let z : c ≡ 0 = omega arith in rw z (omega arith)
  sum-without (suc k) h = go (ℕ_discrete c (suc k)) (λ d. sum-without k d)
    where
      go : Dec (c ≡ suc k) → (c ≤ k → sum (λ i. F (without i)) k + F (row c) ≡ sum (λ i. F (row i)) (suc k))
          → sum (λ i. F (without i)) (suc k) + F (row c) ≡ sum (λ i. F (row i)) (suc (suc k))
      go (yes e) ih = rw (sum-before (suc k) (omega arith), e)
      go (no d) ih =
          let z : k + 1 ≡ suc k = omega arith in
          let b : ltb k c ≡ false = le-ltb k c (omega arith) in
          rw (b, z) (omega (arith, ih (omega arith)))

  -- the row of n with v last, where c is one of its places
  pub sum_moved : (n : ℕ) (v : A) → c < n → sum (λ i. F (moved_up n c v row i)) n + F (row c) ≡ sum (λ i. F (row i)) n + F v
  unfolding moved_up sum
  sum_moved zero v h = absurd (omega arith)
  sum_moved (suc n) v h =
      let first : sum (λ i. F (row i when ltb i c else (row (i + 1) when ltb (i + 1) (suc n) else v))) n ≡ sum (λ i. F (without i)) n =
      sum-equal n (λ i d. rw (lt-ltb (i + 1) (suc n) (omega arith))) in
      let b : ltb n c ≡ false = le-ltb n c (omega arith) in
      let d : ltb (n + 1) (suc n) ≡ false = le-ltb (n + 1) (suc n) (omega arith) in
      rw (first, b, d) (omega (arith, sum-without n (omega arith)))

-- ---- a thing that is pushed

module _ {ℓ} {A : Type ℓ} (size : A → ℕ) (n : ℕ) where
  -- a thing of length 0 changes nothing
  pub push-none : (row : ℕ → A) (v : A) → size v ≡ 0 → push size n row v ≡ row
  unfolding push
  push-none row v e = rw (le-leb (size v) (size (row (best no_longer (λ i. size (row i)) n))) (omega arith))

  -- what is counted of the things of a row grows by the pushed one at most
  pub push-sum : (F : A → ℕ) (row : ℕ → A) (v : A) → 0 < n → sum (λ i. F (push size n row v i)) n ≤ sum (λ i. F (row i)) n + F v
  unfolding push
  push-sum F row v some =
      let c : ℕ = best no_longer (λ i. size (row i)) n in
      let low : c < n = best-low no_longer (λ i. size (row i)) n some in
      when-cases (λ (r : ℕ → A). sum (λ i. F (r i)) n ≤ sum (λ i. F (row i)) n + F v) (leb (size v) (size (row c)))
      (λ _. omega arith) (λ _. omega (arith, sum_moved F row c n v low))

  -- and so does what is counted along a walk
  module _ (F : A → ℕ) (none : A) (starts : ℕ → Bool) (add : ℕ → A → A) (row : ℕ → A) (some : 0 < n)
      (gain : ℕ → ℕ) (start : F none ≡ 0) (top : ℕ) (more : (i : ℕ) (a : A) → i < top → F (add i a) ≤ F a + gain i) where
    walk-sum : (m : ℕ) → m ≤ top → sum (λ i. F ((walk_to size n none starts add row m).row i)) n + F (walk_to size n none starts add row m).current
        ≤ sum (λ i. F (row i)) n + sum gain m
    unfolding walk_to sum
    walk-sum zero u = omega arith
    walk-sum (suc m) u =
        let w : Walk A = walk_to size n none starts add row m in
        by_cases (starts m)
        (λ e. rw e (omega (arith, walk-sum m (omega arith), push-sum F w.row w.current some, more m none u)))
        (λ e. rw e (omega (arith, walk-sum m (omega arith), more m w.current u)))

    pub walked-sum : (m : ℕ) → m ≤ top → sum (λ i. F (walked size n none starts add row m i)) n ≤ sum (λ i. F (row i)) n + sum gain m
    unfolding walked
    walked-sum m u =
        let w : Walk A = walk_to size n none starts add row m in
        omega (arith, walk-sum m u, push-sum F w.row w.current some)

  -- where no item adds anything, the row stays
  module _ (none : A) (starts : ℕ → Bool) (add : ℕ → A → A) (row : ℕ → A) (empty : size none ≡ 0) where
    walk-idle : (m : ℕ) → ((i : ℕ) → i < m → add i none ≡ none) → walk_to size n none starts add row m ≡ record { row = row; current = none }
    unfolding walk_to
    walk-idle zero idle = refl
    walk-idle (suc m) idle =
        let ih = walk-idle m (λ i d. idle i (omega arith)) in
        by_cases (starts m)
        (λ e. rw (e, ih, idle m (omega arith), push-none row none empty))
        (λ e. rw (e, ih, idle m (omega arith)))

    pub walked-idle : (m : ℕ) → ((i : ℕ) → i < m → add i none ≡ none) → walked size n none starts add row m ≡ row
    unfolding walked
    walked-idle m idle = rw (walk-idle m idle) (push-none row none empty)

-- ---- two rows with the same lengths

module _ {ℓ ℓ'} {A : Type ℓ} {B : Type ℓ'} (size : A → ℕ) (size' : B → ℕ) (n : ℕ) (some : 0 < n) where
  -- the rows have the same lengths
  abbrev Alike : (ℕ → A) → (ℕ → B) → Type 0
  Alike row row' = (i : ℕ) → i < n → size (row i) ≡ size' (row' i)

  moved_same : (row : ℕ → A) (row' : ℕ → B) (v : A) (v' : B) (c : ℕ) → Alike row row' → size v ≡ size' v' → Alike (moved_up n c v row) (moved_up n c v' row')
  unfolding moved_up
  moved_same row row' v v' c e d i l =
      by_cases (ltb i c)
      (λ x. rw x (e i l))
      (λ x. by_cases (ltb (i + 1) n) (λ y. rw (x, y) (e (i + 1) (ltb-true _ _ y))) (λ y. rw (x, y) d))

  pub push-same : (row : ℕ → A) (row' : ℕ → B) (v : A) (v' : B) → Alike row row' → size v ≡ size' v' → Alike (push size n row v) (push size' n row' v')
  unfolding push
  push-same row row' v v' e d i l =
      let c : ℕ = best no_longer (λ i. size (row i)) n in
      let c' : ℕ = best no_longer (λ i. size' (row' i)) n in
      let place : c ≡ c' = best-same no_longer (λ i. size (row i)) (λ i. size' (row' i)) n e in
      let low : c' < n = best-low no_longer (λ i. size' (row' i)) n some in
      let test : leb (size v) (size (row c)) ≡ leb (size' v') (size' (row' c')) = rw (d, place, e c' low) in
      by_cases (leb (size' v') (size' (row' c')))
      (λ x. rw (test, x) (e i l))
      (λ x. rw (test, x, place) (moved_same row row' v v' c' e d i l))

  module _ (none : A) (none' : B) (starts : ℕ → Bool) (add : ℕ → A → A) (add' : ℕ → B → B) (row : ℕ → A) (row' : ℕ → B) (top : ℕ)
      (I : ℕ → A → Type 0) (first : (i : ℕ) → I i none) (next : (i : ℕ) (a : A) → i < top → I i a → I (suc i) (add i a))
      (empty : size none ≡ size' none') (more : (i : ℕ) (a : A) (b : B) → i < top → I i a → size a ≡ size' b → size (add i a) ≡ size' (add' i b))
      (e : Alike row row') where
    -- along two walks that add alike, where I holds of the thing at hand
    record Alongside (m : ℕ) : Type 0 where
      rows : Alike (walk_to size n none starts add row m).row (walk_to size' n none' starts add' row' m).row
      current : size (walk_to size n none starts add row m).current ≡ size' (walk_to size' n none' starts add' row' m).current
      holds : I m (walk_to size n none starts add row m).current

    alongside : (m : ℕ) → m ≤ top → Alongside m
    unfolding walk_to
    alongside zero u = record { rows = e; current = empty; holds = first 0 }
    alongside (suc m) u =
        let ih = alongside m (omega arith) in
        let w : Walk A = walk_to size n none starts add row m in
        let w' : Walk B = walk_to size' n none' starts add' row' m in
        record {
          rows = λ i l.
              by_cases (starts m) (λ x. rw x (push-same w.row w'.row w.current w'.current ih.rows ih.current i l)) (λ x. rw x (ih.rows i l));
          current =
              by_cases (starts m) (λ x. rw x (more m none none' u (first m) empty)) (λ x. rw x (more m w.current w'.current u ih.holds ih.current));
          holds = by_cases (starts m) (λ x. rw x (next m none u (first m))) (λ x. rw x (next m w.current u ih.holds));
        }

    pub walked_same : (m : ℕ) → m ≤ top → Alike (walked size n none starts add row m) (walked size' n none' starts add' row' m)
    unfolding walked
    walked_same m u =
        let a = alongside m u in
        push-same (walk_to size n none starts add row m).row (walk_to size' n none' starts add' row' m).row _ _ a.rows a.current

-- ---- the shortest that is long enough, else the longest

module _ (pages : ℕ) where
  lt-or : (x : ℕ) → (x < pages) ⊎ (pages ≤ x)
  lt-or x = by_cases (ltb x pages) (λ e. inl (ltb-true x pages e)) (λ e. inr (ltb-false x pages e))

  fit-no : (x y : ℕ) → (pages ≤ x → (y ≤ x) × (pages ≤ y)) → (x < pages → x ≤ y) → fitter pages x y ≡ false
  fit-no x y a b =
      by_cases (leb pages x)
      (λ e. let z = a (leb-true pages x e) in rw (e, le-ltb x y z.0, le-ltb y pages z.1))
      (λ e. rw (e, le-ltb y x (b (leb-false pages x e))))

  no-fit : (x y : ℕ) → fitter pages x y ≡ false → (pages ≤ x → (y ≤ x) × (pages ≤ y)) × (x < pages → x ≤ y)
  no-fit x y h =
      by_cases (leb pages x)
      (λ e. let m : pages ≤ x = leb-true pages x e in
      let o : (ltb x y || ltb y pages) ≡ false = rw e at h in
      (λ _. (ltb-false x y (or_left (ltb x y) (ltb y pages) o), ltb-false y pages (or_right (ltb x y) (ltb y pages) o)), λ d. absurd (omega arith)))
      (λ e. let m : x < pages = leb-false pages x e in
      let o : ltb y x ≡ false = rw e at h in
      (λ d. absurd (omega arith), λ _. ltb-false y x o))

  yes-fit : (x y : ℕ) → fitter pages x y ≡ true → ((pages ≤ x) × ((x < y) ⊎ (y < pages))) ⊎ ((x < pages) × (y < x))
  yes-fit x y h =
      by_cases (leb pages x)
      (λ e. let o : (ltb x y || ltb y pages) ≡ true = rw e at h in
      inl (leb-true pages x e, by_cases (ltb x y) (λ t. inl (ltb-true x y t)) (λ t. inr (ltb-true y pages (rw t at o)))))
      (λ e. let o : ltb y x ≡ true = rw e at h in inr (leb-false pages x e, ltb-true y x o))

  fit-chain : (x y z : ℕ) → fitter pages x y ≡ false → fitter pages z y ≡ true → fitter pages x z ≡ false
  fit-chain x y z a b =
      let n = no-fit x y a in
      ⊎_elim
      (λ c. ⊎_elim
      (λ d. fit-no x z (λ m. (omega (arith, (n.0 m).0, d), c.0)) (λ m. omega (arith, c.0)))
      (λ d. fit-no x z (λ m. absurd (omega (arith, (n.0 m).1, d))) (λ m. omega (arith, c.0))) c.1)
      (λ c. fit-no x z (λ m. absurd (omega (arith, (n.0 m).1, c.0, c.1))) (λ m. omega (arith, n.1 m, c.1)))
      (yes-fit z y b)

  -- neither is better than the next: the first is not better than the last
  fit-back : (x y z : ℕ) → fitter pages x y ≡ false → fitter pages y z ≡ false → fitter pages x z ≡ false
  fit-back x y z a b =
      let n = no-fit x y a in
      let m = no-fit y z b in
      fit-no x z
      (λ h. let u = n.0 h in let v = m.0 u.1 in (omega (arith, u.0, v.0), v.1))
      (λ h. ⊎_elim (λ d. omega (arith, n.1 h, m.1 d)) (λ d. omega (arith, (m.0 d).1, h)) (lt-or y))

  -- no place is better than the chosen one
  no-better : (l : ℕ → ℕ) (n i : ℕ) → i < n → fitter pages (l i) (l (best (fitter pages) l n)) ≡ false
  unfolding best
  no-better l zero i d = absurd (omega arith)
  no-better l (suc n) i d =
      by_cases (fitter pages (l n) (l (best (fitter pages) l n)))
      (λ e. rw e (last_or (λ j. fitter pages (l j) (l n) ≡ false) n i d (fit-no (l n) (l n) (λ m. (omega arith, m)) (λ m. omega arith))
      (λ k. fit-chain (l i) (l (best (fitter pages) l n)) (l n) (no-better l n i k) e)))
      (λ e. rw e (last_or (λ j. fitter pages (l j) (l (best (fitter pages) l n)) ≡ false) n i d e (no-better l n i)))

  -- 'the shortest run at least as long as its pages'
  pub fit-shortest : (l : ℕ → ℕ) (n i : ℕ) → i < n → pages ≤ l i → (pages ≤ l (best (fitter pages) l n)) × (l (best (fitter pages) l n) ≤ l i)
  fit-shortest l n i d h = let z = (no-fit (l i) (l (best (fitter pages) l n)) (no-better l n i d)).0 h in (z.1, z.0)

  -- 'if none is that long, the longest'
  pub fit-longest : (l : ℕ → ℕ) (n : ℕ) → ((i : ℕ) → i < n → l i < pages) → (i : ℕ) → i < n → l i ≤ l (best (fitter pages) l n)
  fit-longest l n short i d = (no-fit (l i) (l (best (fitter pages) l n)) (no-better l n i d)).1 (short i d)

  -- and an older one is worse
  pub fit-oldest : (l : ℕ → ℕ) (n i : ℕ) → i < best (fitter pages) l n → fitter pages (l (best (fitter pages) l n)) (l i) ≡ true
  unfolding best
  fit-oldest l zero i d = absurd (omega arith)
  fit-oldest l (suc n) i d =
      by_cases (fitter pages (l n) (l (best (fitter pages) l n)))
      (λ e. rw e (by_cases (fitter pages (l n) (l i)) (λ t. t)
      (λ t. never (fitter pages (l n) (l (best (fitter pages) l n))) e (fit-back (l n) (l i) (l (best (fitter pages) l n)) t (no-better l n i (rw e at d))))))
      (λ e. rw e (fit-oldest l n i (rw e at d)))
