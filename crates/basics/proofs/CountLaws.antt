-- Laws of counts and sums below a bound.
use Prim.Native.Nat.{ℕ, zero, suc, ◌+◌, ◌≤◌, ◌<◌}
use mathlib.Core.Path.{◌≡◌, refl, sym, ◌∙◌}
use mathlib.Core.Bool.{Bool, true, false, ◌||◌}
use native.Mathlib.Omega.{arith}
use lib.Dec.{eqb, ltb}
use borrow.Author.Tests.{eqb-true, eqb-false, ne_eqb, ltb-true, ltb-false, lt-ltb, le-ltb}
use Rattle.basics.specs.Choice.{◌when◌else◌}
use Rattle.basics.specs.Ranges.{one, count, sum}
use Rattle.basics.proofs.TestLaws.{by_cases}

pub one-small : (b : Bool) → one b ≤ 1
one-small true = omega arith
one-small false = omega arith

one-le : (a b : Bool) → (a ≡ true → b ≡ true) → one a ≤ one b
one-le true b h = rw (h refl) (omega arith)
one-le false b h = omega arith

pub count_small : (p : ℕ → Bool) (n : ℕ) → count p n ≤ n
unfolding count
count_small p zero = omega arith
count_small p (suc n) = omega (arith, count_small p n, one-small (p n))

-- what passes one test passes the other
pub count-le : (p q : ℕ → Bool) (n : ℕ) → ((i : ℕ) → p i ≡ true → q i ≡ true) → count p n ≤ count q n
unfolding count
count-le p q zero h = omega arith
count-le p q (suc n) h = omega (arith, one-le (p n) (q n) (h n), count-le p q n h)

-- and one number passes the other alone
pub count_less : (p q : ℕ → Bool) (n k : ℕ) → ((i : ℕ) → p i ≡ true → q i ≡ true) → k < n → p k ≡ false → q k ≡ true → count p n < count q n
unfolding count
count_less p q zero k h l a b = absurd (omega arith)
count_less p q (suc n) k h l a b =
    by_cases (eqb k n)
    (λ t. let x : p n ≡ false = rw (eqb-true k n t) at a in
    let y : q n ≡ true = rw (eqb-true k n t) at b in
    rw (x, y) (omega (arith, count-le p q n h)))
    (λ t. omega (arith, one-le (p n) (q n) (h n), count_less p q n k h (omega (arith, eqb-false k n t)) a b))

-- the same numbers pass
pub count-equal : (p q : ℕ → Bool) (n : ℕ) → ((i : ℕ) → i < n → p i ≡ q i) → count p n ≡ count q n
unfolding count
count-equal p q zero h = refl
count-equal p q (suc n) h = rw (h n (omega arith), count-equal p q n (λ i l. h i (omega arith)))

-- one test is two others in turn
pub count-split : (p q r : ℕ → Bool) (n : ℕ) → ((i : ℕ) → one (p i) ≡ one (q i) + one (r i)) → count p n ≡ count q n + count r n
unfolding count
count-split p q r zero h = refl
count-split p q r (suc n) h = omega (arith, h n, count-split p q r n h)

-- two tests and two others, number by number as many
pub count-pairs : (p q r s : ℕ → Bool) (n : ℕ) → ((i : ℕ) → one (p i) + one (q i) ≡ one (r i) + one (s i))
    → count p n + count q n ≡ count r n + count s n
unfolding count
count-pairs p q r s zero h = refl
count-pairs p q r s (suc n) h = omega (arith, h n, count-pairs p q r s n h)

pub count_none : (n : ℕ) → count (λ i. false) n ≡ 0
unfolding count
count_none zero = refl
count_none (suc n) = omega (arith, count_none n)

-- one place of a sum changed
module _ {A : Type 0} (F : A → ℕ) (f : ℕ → A) (s : ℕ) (v : A) where
  sum-out : (n : ℕ) → n ≤ s → sum (λ t. F (v when eqb s t else f t)) n ≡ sum (λ t. F (f t)) n
  unfolding sum
  sum-out zero h = refl
  sum-out (suc n) h = rw (ne_eqb s n (λ e. omega arith), sum-out n (omega arith))

  pub sum-put : (n : ℕ) → s < n → sum (λ t. F (v when eqb s t else f t)) n + F (f s) ≡ sum (λ t. F (f t)) n + F v
  unfolding sum
  sum-put zero h = absurd (omega arith)
  sum-put (suc n) h =
      by_cases (eqb s n)
      (λ e. rw (e, sum-out n (omega (arith, eqb-true s n e)), ← eqb-true s n e) (omega arith))
      (λ e. rw e (omega (arith, sum-put n (omega (arith, eqb-false s n e)))))

-- a count is a sum of 0s and 1s
pub count-sum : (p : ℕ → Bool) (n : ℕ) → count p n ≡ sum (λ i. one (p i)) n
unfolding count sum
count-sum p zero = refl
count-sum p (suc n) = rw (count-sum p n)

-- two tests that never both pass where a third does not
pub count-apart : (p q r : ℕ → Bool) (n : ℕ) → ((i : ℕ) → one (p i) + one (q i) ≤ one (r i)) → count p n + count q n ≤ count r n
unfolding count
count-apart p q r zero h = omega arith
count-apart p q r (suc n) h = omega (arith, h n, count-apart p q r n h)

-- one number passes
pub count_at : (k n : ℕ) → count (λ i. eqb i k) n ≡ one (ltb k n)
unfolding count
count_at k zero = rw (le-ltb k 0 (omega arith))
count_at k (suc n) =
    by_cases (eqb n k)
    (λ e. let z : n ≡ k = eqb-true n k e in rw (e, count_at k n, le-ltb k n (omega arith), lt-ltb k (suc n) (omega arith)))
    (λ e. let d = eqb-false n k e in rw (e, count_at k n) (by_cases (ltb k n)
    (λ l. let m : k < n = ltb-true k n l in rw (l, lt-ltb k (suc n) (omega arith)))
    (λ l. let m : n ≤ k = ltb-false k n l in rw (l, le-ltb k (suc n) (omega arith)))))

-- one number more that passes
pub count-also : (p : ℕ → Bool) (k n : ℕ) → k < n → p k ≡ false → count (λ i. eqb i k || p i) n ≡ count p n + 1
count-also p k n l e =
    let split = count-split (λ i. eqb i k || p i) p (λ i. eqb i k) n
    (λ i. by_cases (eqb i k) (λ t. rw (t, eqb-true i k t, e)) (λ t. rw t (omega arith))) in
    let one_at : count (λ i. eqb i k) n ≡ 1 = count_at k n ∙ rw (lt-ltb k n l) in
    omega (arith, split, one_at)

-- a sum that is some has a part that is some: none is more than the greatest
pub sum-some : (f : ℕ → ℕ) (n top : ℕ) → ((i : ℕ) → i < n → f i ≤ top) → 1 ≤ sum f n → 1 ≤ top
unfolding sum
sum-some f zero top h s = absurd (omega arith)
sum-some f (suc n) top h s =
    by_cases (eqb (f n) 0)
    (λ e. sum-some f n top (λ i l. h i (omega arith)) (omega (arith, eqb-true (f n) 0 e)))
    (λ e. omega (arith, eqb-false (f n) 0 e, h n (omega arith)))

-- ---- sums of sums, and of 0s and 1s

pub sum-plus : (f g : ℕ → ℕ) (n : ℕ) → sum (λ i. f i + g i) n ≡ sum f n + sum g n
unfolding sum
sum-plus f g zero = refl
sum-plus f g (suc n) = omega (arith, sum-plus f g n)

sum-zero : (n : ℕ) → sum (λ i. 0) n ≡ 0
unfolding sum
sum-zero zero = refl
sum-zero (suc n) = omega (arith, sum-zero n)

-- the order of two sums does not matter
pub sum-swap : (f : ℕ → ℕ → ℕ) (m n : ℕ) → sum (λ i. sum (f i) n) m ≡ sum (λ j. sum (λ i. f i j) m) n
unfolding sum
sum-swap f zero n = sym (sum-zero n)
sum-swap f (suc m) n = rw (sum-swap f m n) (sym (sum-plus (λ j. sum (λ i. f i j) m) (f m) n))

-- each part is at most the sum
pub part-le : (f : ℕ → ℕ) (n i : ℕ) → i < n → f i ≤ sum f n
unfolding sum
part-le f zero i h = absurd (omega arith)
part-le f (suc n) i h =
    by_cases (eqb i n) (λ e. rw (eqb-true i n e) (omega arith)) (λ e. omega (arith, part-le f n i (omega (arith, eqb-false i n e))))

-- where the sum of n parts is less than n, one of them is 0
pub sum-hole : (f : ℕ → ℕ) (n : ℕ) → sum f n < n → (i : ℕ) × ((i < n) × (f i ≡ 0))
unfolding sum
sum-hole f zero h = absurd (omega arith)
sum-hole f (suc n) h =
    by_cases (eqb (f n) 0)
    (λ e. (n, (omega arith, eqb-true (f n) 0 e)))
    (λ e. let r = sum-hole f n (omega (arith, eqb-false (f n) 0 e)) in (r.0, (omega (arith, r.1.0), r.1.1)))

-- where no test passes
pub count-zero : (p : ℕ → Bool) (n : ℕ) → ((i : ℕ) → i < n → p i ≡ false) → count p n ≡ 0
unfolding count
count-zero p zero h = refl
count-zero p (suc n) h = rw (h n (omega arith)) (omega (arith, count-zero p n (λ i l. h i (omega arith))))

-- where at most one test passes, their count is at most 1
pub count-once : (p : ℕ → Bool) (n : ℕ) → ((i j : ℕ) → i < n → j < n → p i ≡ true → p j ≡ true → i ≡ j) → count p n ≤ 1
unfolding count
count-once p zero h = omega arith
count-once p (suc n) h =
    by_cases (p n)
    (λ e. let z = count-zero p n (λ i l. by_cases (p i) (λ d. absurd (let x = h i n (omega arith) (omega arith) d e in omega arith)) (λ d. d)) in rw e
    (omega (arith, z)))
    (λ e. rw e (omega (arith, count-once p n (λ i j a b. h i j (omega arith) (omega arith)))))
