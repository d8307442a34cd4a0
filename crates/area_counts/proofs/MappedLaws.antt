-- The mapped pages of a range, counted area by area, and what their number says of them all.
use Prim.Native.Nat.{ℕ, zero, suc, ◌+◌, ◌-◌, ◌≤◌, ◌<◌}
use mathlib.Core.Path.{◌≡◌, refl, sym}
use mathlib.Core.Bool.{Bool, true, false}
use native.Mathlib.Omega.{arith}
use native.Mathlib.Nat.{add-zero}
use lib.Dec.{eqb, ltb}
use mathlib.Core.List.{List}
use lib.ListN.{length, get_or, take}
use borrow.Author.Tests.{ltb-true, ltb-false, eqb-true, eq-eqb, not-false}
use Rattle.basics.specs.Choice.{◌when◌else◌, same}
use Rattle.basics.specs.Ranges.{one, count}
use Rattle.basics.proofs.TestLaws.{by_cases, when-cases, both_ways, same_true}
use Rattle.basics.proofs.LoopLaws.{every-at, every-fails, count_next}
use Rattle.basics.proofs.CountLaws.{count_small, one-small}
use Rattle.interface.specs.Slots.{Slots, is_mapped, all_are}
use Rattle.areas.specs.declared.area.Area.{Area}
use Rattle.areas.specs.declared.area.Areas.{Areas}
use Rattle.areas.specs.Areas.{none, slots}
use Rattle.areas.specs.Walk.{Formed}
use Rattle.areas.proofs.WalkLaws.{end_of, Before, before-start, before-gap, before-area, before_last, before-next, held-length, held-at}
use Rattle.area_counts.specs.Counts.{clamped, overlap, mapped_in}
use Rattle.area_counts.proofs.CountedLaws.{count-run}

-- ---- a number moved to the nearest of a range

module _ (low high : ℕ) (h : low ≤ high) where
  clamped-cases : (P : ℕ → Type 0) (x : ℕ) → (x < low → P low) → (low ≤ x → high < x → P high) → (low ≤ x → x ≤ high → P x) → P (clamped low high x)
  clamped-cases P x a b c =
      when-cases P (ltb x low) (λ e. a (ltb-true x low e))
      (λ e. when-cases P (ltb high x) (λ f. b (ltb-false x low e) (ltb-true high x f)) (λ f. c (ltb-false x low e) (ltb-false high x f)))

  clamped-range : (x : ℕ) → (low ≤ clamped low high x) × (clamped low high x ≤ high)
  clamped-range x =
      clamped-cases (λ y. (low ≤ y) × (y ≤ high)) x (λ a. (omega arith, omega arith)) (λ a b. (omega arith, omega arith)) (λ a b. (omega arith, omega arith))

  -- on the same side of each number of the range as before
  clamped-below : (x i : ℕ) → low ≤ i → i < clamped low high x → i < x
  clamped-below x i l = clamped-cases (λ y. i < y → i < x) x (λ a u. absurd (omega arith)) (λ a b u. omega arith) (λ a b u. omega arith)

  clamped-past : (x i : ℕ) → i < high → clamped low high x ≤ i → x ≤ i
  clamped-past x i u = clamped-cases (λ y. y ≤ i → x ≤ i) x (λ a l. omega arith) (λ a b l. absurd (omega arith)) (λ a b l. omega arith)

  pub clamped-le : (x y : ℕ) → x ≤ y → clamped low high x ≤ clamped low high y
  clamped-le x y d =
      clamped-cases (λ z. z ≤ clamped low high y) x (λ a. (clamped-range y).0)
      (λ a b. clamped-cases (λ z. high ≤ z) y (λ e. absurd (omega arith)) (λ e g. omega arith) (λ e g. omega arith))
      (λ a b. clamped-cases (λ z. x ≤ z) y (λ e. absurd (omega arith)) (λ e g. omega arith) (λ e g. omega arith))

  clamped-zero : clamped low high 0 ≡ low
  clamped-zero = clamped-cases (λ y. y ≡ low) 0 (λ a. refl) (λ a b. absurd (omega arith)) (λ a b. omega arith)

-- ---- counted area by area

abbrev mapped : Areas → ℕ → Bool
mapped s i = is_mapped (slots s i)

-- m pages of the range are mapped before a page, at which the areas before place k have ended and the others have not begun
pub record Covered (s : Areas) (first n k m : ℕ) : Type 0 where
  pub page : ℕ
  pub there : Before s k page
  pub counted : count (mapped s) first + m ≡ count (mapped s) (clamped first (first + n) page)

-- the numbers counted from a later one on
count-shift : (p : ℕ → Bool) (a n : ℕ) → count p (a + n) ≡ count p a + count (λ i. p (a + i)) n
unfolding count
count-shift p a zero = let e : a + zero ≡ a = omega arith in rw e (omega arith)
count-shift p a (suc n) = let e : a + suc n ≡ suc (a + n) = omega arith in rw e (omega (arith, count-shift p a n))

module _ (s : Areas) (F : Formed s) (first n : ℕ) (h : first + n ≤ 64) where
  abbrev at : ℕ → Area
  at k = get_or s.list k none

  abbrev moved : ℕ → ℕ
  moved x = clamped first (first + n) x

  ends : first ≤ first + n
  ends = omega arith

  range : (x : ℕ) → (first ≤ moved x) × (moved x ≤ first + n)
  range = clamped-range first (first + n) ends

  below : (x i : ℕ) → first ≤ i → i < moved x → i < x
  below = clamped-below first (first + n) ends

  past : (x i : ℕ) → i < first + n → moved x ≤ i → x ≤ i
  past = clamped-past first (first + n) ends

  moved-le : (x y : ℕ) → x ≤ y → moved x ≤ moved y
  moved-le = clamped-le first (first + n) ends

  pub covered_start : Covered s first n 0 0
  covered_start = record { page = 0; there = before-start s; counted = rw (clamped-zero first (first + n) ends, add-zero) }

  pub covered-small : (k m : ℕ) → Covered s first n k m → m ≤ 64
  covered-small k m r =
      omega (arith, r.counted, count_small (mapped s) (moved r.page), (range r.page).1)

  pub covered_next : (k m : ℕ) → k < s.count → Covered s first n k m → Covered s first n (k + 1) (m + overlap (at k) first n)
  covered_next k m d r =
      let start : ℕ = (at k).first.0 in
      let p : ℕ = moved r.page in
      let a : ℕ = moved start in
      let e : ℕ = moved (end_of s k) in
      let low : p ≤ a = moved-le r.page start (r.there.ahead k (omega arith) d) in
      let high : a ≤ e = moved-le start (end_of s k) (omega arith) in
      let p-range = range r.page in
      let a-range = range start in
      let e-range = range (end_of s k) in
      let gap : (i : ℕ) → p ≤ i → i < p + (a - p) → mapped s i ≡ false =
      λ i l u.
      rw (before-gap s F k r.page r.there d i (past r.page i (omega arith) l) (below start i (omega arith) (omega arith))) in
      let area : (i : ℕ) → a ≤ i → i < a + (e - a) → mapped s i ≡ true =
      λ i l u.
      rw (before-area s F k r.page r.there d i (past start i (omega arith) l) (below (end_of s k) i (omega arith) (omega arith))) in
      let x = count-run (mapped s) p (a - p) false gap in
      let y = count-run (mapped s) a (e - a) true area in
      let to-a : p + (a - p) ≡ a = omega arith in
      let to-e : a + (e - a) ≡ e = omega arith in
      record { page = end_of s k; there = before-next s F k r.page r.there d; counted = omega (arith, r.counted, rw to-a at x, rw to-e at y) }

  -- the same, of the areas that it holds
  pub covered-on : (l : List Area) → l ≡ take s.count s.list → (k m p : ℕ) → k < length l → p ≡ overlap (get_or l k none) first n
      → Covered s first n k m → Covered s first n (k + 1) (m + p)
  covered-on l e k m p d g r =
      rw (g, held-at s F l e k d) (covered_next k m (omega (arith, held-length s F l e)) r)

  pub covered-all : (k m : ℕ) → s.count ≤ k → Covered s first n k m → m ≡ mapped_in (slots s) first n
  unfolding mapped_in
  covered-all k m d r =
      let p : ℕ = moved r.page in
      let p-range = range r.page in
      let gap : (i : ℕ) → p ≤ i → i < p + (first + n - p) → mapped s i ≡ false =
      λ i l u. rw (before_last s F k r.page r.there d i (past r.page i (omega arith) l)) in
      let x = count-run (mapped s) p (first + n - p) false gap in
      let e : p + (first + n - p) ≡ first + n = omega arith in
      omega (arith, r.counted, rw e at x, count-shift (mapped s) first n)

-- ---- what the number says

-- at most all of the numbers, and no fewer than before
count-span : (p : ℕ → Bool) (a n : ℕ) → (count p a ≤ count p (a + n)) × (count p (a + n) ≤ count p a + n)
unfolding count
count-span p a zero = let e : a + zero ≡ a = omega arith in rw e (omega arith, omega arith)
count-span p a (suc n) =
    let e : a + suc n ≡ suc (a + n) = omega arith in
    let r = count-span p a n in
    rw e (omega arith, omega (arith, one-small (p (a + n))))

-- with one of the numbers by itself
count-around : (p : ℕ → Bool) (a n j : ℕ) → a ≤ j → j < a + n
    → (count p a + one (p j) ≤ count p (a + n)) × (count p (a + n) + 1 ≤ count p a + n + one (p j))
count-around p a n j l u =
    let to_j : a + (j - a) ≡ j = omega arith in
    let to_end : j + 1 + (a + n - (j + 1)) ≡ a + n = omega arith in
    let before = rw to_j at (count-span p a (j - a)) in
    let after = rw to_end at (count-span p (j + 1) (a + n - (j + 1))) in
    let here = count_next p j in
    (omega arith, omega arith)

-- a page that is not as asked shows in the number
shows : (b : Bool) (p : ℕ → Bool) (a n j : ℕ) → a ≤ j → j < a + n → same b (p j) ≡ false → count p (a + n) ≡ count p a + (n when b else 0) → ⊥
shows true p a n j l u e c = omega (arith, c, rw e at (count-around p a n j l u).1)
shows false p a n j l u e c = omega (arith, c, rw (not-false (p j) e) at (count-around p a n j l u).0)

-- all are mapped where the number is that of the pages, and none where it is 0
pub all-counted : (b : Bool) (f : Slots) (first n : ℕ) → eqb (mapped_in f first n) (n when b else 0) ≡ all_are b f first n
unfolding mapped_in
all-counted b f first n =
    let p : ℕ → Bool = λ i. is_mapped (f i) in
    let shift = count-shift p first n in
    both_ways (eqb (count (λ i. p (first + i)) n) (n when b else 0)) (all_are b f first n)
    (λ t. by_cases (all_are b f first n) (λ y. y)
    (λ z.
    let r = every-fails (λ i. same b (p i)) first n z in
    absurd (shows b p first n r.0 r.1 r.2 r.3 (omega (arith, shift, eqb-true (count (λ i. p (first + i)) n) (n when b else 0) t)))))
    (λ t. eq-eqb (count (λ i. p (first + i)) n) (n when b else 0)
    (omega (arith, shift, count-run p first n b (λ i l u. sym (same_true b (p i) (every-at (λ i. same b (p i)) first n t i l u))))))
