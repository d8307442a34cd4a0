-- When a page agrees with its snapshot; what the lowest difference says of all 64 pages, and what the number of changed ones.
use Prim.Native.Nat.{ℕ, ◌≤◌, ◌<◌}
use mathlib.Core.Path.{◌≡◌, refl, ap}
use mathlib.Core.Bool.{Bool, true, false, not, ◌&&◌}
use native.Mathlib.Omega.{arith}
use lib.Dec.{eqb}
use borrow.Author.Tests.{eq-eqb, not-false}
use Rattle.basics.specs.Ranges.{count, lowest, inside, over}
use Rattle.basics.proofs.TestLaws.{by_cases, and_right}
use Rattle.basics.proofs.LoopLaws.{lowest-least, lowest-none, lowest-same}
use Rattle.basics.proofs.CountLaws.{count_small, count-le, count_less, count-equal, count_none, count-zero}
use Rattle.interface.specs.declared.page.Slot.{Slot}
use Rattle.interface.specs.declared.page.Slot.TheVariants.{Unmapped, Mapped}
use Rattle.interface.specs.Slots.{Slots, is_mapped, is_committed}
use Rattle.comparison.specs.Compare.{agree, lowest_difference, changed_pages, lowest_changed}
use Rattle.comparison.specs.Differences.{pairs_agree, lowest_found, all_counted, differences_hold}

-- what is compared, by computation
pub differences-hold : differences_hold ≡ true
unfolding differences_hold pairs_agree lowest_found all_counted count lowest inside over agree lowest_difference changed_pages
differences-hold = refl

-- a page with the same bytes agrees with itself
pub agree-self : (t : Slot) → agree t t true ≡ true
unfolding agree
agree-self Unmapped = refl
agree-self (Mapped t) = rw (eq-eqb t.rights t.rights refl)

-- the bytes matter only where the page is mapped in both
pub agree-bytes : (s t : Slot) (x y : Bool) → (is_mapped s ≡ true → is_mapped t ≡ true → x ≡ y) → agree s t x ≡ agree s t y
unfolding agree
agree-bytes Unmapped Unmapped x y h = refl
agree-bytes Unmapped (Mapped t) x y h = refl
agree-bytes (Mapped s) Unmapped x y h = refl
agree-bytes (Mapped s) (Mapped t) x y h = rw (h refl refl)

-- a page that agrees is mapped in both or in neither
pub agree-mapped : (s t : Slot) (x : Bool) → agree s t x ≡ true → is_mapped s ≡ is_mapped t
unfolding agree
agree-mapped Unmapped Unmapped x h = refl
agree-mapped Unmapped (Mapped t) x h = cc
agree-mapped (Mapped s) Unmapped x h = cc
agree-mapped (Mapped s) (Mapped t) x h = refl

-- and where it is mapped its bytes are the same
pub agree_same : (s t : Slot) (x : Bool) → agree s t x ≡ true → is_mapped s ≡ true → x ≡ true
unfolding agree
agree_same Unmapped t x h m = cc
agree_same (Mapped s) Unmapped x h m = cc
agree_same (Mapped s) (Mapped t) x h m = and_right (eqb s.rights t.rights) x h

-- two ways of comparing bytes that agree at each page give the same page
pub difference-same : (f c : Slots) (x y : ℕ → Bool) → ((i : ℕ) → i < 64 → agree (f i) (c i) (x i) ≡ agree (f i) (c i) (y i))
    → lowest_difference f c x ≡ lowest_difference f c y
unfolding lowest_difference
difference-same f c x y h =
    lowest-same (λ i. not (agree (f i) (c i) (x i))) (λ i. not (agree (f i) (c i) (y i))) 0 64 (λ i a b. ap not (h i (omega arith)))

-- "64 if they nowhere differ": exactly where every page agrees
pub difference-none : (f c : Slots) (x : ℕ → Bool) → ((i : ℕ) → i < 64 → agree (f i) (c i) (x i) ≡ true) → lowest_difference f c x ≡ 64
unfolding lowest_difference
difference-none f c x h = lowest-none (λ i. not (agree (f i) (c i) (x i))) 0 64 (λ i a b. ap not (h i (omega arith)))

pub none-differs : (f c : Slots) (x : ℕ → Bool) → lowest_difference f c x ≡ 64 → (i : ℕ) → i < 64 → agree (f i) (c i) (x i) ≡ true
unfolding lowest_difference
none-differs f c x h i l = not-false _ (lowest-least (λ i. not (agree (f i) (c i) (x i))) 0 64 i (omega arith) (omega (arith, h)))

-- ---- the committed pages whose bytes differ

-- two ways of comparing bytes that agree at each committed page give the same number
pub changed-same : (f : Slots) (x y : ℕ → Bool) → ((i : ℕ) → i < 64 → is_committed (f i) ≡ true → x i ≡ y i) → changed_pages f x ≡ changed_pages f y
unfolding changed_pages
changed-same f x y h = count-equal _ _ 64 (λ i l. by_cases (is_committed (f i)) (λ c. rw (c, h i l c)) (λ c. rw c))

-- at most as many as pass another test
pub changed-at-most : (f : Slots) (x p : ℕ → Bool) → ((i : ℕ) → (is_committed (f i) && not (x i)) ≡ true → p i ≡ true) → changed_pages f x ≤ count p 64
unfolding changed_pages
changed-at-most f x p h = count-le _ p 64 h

pub changed-small : (f : Slots) (x : ℕ → Bool) → changed_pages f x ≤ 64
unfolding changed_pages
changed-small f x = count_small _ 64

-- none: exactly where the bytes of every committed page are the same
pub changed-none : (f : Slots) (x : ℕ → Bool) → ((i : ℕ) → i < 64 → is_committed (f i) ≡ true → x i ≡ true) → changed_pages f x ≡ 0
unfolding changed_pages
changed-none f x h = count-zero _ 64 (λ i l. by_cases (is_committed (f i)) (λ c. rw (c, h i l c)) (λ c. rw c))

pub none-changed : (f : Slots) (x : ℕ → Bool) → changed_pages f x ≡ 0 → (i : ℕ) → i < 64 → is_committed (f i) ≡ true → x i ≡ true
unfolding changed_pages
none-changed f x h i l c =
    by_cases (x i) (λ e. e)
    (λ e. absurd (omega (
      arith,
      h,
      count_none 64,
      count_less (λ k. false) (λ k. is_committed (f k) && not (x k)) 64 i (λ k d. cc) l refl (rw (c, e)),
    )))

-- so exactly where call 10, of their bytes alone, finds none
pub lowest-unchanged : (f : Slots) (x : ℕ → Bool) → lowest_changed f x ≡ 64 → changed_pages f x ≡ 0
unfolding lowest_changed
lowest-unchanged f x e =
    changed-none f x
    (λ i l c. by_cases (x i) (λ s. s)
    (λ s. let no = rw (c, s) at (lowest-least (λ k. is_committed (f k) && not (x k)) 0 64 i (omega arith) (omega (arith, e))) in cc))

pub unchanged-lowest : (f : Slots) (x : ℕ → Bool) → changed_pages f x ≡ 0 → lowest_changed f x ≡ 64
unfolding lowest_changed
unchanged-lowest f x z =
    lowest-none (λ k. is_committed (f k) && not (x k)) 0 64
    (λ i a b. by_cases (is_committed (f i)) (λ c. rw (c, none-changed f x z i (omega arith) c)) (λ c. rw c))
