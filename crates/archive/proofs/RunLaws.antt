-- Runs of pages: where an area ends, what stands at its pages, and pictures cut at a page.
use Prim.Native.Nat.{ℕ, zero, suc, ◌+◌, ◌-◌, ◌≤◌, ◌<◌}
use mathlib.Core.Path.{◌≡◌, refl, sym, ap, ◌∙◌, fun_ext}
use mathlib.Core.Bool.{true, false, not, false≢true}
use native.Mathlib.Omega.{arith}
use native.Mathlib.Nat.{add-zero}
use lib.Dec.{ltb, eqb}
use borrow.Author.Tests.{ltb-true, ltb-false, lt-ltb, le-ltb, eqb-true, not-false, not-true}
use Rattle.basics.specs.Choice.{◌when◌else◌, same}
use Rattle.basics.specs.Ranges.{inside, over}
use Rattle.basics.proofs.TestLaws.{by_cases, never, and_left, and_right, and-of, same_true}
use Rattle.basics.proofs.RangeLaws.{inside-first, inside-end, inside-yes, over-split}
use Rattle.basics.proofs.LoopLaws.{lowest-next, lowest-stop, lowest-end, lowest-range, lowest-least, lowest-passes}
use Rattle.basics.proofs.CountLaws.{count-le}
use Rattle.interface.specs.declared.page.Backing.{Backing}
use Rattle.interface.specs.declared.page.Backing.TheVariants.{Anonymous, Image}
use Rattle.interface.specs.declared.page.Attributes.{Attributes}
use Rattle.interface.specs.declared.page.Slot.{Slot}
use Rattle.interface.specs.declared.page.Slot.TheVariants.{Unmapped, Mapped}
use Rattle.interface.specs.Slots.{Slots, is_mapped, is_committed, rights_at, backing_at, advance, follows, joins, previous, starts_area, areas}
use Rattle.interface.specs.Outcome.{page_on}
use Rattle.archive.specs.Archive.{end_from}

-- ---- pictures cut at a page

-- f below b, g from b on
unfoldable pub cut {ℓ} : {A : Type ℓ} → ℕ → (ℕ → A) → (ℕ → A) → ℕ → A
cut b f g i = f i when ltb i b else g i

pub cut_below {ℓ} : {A : Type ℓ} (b : ℕ) (f g : ℕ → A) (i : ℕ) → i < b → cut b f g i ≡ f i
unfolding cut
cut_below b f g i h = rw (lt-ltb i b h)

pub cut-from {ℓ} : {A : Type ℓ} (b : ℕ) (f g : ℕ → A) (i : ℕ) → b ≤ i → cut b f g i ≡ g i
unfolding cut
cut-from b f g i h = rw (le-ltb i b h)

pub cut-split {ℓ ℓ'} : {A : Type ℓ} (P : A → Type ℓ') (b : ℕ) (f g : ℕ → A) (i : ℕ) → (i < b → P (f i)) → (b ≤ i → P (g i)) → P (cut b f g i)
cut-split P b f g i low high = by_cases (ltb i b) (λ l. rw (cut_below b f g i (ltb-true i b l)) (low (ltb-true i b l)))
    (λ l. rw (cut-from b f g i (ltb-false i b l)) (high (ltb-false i b l)))

pub cut-none {ℓ} : {A : Type ℓ} (f g : ℕ → A) → cut 0 f g ≡ g
cut-none f g = fun_ext λ i. cut-from 0 f g i (omega arith)

pub cut_all {ℓ} : {A : Type ℓ} (b : ℕ) (f g : ℕ → A) → ((i : ℕ) → b ≤ i → f i ≡ g i) → cut b f g ≡ f
cut_all b f g h = fun_ext λ i. cut-split (λ x. x ≡ f i) b f g i (λ _. refl) (λ l. sym (h i l))

-- the pages between two cuts are the same in both pictures
pub cut_on {ℓ} : {A : Type ℓ} (b e : ℕ) (f g : ℕ → A) → b ≤ e → ((i : ℕ) → b ≤ i → i < e → f i ≡ g i) → cut b f g ≡ cut e f g
cut_on b e f g o h =
    fun_ext λ i. cut-split (λ x. x ≡ cut e f g i) b f g i (λ l. sym (cut_below e f g i (omega arith)))
    (λ l. cut-split (λ x. g i ≡ x) e f g i (λ m. sym (h i l m)) (λ m. refl))

-- the pages between two cuts changed
pub over-cut {ℓ} : {A : Type ℓ} (a n : ℕ) (h f g : ℕ → A) → ((i : ℕ) → a ≤ i → i < a + n → h i ≡ f i) → over a n h (cut a f g) ≡ cut (a + n) f g
over-cut a n h f g e =
    fun_ext λ i. over-split (λ x. x ≡ cut (a + n) f g i) a n h (cut a f g) i
    (λ m. e i (inside-first a n i m) (inside-end a n i m) ∙ sym (cut_below (a + n) f g i (inside-end a n i m)))
    (λ m. cut-split (λ x. x ≡ cut (a + n) f g i) a f g i (λ l. sym (cut_below (a + n) f g i (omega arith)))
    (λ l. cut-split (λ x. g i ≡ x) (a + n) f g i (λ k. never (inside a n i) (inside-yes a n i l k) m) (λ k. refl)))

-- ---- where areas end

module _ (f : Slots) (i : ℕ) where
  module _ (h : i < 64) where
    pub end_on : joins (previous f i) (f i) ≡ true → end_from f i ≡ end_from f (i + 1)
    unfolding end_from
    end_on e = lowest-next (λ j. not (joins (previous f j) (f j))) 64 i h (rw e)

    pub end-here : joins (previous f i) (f i) ≡ false → end_from f i ≡ i
    unfolding end_from
    end-here e = lowest-stop (λ j. not (joins (previous f j) (f j))) 64 i h (rw e)

  pub end-past : 64 ≤ i → end_from f i ≡ i
  unfolding end_from
  end-past h = lowest-end (λ j. not (joins (previous f j) (f j))) 64 i h

  pub end-least : i ≤ end_from f i
  unfolding end_from
  end-least = (lowest-range (λ j. not (joins (previous f j) (f j))) i (64 - i)).0

  pub end-most : i ≤ 64 → end_from f i ≤ 64
  unfolding end_from
  end-most h = omega (arith, (lowest-range (λ j. not (joins (previous f j) (f j))) i (64 - i)).1)

  pub end-inside : (j : ℕ) → i ≤ j → j < end_from f i → joins (previous f j) (f j) ≡ true
  unfolding end_from
  end-inside j l m = not-false _ (lowest-least (λ j. not (joins (previous f j) (f j))) i (64 - i) j l m)

  pub end-apart : end_from f i < 64 → joins (previous f (end_from f i)) (f (end_from f i)) ≡ false
  unfolding end_from
  end-apart h = not-true _ (lowest-passes (λ j. not (joins (previous f j) (f j))) i (64 - i) (omega arith))

-- an unmapped page joins none
pub joins-none : (x y : Slot) → is_mapped x ≡ false → joins x y ≡ false
unfolding joins
joins-none Unmapped y h = refl
joins-none (Mapped t) y h = never true refl h

pub none-joins : (x y : Slot) → is_mapped y ≡ false → joins x y ≡ false
unfolding joins
none-joins Unmapped y h = refl
none-joins (Mapped t) Unmapped h = refl
none-joins (Mapped t) (Mapped u) h = never true refl h

pub end-unmapped : (f : Slots) (i : ℕ) → i < 64 → is_mapped (f i) ≡ false → (end_from f i ≡ i) × (end_from f (suc i) ≡ suc i)
end-unmapped f i h u = (
  end-here f i h (none-joins (previous f i) (f i) u),
  by_cases (ltb (suc i) 64) (λ l. end-here f (suc i) (ltb-true (suc i) 64 l) (joins-none (f i) (f (suc i)) u))
      (λ l. end-past f (suc i) (ltb-false (suc i) 64 l)),
)

-- ---- what stands at the pages of an area

abbrev pub attributes_at : Slot → Attributes
attributes_at x = record { rights = rights_at x; committed = is_committed x; backing = backing_at x }

pub mapped-slot : (x : Slot) → is_mapped x ≡ true → x ≡ Mapped (attributes_at x)
mapped-slot Unmapped h = absurd (false≢true h)
mapped-slot (Mapped t) h = refl

follows_on : (b c : Backing) → follows b 1 c ≡ true → c ≡ advance b 1
unfolding follows
follows_on Anonymous Anonymous h = refl
follows_on Anonymous (Image q) h = absurd (false≢true h)
follows_on (Image p) Anonymous h = absurd (false≢true h)
follows_on (Image p) (Image q) h = λ k. Image (record { 0 = sym (eqb-true (p.0 + 1) q.0 h) k })

pub joins-on : (x y : Slot) → joins x y ≡ true → y ≡ page_on (attributes_at x) 1
unfolding joins
joins-on Unmapped y h = absurd (false≢true h)
joins-on (Mapped t) Unmapped h = absurd (false≢true h)
joins-on (Mapped t) (Mapped u) h =
    let r = and_left (eqb t.rights u.rights) _ h in
    let m = and_right (eqb t.rights u.rights) _ h in
    let c = same_true t.committed u.committed (and_left (same t.committed u.committed) _ m) in
    let b = follows_on t.backing u.backing (and_right (same t.committed u.committed) _ m) in
    λ k. Mapped (record { rights = sym (eqb-true t.rights u.rights r) k; committed = sym c k; backing = b k })

pub advance-more : (b : Backing) (k : ℕ) → advance (advance b k) 1 ≡ advance b (suc k)
advance-more Anonymous k = refl
advance-more (Image p) k = let more : p.0 + k + 1 ≡ p.0 + suc k = omega arith in λ z. Image (record { 0 = more z })

pub advance-none : (b : Backing) → advance b 0 ≡ b
advance-none Anonymous = refl
advance-none (Image p) = let none : p.0 + 0 ≡ p.0 = omega arith in λ z. Image (record { 0 = none z })

page-more : (t : Attributes) (x : Slot) (k : ℕ) → x ≡ page_on t k → page_on (attributes_at x) 1 ≡ page_on t (suc k)
page-more t x k e = rw e (ap (λ (b : Backing). Mapped (record { rights = t.rights; committed = t.committed; backing = b })) (advance-more t.backing k))

-- a page of the area that starts at page i
pub run : (f : Slots) (i k : ℕ) → is_mapped (f i) ≡ true → ((j : ℕ) → i < j → j ≤ i + k → joins (previous f j) (f j) ≡ true)
    → f (i + k) ≡ page_on (attributes_at (f i)) k
run f i zero m h =
    rw add-zero (mapped-slot (f i) m ∙ ap (λ (b : Backing). Mapped (record { rights = rights_at (f i); committed = is_committed (f i); backing = b }))
    (sym (advance-none (backing_at (f i)))))
run f i (suc k) m h =
    let next : i + suc k ≡ suc (i + k) = omega arith in
    let before = run f i k m (λ j l n. h j l (omega arith)) in
    rw next
    (joins-on (f (i + k)) (f (suc (i + k))) (h (suc (i + k)) (omega arith) (omega arith)) ∙ page-more (attributes_at (f i)) (f (i + k)) k before)

pub area-page : (f : Slots) (i j : ℕ) → is_mapped (f i) ≡ true → i ≤ j → j < end_from f (i + 1) → f j ≡ page_on (attributes_at (f i)) (j - i)
area-page f i j m l e =
    let there : i + (j - i) ≡ j = omega arith in
    sym (ap f there) ∙ run f i (j - i) m (λ k a b. end-inside f (i + 1) k (omega arith) (omega arith))

-- ---- how many areas a changed picture has

-- where each area of one picture starts, one of the other starts
pub areas-le : (h f : Slots) → ((i : ℕ) → starts_area h i ≡ true → starts_area f i ≡ true) → areas h ≤ areas f
unfolding areas
areas-le h f e = count-le (starts_area h) (starts_area f) 64 e

pub starts-of : (h f : Slots) (i : ℕ) → (is_mapped (h i) ≡ true → is_mapped (f i) ≡ true)
    → (joins (previous f i) (f i) ≡ true → joins (previous h i) (h i) ≡ true)
    → starts_area h i ≡ true → starts_area f i ≡ true
starts-of h f i m j e =
    let apart = not-true _ (and_right (is_mapped (h i)) (not (joins (previous h i) (h i))) e) in
    and-of (m (and_left (is_mapped (h i)) _ e))
    (by_cases (joins (previous f i) (f i)) (λ t. never (joins (previous h i) (h i)) (j t) apart) (λ t. rw t))
