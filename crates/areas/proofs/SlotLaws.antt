-- Laws of what stands at a page as a list of areas says it: the list read from the front, and a place of it changed.
use Prim.Native.Nat.{ℕ, zero, suc, ◌+◌, ◌≤◌, ◌<◌}
use mathlib.Core.Path.{◌≡◌, refl, sym, ◌∙◌, ap}
use mathlib.Core.Bool.{true, false, false≢true}
use mathlib.Core.List.{List, [], ◌∷◌}
use native.Mathlib.Omega.{arith}
use native.Mathlib.Numerals.{add-one}
use native.Mathlib.Nat.{add-zero}
use native.Mathlib.Decide.{ℕ_discrete}
use lib.Dec.{eqb}
use lib.ListN.{length, get_or, set, drop, replicate, drop_of_length-le}
use lib.Seq.{drop-cons, get_or-set_same, get_or-set_other}
use borrow.Author.Tests.{eqb-true}
use Rattle.basics.specs.Choice.{◌when◌else◌}
use Rattle.basics.proofs.TestLaws.{by_cases}
use Rattle.basics.proofs.RangeLaws.{inside_past}
use Rattle.interface.specs.declared.page.Backing.{Backing}
use Rattle.interface.specs.declared.page.Backing.TheVariants.{Anonymous, Image}
use Rattle.interface.specs.declared.page.Slot.TheVariants.{Unmapped}
use Rattle.interface.specs.Slots.{is_mapped, advance, follows}
use Rattle.areas.specs.declared.area.Area.{Area}
use Rattle.areas.specs.Areas.{none, covers, slot_of, slot_in}

-- the list read from the front

pub slot_step : (l : List Area) (i page : ℕ) → i < length l
    → slot_in (drop i l) page ≡ (slot_of (get_or l i none) page when covers (get_or l i none) page else slot_in (drop (i + 1) l) page)
unfolding slot_in
slot_step l i page h = rw (add-one i, drop-cons l i none h)

pub slot-end : (l : List Area) (i page : ℕ) → length l ≤ i → slot_in (drop i l) page ≡ Unmapped
unfolding slot_in
slot-end l i page h = rw (drop_of_length-le l h)

-- no area

pub covers-none : (page : ℕ) → covers none page ≡ false
covers-none page = inside_past 0 0 page (omega arith)

-- a page that no area covers is not mapped
pub slot-past : (l : List Area) (page : ℕ) → ((k : ℕ) → covers (get_or l k none) page ≡ false) → slot_in l page ≡ Unmapped
unfolding slot_in
slot-past [] page h = refl
slot-past (a ∷ l) page h = rw (h 0) (slot-past l page (λ k. h (suc k)))

pub empty-place : (n k : ℕ) → get_or (replicate n none) k none ≡ none
empty-place zero k = refl
empty-place (suc n) zero = refl
empty-place (suc n) (suc k) = empty-place n k

-- the area that maps a page

pub record Found (l : List Area) (page : ℕ) : Type 0 where
  pub place : ℕ
  pub low : place < length l
  pub covered : covers (get_or l place none) page ≡ true
  pub gives : slot_of (get_or l place none) page ≡ slot_in l page

pub found : (l : List Area) (page : ℕ) → is_mapped (slot_in l page) ≡ true → Found l page
unfolding slot_in
found [] page e = absurd (false≢true e)
found (a ∷ l) page e =
    by_cases (covers a page)
    (λ c. record { place = 0; low = omega arith; covered = c; gives = rw c })
    (λ c. let r = found l page (rw c at e) in record { place = suc r.place; low = omega (arith, r.low); covered = r.covered; gives = r.gives ∙ rw c })

-- the first area that covers a page says what stands there
pub slot-hit : (l : List Area) (page k : ℕ) → covers (get_or l k none) page ≡ true → ((j : ℕ) → j < k → covers (get_or l j none) page ≡ false)
    → slot_in l page ≡ slot_of (get_or l k none) page
unfolding slot_in
slot-hit [] page k c h = absurd (false≢true (sym (covers-none page) ∙ c))
slot-hit (a ∷ l) page zero c h = rw c
slot-hit (a ∷ l) page (suc k) c h = rw (h 0 (omega arith)) (slot-hit l page k c (λ j d. h (suc j) (omega arith)))

-- a place changed

-- the area covers the page and says of it what the old one did
pub set-alike : (l : List Area) (k : ℕ) (a : Area) (page : ℕ) → covers a page ≡ covers (get_or l k none) page
    → slot_of a page ≡ slot_of (get_or l k none) page → slot_in (set l k a) page ≡ slot_in l page
unfolding slot_in
set-alike [] k a page g h = refl
set-alike (x ∷ l) zero a page g h = rw (g, h)
set-alike (x ∷ l) (suc k) a page g h = rw (set-alike l k a page g h)

-- neither covers the page
pub set-skip : (l : List Area) (k : ℕ) (a : Area) (page : ℕ) → covers (get_or l k none) page ≡ false → covers a page ≡ false
    → slot_in (set l k a) page ≡ slot_in l page
unfolding slot_in
set-skip [] k a page g h = refl
set-skip (x ∷ l) zero a page g h = rw (g, h)
set-skip (x ∷ l) (suc k) a page g h = rw (set-skip l k a page g h)

-- the area covers a page that was not mapped
pub set-hit : (l : List Area) (k : ℕ) (a : Area) (page : ℕ) → k < length l → slot_in l page ≡ Unmapped → covers a page ≡ true
    → slot_in (set l k a) page ≡ slot_of a page
unfolding slot_in
set-hit [] k a page g h c = absurd (omega arith)
set-hit (x ∷ l) zero a page g h c = rw c
set-hit (x ∷ l) (suc k) a page g h c =
    by_cases (covers x page)
    (λ e. absurd (false≢true (ap is_mapped (sym (rw e at h)))))
    (λ e. rw e (set-hit l k a page (omega arith) (rw e at h) c))

-- what a change of a place leaves at each
pub set-case : (P : Area → Type 0) (l : List Area) (j k : ℕ) (a : Area) → j < length l → (k ≡ j → P a)
    → ((k ≡ j → ⊥) → P (get_or l k none)) → P (get_or (set l j a) k none)
set-case P l j k a h y n = go (ℕ_discrete k j)
  where
    go : Dec (k ≡ j) → P (get_or (set l j a) k none)
    go (yes e) = rw (e, get_or-set_same l j a none h) (y e)
    go (no d) = rw (get_or-set_other l j k a none d) (n d)

-- a backing no page on
pub advance-zero : (b : Backing) → advance b 0 ≡ b
advance-zero Anonymous = refl
advance-zero (Image first) = ap (λ (n : ℕ). Image (record { 0 = n })) (add-zero first.0)

-- the backing that follows another, so many pages on
pub follows-true : (first second : Backing) (pages : ℕ) → follows first pages second ≡ true → advance first pages ≡ second
unfolding follows
follows-true Anonymous Anonymous pages h = refl
follows-true Anonymous (Image q) pages h = cc
follows-true (Image p) Anonymous pages h = cc
follows-true (Image p) (Image q) pages h = ap (λ (n : ℕ). Image (record { 0 = n })) (eqb-true (p.0 + pages) q.0 h)

pub follows-more : (first second : Backing) (pages : ℕ) → follows first (pages + 1) second ≡ follows (advance first pages) 1 second
unfolding follows
follows-more Anonymous Anonymous pages = refl
follows-more Anonymous (Image q) pages = refl
follows-more (Image p) Anonymous pages = refl
follows-more (Image p) (Image q) pages = ap (λ (n : ℕ). eqb n q.0) (omega arith)
