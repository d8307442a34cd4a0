-- The charge of what a call would leave, from the present charge: row 13 without counting the outcome anew.
use Prim.Native.Nat.{ℕ, zero, suc, ◌+◌, ◌-◌, ◌*◌, min, ◌≤◌}
use mathlib.Core.Path.{◌≡◌, refl, ap, ◌∙◌, fun_ext}
use mathlib.Core.Bool.{Bool, true, false}
use mathlib.Core.Option.{Option, some, none}
use native.Mathlib.Omega.{arith}
use lib.Dec.{ltb}
use borrow.Author.Tests.{ltb-true, ltb-false}
use Rattle.basics.specs.Ranges.{count, inside, over}
use Rattle.basics.proofs.TestLaws.{by_cases}
use Rattle.basics.proofs.RangeLaws.{inside-yes, inside-below, inside_past, over-cases}
use Rattle.basics.proofs.CountLaws.{count_small, count-le, count-split, count_none}
use Rattle.interface.specs.declared.page.Attributes.{Attributes}
use Rattle.interface.specs.declared.page.Slot.{Slot}
use Rattle.interface.specs.declared.page.Slot.TheVariants.{Unmapped}
use Rattle.interface.specs.Slots.{Slots, is_mapped, is_committed, is_uncommitted, with_rights, with_committed, mapped_pages, uncommitted_pages, charge_of, copied}
use Rattle.interface.specs.Outcome.{page_on}
use Rattle.interface.proofs.SlotLaws.{mapped-rights, uncommitted-rights, mapped-commit, uncommitted-commit}
use Rattle.interface.proofs.SlotLaws.{uncommitted-not, one-mark, uncommitted-mapped, mark-split}

-- at most 64 pages are counted
pub mapped-small : (f : Slots) → mapped_pages f ≤ 64
unfolding mapped_pages
mapped-small f = count_small (λ i. is_mapped (f i)) 64

pub uncommitted-small : (f : Slots) → uncommitted_pages f ≤ 64
unfolding uncommitted_pages
uncommitted-small f = count_small (λ i. is_uncommitted (f i)) 64

-- how many of the n numbers from a on are below j
pub inside-part : (a n j : ℕ) → count (inside a n) j + min a j ≡ min (a + n) j
unfolding count
inside-part a n zero = omega arith
inside-part a n (suc j) =
    by_cases (ltb j a) (λ l. rw (inside-below a n j (ltb-true j a l)) (omega (arith, ltb-true j a l, inside-part a n j)))
    (λ l. by_cases (ltb j (a + n))
    (λ m. rw (inside-yes a n j (ltb-false j a l) (ltb-true j (a + n) m)) (omega (arith, ltb-false j a l, ltb-true j (a + n) m, inside-part a n j)))
    (λ m. rw (inside_past a n j (ltb-false j (a + n) m)) (omega (arith, ltb-false j (a + n) m, inside-part a n j))))

count-inside : (a n m : ℕ) → a + n ≤ m → count (inside a n) m ≡ n
count-inside a n m h = omega (arith, inside-part a n m)

-- n pages from a on that come to pass a test
count-over : (t : Slot → Bool) (f g : Slots) (a n : ℕ) → a + n ≤ 64 → ((i : ℕ) → inside a n i ≡ true → (t (f i) ≡ false) × (t (g i) ≡ true))
    → count (λ i. t (over a n g f i)) 64 ≡ count (λ i. t (f i)) 64 + n
unfolding over
count-over t f g a n h e =
    count-split (λ i. t (over a n g f i)) (λ i. t (f i)) (inside a n) 64
    (λ i. by_cases (inside a n i) (λ m. rw (m, (e i m).0, (e i m).1)) (λ m. rw m (omega arith)))
    ∙ ap (λ (x : ℕ). count (λ i. t (f i)) 64 + x) (count-inside a n 64 h)

-- a map of n unmapped pages charges n more
pub map-charge : (f : Slots) (c : Option Slots) (t : Attributes) (a n : ℕ) → t.committed ≡ false → a + n ≤ 64
    → ((i : ℕ) → inside a n i ≡ true → is_mapped (f i) ≡ false)
    → charge_of (over a n (λ i. page_on t (i - a)) f) c ≡ charge_of f c + n
unfolding charge_of mapped_pages uncommitted_pages
map-charge f none t a n m h e = count-over is_mapped f (λ i. page_on t (i - a)) a n h (λ i l. (e i l, refl))
map-charge f (some d) t a n m h e =
    omega (arith, count-over is_uncommitted f (λ i. page_on t (i - a)) a n h (λ i l. (uncommitted-not (f i) (e i l), rw m)))

-- a snapshot charges each mapped page twice
pub snapshot-charge : (f : Slots) → charge_of (λ i. with_committed (f i)) (some (λ i. with_committed (f i))) ≡ 2 * mapped_pages f
unfolding charge_of mapped_pages uncommitted_pages
snapshot-charge f =
    omega (
      arith,
      count_none 64,
      ap (λ (p : ℕ → Bool). count p 64) (fun_ext (λ i. mapped-commit (f i))),
      ap (λ (p : ℕ → Bool). count p 64) (fun_ext (λ i. uncommitted-commit (f i))),
    )

-- what leaves no page more mapped or uncommitted charges no more
pub charge-le : (f g : Slots) (c : Option Slots) → ((i : ℕ) → is_mapped (g i) ≡ true → is_mapped (f i) ≡ true)
    → ((i : ℕ) → is_uncommitted (g i) ≡ true → is_uncommitted (f i) ≡ true) → charge_of g c ≤ charge_of f c
unfolding charge_of mapped_pages uncommitted_pages
charge-le f g none m u = count-le (λ i. is_mapped (g i)) (λ i. is_mapped (f i)) 64 m
charge-le f g (some d) m u = omega (arith, count-le (λ i. is_uncommitted (g i)) (λ i. is_uncommitted (f i)) 64 u)

pub unmap-charge : (f : Slots) (c : Option Slots) (a n : ℕ) → charge_of (over a n (λ i. Unmapped) f) c ≤ charge_of f c
unmap-charge f c a n =
    charge-le f (over a n (λ _. Unmapped) f) c
    (λ i. over-cases (λ x. is_mapped x ≡ true → is_mapped (f i) ≡ true) a n (λ _. Unmapped) f i (λ _ e. cc) (λ e. e))
    (λ i. over-cases (λ x. is_uncommitted x ≡ true → is_uncommitted (f i) ≡ true) a n (λ _. Unmapped) f i (λ _ e. cc) (λ e. e))

pub protect-charge : (f : Slots) (c : Option Slots) (a n r : ℕ) → charge_of (over a n (λ i. with_rights r (f i)) f) c ≤ charge_of f c
protect-charge f c a n r =
    charge-le f (over a n (λ i. with_rights r (f i)) f) c
    (λ i. over-cases (λ x. is_mapped x ≡ true → is_mapped (f i) ≡ true) a n (λ j. with_rights r (f j)) f i (λ _. rw mapped-rights (λ e. e)) (λ e. e))
    (λ i. over-cases (λ x. is_uncommitted x ≡ true → is_uncommitted (f i) ≡ true) a n (λ j. with_rights r (f j)) f i
    (λ _. rw uncommitted-rights (λ e. e)) (λ e. e))

-- the snapshot itself charges no more than the present
pub rewind-charge : (f d : Slots) → ((i : ℕ) → is_mapped (d i) ≡ true → is_committed (d i) ≡ true) → charge_of d (some d) ≤ charge_of f (some d)
unfolding charge_of uncommitted_pages
rewind-charge f d h =
    omega (
      arith,
      count-le (λ i. is_uncommitted (d i)) (λ i. false) 64 (λ i e. one-mark (d i) e (h i (uncommitted-mapped (d i) e))),
      count_none 64,
    )

-- the charge covers the mapped pages and the backs, where committed pages and backs are snapshot pages
pub charge-covers : (f : Slots) (c : Option Slots) (back : ℕ → Bool) → ((i : ℕ) → is_committed (f i) ≡ true → is_mapped (copied c i) ≡ true)
    → ((i : ℕ) → back i ≡ true → is_mapped (copied c i) ≡ true) → mapped_pages f + count back 64 ≤ charge_of f c
unfolding mapped_pages uncommitted_pages charge_of
charge-covers f none back hc hb = omega (arith, count-le back (λ i. false) 64 hb, count_none 64)
charge-covers f (some d) back hc hb =
    omega (
      arith,
      count-le back (λ i. is_mapped (d i)) 64 hb,
      count-le (λ i. is_committed (f i)) (λ i. is_mapped (d i)) 64 hc,
      count-split (λ i. is_mapped (f i)) (λ i. is_committed (f i)) (λ i. is_uncommitted (f i)) 64 (λ i. mark-split (f i)),
    )
