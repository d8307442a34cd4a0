-- What the tests say of a slot that is changed, and when two pictures of the pages are one.
use Prim.Native.Nat.{ℕ, ◌+◌, ◌≤◌, ◌<◌}
use mathlib.Core.Path.{◌≡◌, refl, sym, ◌∙◌, fun_ext}
use mathlib.Core.Bool.{true, false, false≢true}
use mathlib.Core.Option.{Option, some, none}
use native.Mathlib.Omega.{arith}
use lib.Dec.{ltb}
use borrow.Author.Tests.{ltb-true, ltb-false}
use Rattle.basics.specs.Ranges.{one}
use Rattle.basics.proofs.TestLaws.{by_cases}
use Rattle.interface.specs.declared.page.Slot.{Slot}
use Rattle.interface.specs.declared.page.Slot.TheVariants.{Unmapped, Mapped}
use Rattle.interface.specs.Slots.{Slots, is_mapped, is_committed, is_uncommitted, backing_at, with_rights, with_committed, copied}
use Rattle.interface.specs.Refusals.{is_taken}

pub mapped-rights : (r : ℕ) (x : Slot) → is_mapped (with_rights r x) ≡ is_mapped x
mapped-rights r Unmapped = refl
mapped-rights r (Mapped t) = refl

pub committed-rights : (r : ℕ) (x : Slot) → is_committed (with_rights r x) ≡ is_committed x
committed-rights r Unmapped = refl
committed-rights r (Mapped t) = refl

pub uncommitted-rights : (r : ℕ) (x : Slot) → is_uncommitted (with_rights r x) ≡ is_uncommitted x
uncommitted-rights r Unmapped = refl
uncommitted-rights r (Mapped t) = refl

pub backing-rights : (r : ℕ) (x : Slot) → backing_at (with_rights r x) ≡ backing_at x
backing-rights r Unmapped = refl
backing-rights r (Mapped t) = refl

pub mapped-commit : (x : Slot) → is_mapped (with_committed x) ≡ is_mapped x
mapped-commit Unmapped = refl
mapped-commit (Mapped t) = refl

pub committed-commit : (x : Slot) → is_committed (with_committed x) ≡ is_mapped x
committed-commit Unmapped = refl
committed-commit (Mapped t) = refl

pub uncommitted-commit : (x : Slot) → is_uncommitted (with_committed x) ≡ false
uncommitted-commit Unmapped = refl
uncommitted-commit (Mapped t) = refl

pub backing-commit : (x : Slot) → backing_at (with_committed x) ≡ backing_at x
backing-commit Unmapped = refl
backing-commit (Mapped t) = refl

-- a slot that is not mapped is Unmapped
pub unmapped : (x : Slot) → is_mapped x ≡ false → x ≡ Unmapped
unmapped Unmapped h = refl
unmapped (Mapped t) h = absurd (false≢true (sym h))

-- committed or not, a page with a mark is mapped; and it has one mark
pub committed-mapped : (x : Slot) → is_committed x ≡ true → is_mapped x ≡ true
committed-mapped Unmapped h = h
committed-mapped (Mapped t) h = refl

pub uncommitted-mapped : (x : Slot) → is_uncommitted x ≡ true → is_mapped x ≡ true
uncommitted-mapped Unmapped h = h
uncommitted-mapped (Mapped t) h = refl

pub uncommitted-of : (x : Slot) → is_mapped x ≡ true → is_committed x ≡ false → is_uncommitted x ≡ true
uncommitted-of Unmapped h e = h
uncommitted-of (Mapped t) h e = rw e

pub uncommitted-not : (x : Slot) → is_mapped x ≡ false → is_uncommitted x ≡ false
uncommitted-not Unmapped h = refl
uncommitted-not (Mapped t) h = absurd (false≢true (sym h))

pub one-mark : {A : Type 0} (x : Slot) → is_uncommitted x ≡ true → is_committed x ≡ true → A
one-mark Unmapped h e = absurd (false≢true h)
one-mark (Mapped t) h e = absurd (false≢true (rw e at h))

pub mark-split : (x : Slot) → one (is_mapped x) ≡ one (is_committed x) + one (is_uncommitted x)
mark-split Unmapped = refl
mark-split (Mapped t) = by_cases t.committed (λ e. rw e) (λ e. rw e)

-- without a snapshot no page is a snapshot page
pub untaken-copied : (c : Option Slots) (i : ℕ) → is_taken c ≡ false → is_mapped (copied c i) ≡ true → ⊥
untaken-copied none i t e = false≢true e
untaken-copied (some d) i t e = false≢true (sym t)

-- no page past 63 is mapped: two such pictures that agree below 64 are one
abbrev pub Inside : Slots → Type 0
Inside f = (i : ℕ) → is_mapped (f i) ≡ true → i < 64

pub beyond : (f : Slots) → Inside f → (i : ℕ) → 64 ≤ i → f i ≡ Unmapped
beyond f h i b = unmapped (f i) (by_cases (is_mapped (f i)) (λ m. absurd (omega (arith, h i m))) (λ m. m))

pub slots-equal : (f h : Slots) → Inside f → Inside h → ((i : ℕ) → i < 64 → f i ≡ h i) → f ≡ h
slots-equal f h a b same =
    fun_ext λ i. by_cases (ltb i 64) (λ l. same i (ltb-true i 64 l)) (λ l. beyond f a i (ltb-false i 64 l) ∙ sym (beyond h b i (ltb-false i 64 l)))
