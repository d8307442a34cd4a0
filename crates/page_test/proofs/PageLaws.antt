-- The test of a sandbox's pages is true exactly where each page is as a sound state asks.
use mathlib.Core.Path.{◌≡◌, refl, sym, ap, ◌∙◌}
use mathlib.Core.Bool.{Bool, true, false, not}
use Prim.Native.Nat.{ℕ, ◌+◌, ◌<◌}
use native.Mathlib.Omega.{arith}
use lib.Dec.{eqb}
use borrow.Author.Tests.{eq-eqb, eqb-true, not-true}
use Rattle.basics.specs.Choice.{implies}
use Rattle.basics.proofs.TestLaws.{and_both, and-of, implied, implies-of}
use Rattle.basics.proofs.LoopLaws.{every-at, every_of}
use Rattle.interface.specs.declared.page.Backing.{Backing}
use Rattle.interface.specs.declared.page.Backing.TheVariants.{Anonymous, Image}
use Rattle.interface.specs.declared.page.Slot.{Slot}
use Rattle.interface.specs.Slots.{is_mapped, is_committed, backing_at, follows}
use Rattle.table.specs.Store.{Store, entry, front_of, back_of}
use Rattle.areas.specs.declared.area.Areas.{Areas}
use Rattle.areas.specs.Areas.{slots}
use Rattle.areas.proofs.SlotLaws.{advance-zero, follows-true}
use Rattle.page_test.specs.Pages.{page_ok, pages_ok}

-- ---- a page

backing-true : (a b : Backing) → follows a 0 b ≡ true → a ≡ b
backing-true a b h = sym (advance-zero a) ∙ follows-true a b 0 h

backing-self : (a : Backing) → follows a 0 a ≡ true
unfolding follows
backing-self Anonymous = refl
backing-self (Image i) = eq-eqb (i.0 + 0) i.0 (omega arith)

-- of a page's slot, the snapshot's, its front and its back entry
pub record PageSound (present snapshot : Slot) (front back : ℕ) : Type 0 where
  pub marked : is_mapped snapshot ≡ true → is_committed snapshot ≡ true
  pub committed : is_committed present ≡ true → is_mapped snapshot ≡ true
  pub backing : is_committed present ≡ true → backing_at present ≡ backing_at snapshot
  pub fronts : is_mapped present ≡ false → front ≡ 0
  pub backs : is_mapped snapshot ≡ false → back ≡ 0

pub page-true : (present snapshot : Slot) (front back : ℕ) → page_ok present snapshot front back ≡ true → PageSound present snapshot front back
unfolding page_ok
page-true present snapshot front back h =
    let h₁ = and_both (implies (is_mapped snapshot) (is_committed snapshot)) _ h in
    let h₂ = and_both (implies (is_committed present) (is_mapped snapshot)) _ h₁.1 in
    let h₃ = and_both (implies (is_committed present) (follows (backing_at present) 0 (backing_at snapshot))) _ h₂.1 in
    let h₄ = and_both (implies (not (is_mapped present)) (eqb front 0)) _ h₃.1 in
    record {
      marked = implied (is_mapped snapshot) (is_committed snapshot) h₁.0;
      committed = implied (is_committed present) (is_mapped snapshot) h₂.0;
      backing = λ c. backing-true _ _ (implied (is_committed present) (follows (backing_at present) 0 (backing_at snapshot)) h₃.0 c);
      fronts = λ m. eqb-true front 0 (implied (not (is_mapped present)) (eqb front 0) h₄.0 (ap not m));
      backs = λ m. eqb-true back 0 (implied (not (is_mapped snapshot)) (eqb back 0) h₄.1 (ap not m));
    }

pub page-of : (present snapshot : Slot) (front back : ℕ) → PageSound present snapshot front back → page_ok present snapshot front back ≡ true
unfolding page_ok
page-of present snapshot front back P =
    and-of (implies-of (is_mapped snapshot) (is_committed snapshot) P.marked)
    (and-of (implies-of (is_committed present) (is_mapped snapshot) P.committed)
    (and-of (implies-of (is_committed present) (follows (backing_at present) 0 (backing_at snapshot)) (λ c. rw (P.backing c) (backing-self (backing_at snapshot))))
    (and-of (implies-of (not (is_mapped present)) (eqb front 0) (λ m. eq-eqb front 0 (P.fronts (not-true _ m))))
    (implies-of (not (is_mapped snapshot)) (eqb back 0) (λ m. eq-eqb back 0 (P.backs (not-true _ m)))))))

-- ---- all pages of sandbox s

module _ (st : Store) (s : ℕ) (present snapshot : Areas) where
  -- what is asked of page i, and its test
  abbrev pub AtPage : ℕ → Type 0
  AtPage i = PageSound (slots present i) (slots snapshot i) (entry st (front_of s i)) (entry st (back_of s i))

  abbrev test_at : ℕ → Bool
  test_at i = page_ok (slots present i) (slots snapshot i) (entry st (front_of s i)) (entry st (back_of s i))

  pub pages-true : pages_ok st s present snapshot ≡ true → (i : ℕ) → i < 64 → AtPage i
  unfolding pages_ok
  pages-true h i l = page-true _ _ _ _ (every-at test_at 0 64 h i (omega arith) (omega arith))

  pub pages-of : ((i : ℕ) → i < 64 → AtPage i) → pages_ok st s present snapshot ≡ true
  unfolding pages_ok
  pages-of P = every_of test_at 0 64 (λ i l d. page-of _ _ _ _ (P i (omega arith)))
