-- A page compared with the snapshot's, by each of the ways in which it is decided.
use Prim.Native.Nat.{ℕ, zero, suc}
use mathlib.Core.Path.{◌≡◌, refl, sym, ap}
use mathlib.Core.Bool.{Bool, true, false, not, ◌&&◌, false≢true}
use mathlib.Core.List.{List}
use lib.Dec.{eqb}
use lib.ListN.{get_or}
use borrow.Author.Tests.{eqb-true, eq-eqb, ne_eqb}
use Rattle.basics.proofs.TestLaws.{by_cases, and_left, and_right}
use Rattle.basics.proofs.LoopLaws.{alike_of}
use Rattle.interface.specs.declared.page.Slot.{Slot}
use Rattle.interface.specs.declared.page.Slot.TheVariants.{Unmapped, Mapped}
use Rattle.interface.specs.Slots.{is_mapped, is_committed, rights_at, backing_at}
use Rattle.comparison.specs.Compare.{agree}
use Rattle.pages.specs.Parts.{same_bytes}
use Rattle.table.specs.Store.{page_in, page_from, under_front}
use Rattle.table.specs.Backing.{backing_page}

-- ---- in being mapped and in rights

pub absent : (p c : Slot) (same : Bool) → is_mapped p ≡ false → not (is_mapped c) ≡ agree p c same
unfolding agree
absent Unmapped Unmapped same m = refl
absent Unmapped (Mapped t) same m = refl
absent (Mapped t) c same m = absurd (false≢true (sym m))

pub lost : (p c : Slot) (same : Bool) → is_mapped p ≡ true → is_mapped c ≡ false → false ≡ agree p c same
unfolding agree
lost Unmapped c same m n = absurd (false≢true m)
lost (Mapped t) Unmapped same m n = refl
lost (Mapped t) (Mapped u) same m n = absurd (false≢true (sym n))

pub other-rights : (p c : Slot) (same : Bool) → is_mapped p ≡ true → is_mapped c ≡ true → (rights_at p ≡ rights_at c → ⊥) → false ≡ agree p c same
unfolding agree
other-rights Unmapped c same m n d = absurd (false≢true m)
other-rights (Mapped t) Unmapped same m n d = absurd (false≢true n)
other-rights (Mapped t) (Mapped u) same m n d = rw (ne_eqb t.rights u.rights d)

-- with the same rights the bytes decide
pub bytes-decide : (p c : Slot) (same : Bool) → is_mapped p ≡ true → is_mapped c ≡ true → rights_at p ≡ rights_at c → same ≡ agree p c same
unfolding agree
bytes-decide Unmapped c same m n e = absurd (false≢true m)
bytes-decide (Mapped t) Unmapped same m n e = absurd (false≢true n)
bytes-decide (Mapped t) (Mapped u) same m n e = rw (eq-eqb t.rights u.rights e)

-- ---- in bytes

pub same_self : (size : ℕ) (xs : List ℕ) → same_bytes size xs xs ≡ true
unfolding same_bytes
same_self size xs = alike_of (λ o. get_or xs o 0) (λ o. get_or xs o 0) size (λ o l. refl)

module _ (image pool : List ℕ) (p c : Slot) (front back : ℕ) where
  -- what the page reads, and what the snapshot's reads, by their slots and entries
  abbrev pub reads_now : List ℕ
  reads_now = page_from (under_front (is_committed p) (backing_page image (backing_at p)) (page_in 256 pool back)) (page_in 256 pool front)

  abbrev pub reads_copied : List ℕ
  reads_copied = page_from (backing_page image (backing_at c)) (page_in 256 pool back)

  -- "A committed page with unchanged rights and no front is passed over": it reads what the snapshot's does
  pub passed_over : (is_committed p && eqb front 0) ≡ true → (is_committed p ≡ true → backing_at p ≡ backing_at c) → same_bytes 256 reads_now reads_copied ≡ true
  passed_over h b =
      let committed = and_left (is_committed p) (eqb front 0) h in
      let none = eqb-true front 0 (and_right (is_committed p) (eqb front 0) h) in
      rw (committed, none, b committed) (same_self 256 reads_copied)

  -- any other page: its front, or else its backing, against the snapshot's
  pub looked-at : (is_committed p && eqb front 0) ≡ false
      → same_bytes 256 (page_from (backing_page image (backing_at p)) (page_in 256 pool front)) reads_copied ≡ same_bytes 256 reads_now reads_copied
  looked-at h = ap (λ (x : List ℕ). same_bytes 256 x reads_copied) (go front h)
    where
      go : (f : ℕ) → (is_committed p && eqb f 0) ≡ false → page_from (backing_page image (backing_at p)) (page_in 256 pool f)
          ≡ page_from (under_front (is_committed p) (backing_page image (backing_at p)) (page_in 256 pool back)) (page_in 256 pool f)
      go zero e = by_cases (is_committed p) (λ t. absurd (false≢true (sym (rw t at e)))) (λ t. rw t)
      go (suc f) e = refl

-- the comparison of two pages by what stands there and by their entries
abbrev pub agree_by : List ℕ → List ℕ → Slot → Slot → ℕ → ℕ → Bool
agree_by image pool p c front back = agree p c (same_bytes 256 (reads_now image pool p c front back) (reads_copied image pool p c front back))

-- is the same of what is the same
pub agree-as : (image pool : List ℕ) (p q c d : Slot) (f g b k : ℕ) → p ≡ q → c ≡ d → f ≡ g → b ≡ k → agree_by image pool p c f b ≡ agree_by image pool q d g k
agree-as image pool p q c d f g b k same-p same-c same-f same-b = rw (same-p, same-c, same-f, same-b)
