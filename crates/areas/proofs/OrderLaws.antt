-- What well formed areas say of each page: slots in order, nothing mapped from page 64 on; and areas of which there are none.
use Prim.Native.Nat.{ℕ, suc, ◌-◌, ◌<◌}
use mathlib.Core.Path.{◌≡◌, refl, sym, ap, ◌∙◌, fun_ext}
use mathlib.Core.Bool.{true, false, false≢true}
use mathlib.Core.List.{List, [], ◌∷◌}
use native.Mathlib.Omega.{arith}
use native.Mathlib.Decide.{dec_lt}
use lib.Dec.{ltb}
use lib.ListN.{get_or, replicate}
use lib.Seq.{ext_get_or}
use borrow.Author.Tests.{ltb-true, ltb-false}
use Rattle.basics.proofs.TestLaws.{by_cases, when-cases, never}
use Rattle.basics.proofs.RangeLaws.{inside-first, inside-end, inside_past}
use Rattle.interface.specs.declared.page.Backing.{Backing}
use Rattle.interface.specs.declared.page.Backing.TheVariants.{Anonymous, Image}
use Rattle.interface.specs.declared.page.Slot.{Slot}
use Rattle.interface.specs.declared.page.Slot.TheVariants.{Unmapped, Mapped}
use Rattle.interface.specs.Slots.{is_mapped, advance, backing_at}
use Rattle.interface.proofs.SlotLaws.{Inside}
use Rattle.areas.specs.declared.area.Area.{Area}
use Rattle.areas.specs.declared.area.Areas.{Areas}
use Rattle.areas.specs.Areas.{none, empty, covers, slot_of, slot_in, slots, Bounded}
use Rattle.areas.specs.Formed.{ImagesExist, Proper, WellFormed}
use Rattle.areas.specs.Order.{InOrder, AllInOrder}
use Rattle.areas.proofs.SlotLaws.{covers-none, slot-past, empty-place}

-- the image page so many pages on exists
pub images-one : (images : ℕ) (b : Backing) (n d : ℕ) → d < n → ImagesExist images b n → ImagesExist images (advance b d) 1
images-one images Anonymous n d k h = tt
images-one images (Image first) n d k h = omega arith

-- a place holds a proper area, or covers no page
pub place-cases : (images : ℕ) (s : Areas) → WellFormed images s → (P : Area → Type 0) (k : ℕ)
    → ((a : Area) → Proper images a → P a) → P none → P (get_or s.list k none)
place-cases images s w P k area gap = go (dec_lt k s.count)
  where
    go : Dec (k < s.count) → P (get_or s.list k none)
    go (yes e) = area (get_or s.list k none) (w.each k e)
    go (no e) = rw (w.rest k (omega arith)) gap

list-order : (images : ℕ) (l : List Area) (page : ℕ) → ((k : ℕ) → covers (get_or l k none) page ≡ true → InOrder images (slot_of (get_or l k none) page))
    → InOrder images (slot_in l page)
unfolding slot_in
list-order images [] page h = tt
list-order images (a ∷ l) page h = when-cases (InOrder images) (covers a page) (h 0) (λ e. list-order images l page (λ k. h (suc k)))

module _ (images : ℕ) (s : Areas) (w : WellFormed images s) where
  pub slots-order : AllInOrder images (slots s)
  unfolding AllInOrder
  slots-order page =
      list-order images s.list page
      (λ k. place-cases images s w (λ a. covers a page ≡ true → InOrder images (slot_of a page)) k
      (λ a p c. record {
        rights = p.rights;
        image =
            images-one images a.backing a.pages (page - a.first.0)
            (omega (arith, inside-first a.first.0 a.pages page c, inside-end a.first.0 a.pages page c)) p.image;
      })
      (λ c. absurd (false≢true (sym (covers-none page) ∙ c))))

  pub slots-bounded : Bounded (slots s)
  unfolding Bounded
  slots-bounded page h =
      slot-past s.list page
      (λ k. place-cases images s w (λ a. covers a page ≡ false) k
      (λ a p. inside_past a.first.0 a.pages page (omega (arith, p.inside))) (covers-none page))

-- the image page behind a page exists
pub order-image : (images : ℕ) (s : Slot) → InOrder images s → ImagesExist images (backing_at s) 1
order-image images Unmapped h = tt
order-image images (Mapped t) h = h.image

-- ---- no areas

-- well formed areas of which there are none are the empty ones
pub formed-empty : (images : ℕ) (s : Areas) → WellFormed images s → s.count ≡ 0 → s ≡ empty
formed-empty images s w e =
    λ i. record { count = e i; list = ext_get_or none s.list (replicate 8 none) w.eight (λ k h. w.rest k (omega arith) ∙ sym (empty-place 8 k)) i }

-- and the empty ones are well formed
pub empty-formed : (images : ℕ) → WellFormed images empty
empty-formed images =
    record {
      eight = refl;
      few = omega arith;
      each = λ k d. absurd (omega arith);
      apart = λ k d. absurd (omega arith);
      rest = λ k d. empty-place 8 k;
    }

-- and map no page
pub none-slots : slots empty ≡ (λ i. Unmapped)
none-slots = fun_ext (λ i. slot-past (replicate 8 none) i (λ k. rw (empty-place 8 k) (covers-none i)))

-- "lie in 0 to 63": no page past 63 is mapped
pub slots-inside : (images : ℕ) (a : Areas) → WellFormed images a → Inside (slots a)
unfolding Bounded
slots-inside images a f i m =
    by_cases (ltb i 64) (ltb-true i 64) (λ l. never (is_mapped (slots a i)) m (ap is_mapped (slots-bounded images a f i (ltb-false i 64 l))))
