-- Well-formedness is kept: a sensible change keeps slots in order, and areas packed from such slots are well formed.
use Prim.Native.Nat.{ℕ, zero, suc, ◌+◌, ◌-◌, ◌≤◌, ◌<◌}
use mathlib.Core.Path.{◌≡◌, sym, ◌∙◌}
use mathlib.Core.Bool.{true, false≢true}
use native.Mathlib.Omega.{arith}
use lib.ListN.{get_or}
use Rattle.basics.proofs.TestLaws.{by_cases}
use Rattle.basics.proofs.RangeLaws.{inside-first, inside-end, inside_past, over-cases, over-out}
use Rattle.interface.specs.declared.page.Backing.{Backing}
use Rattle.interface.specs.declared.page.Backing.TheVariants.{Anonymous, Image}
use Rattle.interface.specs.declared.page.Attributes.{Attributes}
use Rattle.interface.specs.declared.page.Slot.{Slot}
use Rattle.interface.specs.declared.page.Slot.TheVariants.{Unmapped, Mapped}
use Rattle.interface.specs.Slots.{Slots, advance}
use Rattle.interface.specs.Limits.{rights_ok}
use Rattle.areas.specs.declared.area.Area.{Area}
use Rattle.areas.specs.declared.area.Areas.{Areas}
use Rattle.areas.specs.Areas.{none, slots, Bounded}
use Rattle.areas.specs.Formed.{ImagesExist, WellFormed}
use Rattle.areas.specs.Order.{Sensible, InOrder, AllInOrder}
use Rattle.areas.proofs.SlotLaws.{set-case}
use Rattle.areas.proofs.OrderLaws.{images-one, slots-order, slots-bounded}
use Rattle.areas.proofs.FewAreas.{few-areas}
use Rattle.areas.proofs.ToldLaws.{slots-tell}
use Rattle.packing.specs.declared.pack.Packed.{Packed}
use Rattle.packing.specs.declared.pack.Change.{Change}
use Rattle.packing.specs.declared.pack.Change.TheVariants.{Map, Unmap, Protect, Commit}
use Rattle.packing.specs.Pack.{single, longer, last, push, pack_to, pack, change_at, changed}
use Rattle.packing.specs.Order.{SensibleChange}
use Rattle.packing.proofs.PushLaws.{GoesOn, continues-some, continues-last, push-cases}
use Rattle.packing.proofs.PackLaws.{Fine, pack-fine, over-push, areas-fit, slots-pack}

-- ---- what every packed area has

fits-before : (f : Slots) (n : ℕ) → (pack_to f (suc n)).fits ≡ true → (pack_to f n).fits ≡ true
unfolding pack_to
fits-before f n h =
    by_cases (pack_to f n).fits (λ e. e) (λ e. absurd (false≢true (sym (over-push (pack_to f n) n (f n) e) ∙ h)))

module _ (Q : Area → Type 0) (f : Slots) (alone : (n : ℕ) (t : Attributes) → f n ≡ Mapped t → Q (single n t))
    (joined : (a : Area) (n : ℕ) (t : Attributes) → f n ≡ Mapped t → GoesOn a n t → Q a → Q (longer a)) where
  each_step : (n : ℕ) (b : Packed) → Fine f n b.areas → ((k : ℕ) → k < b.areas.count → Q (get_or b.areas.list k none))
      → (k : ℕ) → k < (push b n (f n)).areas.count → Q (get_or (push b n (f n)).areas.list k none)
  each_step n b w q =
      push-cases (λ p. (k : ℕ) → k < p.areas.count → Q (get_or p.areas.list k none)) b n (f n) (λ e. q)
      (λ t e c k d. set-case Q b.areas.list (b.areas.count - 1) k (longer (last b.areas))
      (omega (arith, w.eight, w.few, continues-some b.areas n t c))
      (λ z. joined (last b.areas) n t e (continues-last b.areas n t c) (q (b.areas.count - 1) (omega (arith, continues-some b.areas n t c))))
      (λ z. q k d))
      (λ t e c l k d. set-case Q b.areas.list b.areas.count k (single n t) (omega (arith, w.eight)) (λ z. alone n t e) (λ z. q k (omega arith)))
      (λ t e c l. q)

  pack-each : (n : ℕ) → (pack_to f n).fits ≡ true → (k : ℕ) → k < (pack_to f n).areas.count → Q (get_or (pack_to f n).areas.list k none)
  unfolding pack_to
  pack-each zero h k d = absurd (omega arith)
  pack-each (suc n) h k d =
      each_step n (pack_to f n) (pack-fine f n (fits-before f n h)) (pack-each n (fits-before f n h)) k d

images-more : (images : ℕ) (b : Backing) (n : ℕ) → ImagesExist images (advance b n) 1 → ImagesExist images b (n + 1)
images-more images Anonymous n h = tt
images-more images (Image first) n h = omega arith

-- areas packed from slots in order are well formed
pub pack-formed : (images : ℕ) (f : Slots) → AllInOrder images f → (pack f).fits ≡ true → WellFormed images (pack f).areas
unfolding AllInOrder
pack-formed images f o h =
    let w : Fine f 64 (pack f).areas = pack-fine f 64 h in
    let at : (n : ℕ) (t : Attributes) → f n ≡ Mapped t → Sensible images 1 t = λ n t e. rw e at (o n) in
    let r = pack-each (λ a. rights_ok a.rights ≡ true) f (λ n t e. (at n t e).rights) (λ a n t e g q. q) 64 h in
    let i = pack-each (λ a. ImagesExist images a.backing a.pages) f (λ n t e. (at n t e).image)
    (λ a n t e g q. images-more images a.backing a.pages (rw g.backing (at n t e).image)) 64 h in
    record {
      eight = w.eight;
      few = w.few;
      each = λ k d. record { some = w.some k d; inside = w.end k d; rights = r k d; image = i k d };
      apart = w.apart;
      rest = w.rest;
    }

-- ---- a change

-- a change within the 64 pages
pub changed-bounded : (f : Slots) (first n : ℕ) (c : Change) → first + n ≤ 64 → Bounded f → Bounded (changed f first n c)
unfolding Bounded
changed-bounded f first n c h b page d = over-out first n (λ i. change_at c (i - first) (f i)) f page (inside_past first n page (omega arith)) ∙ b page d

change-order : (images n d : ℕ) (c : Change) (s : Slot) → d < n → SensibleChange images n c → InOrder images s → InOrder images (change_at c d s)
change-order images n d (Map t) s k g h = record { rights = g.rights; image = images-one images t.backing n d k g.image }
change-order images n d Unmap s k g h = tt
change-order images n d (Protect r) Unmapped k g h = tt
change-order images n d (Protect r) (Mapped t) k g h = record { rights = g; image = h.image }
change-order images n d Commit Unmapped k g h = tt
change-order images n d Commit (Mapped t) k g h = record { rights = h.rights; image = h.image }

pub changed-order : (images : ℕ) (f : Slots) (first n : ℕ) (c : Change) → SensibleChange images n c → AllInOrder images f
    → AllInOrder images (changed f first n c)
unfolding AllInOrder
changed-order images f first n c g o page =
    over-cases (InOrder images) first n (λ i. change_at c (i - first) (f i)) f page
    (λ e. change-order images n (page - first) c (f page) (omega (arith, inside-first first n page e, inside-end first n page e)) g (o page))
    (o page)

-- ---- well formed areas, changed within the 64 pages and packed anew

module _ (images : ℕ) (s : Areas) (w : WellFormed images s) (first n : ℕ) (c : Change) (fits : (pack (changed (slots s) first n c)).fits ≡ true) where
  pub repack-formed : SensibleChange images n c → WellFormed images (pack (changed (slots s) first n c)).areas
  repack-formed g =
      pack-formed images (changed (slots s) first n c) (changed-order images (slots s) first n c g (slots-order images s w)) fits

  pub repack-slots : first + n ≤ 64 → slots (pack (changed (slots s) first n c)).areas ≡ changed (slots s) first n c
  repack-slots h = slots-pack (changed (slots s) first n c) (changed-bounded (slots s) first n c h (slots-bounded images s w)) fits

-- well formed areas are told by what they say of each page, so packing that gives them again
pub pack-slots : (images : ℕ) (s : Areas) → WellFormed images s → (pack (slots s)).areas ≡ s
pack-slots images s w =
    let fits : (pack (slots s)).fits ≡ true = areas-fit (slots s) (few-areas images s w) in
    slots-tell images (pack (slots s)).areas s (pack-formed images (slots s) (slots-order images s w) fits) w
    (slots-pack (slots s) (slots-bounded images s w) fits)
