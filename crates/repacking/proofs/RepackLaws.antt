-- Laws of areas packed anew: what a change makes of the pages that it changes, and the pages before them, these and those behind them put together.
use Prim.Native.Nat.{ℕ, ◌+◌, ◌-◌, ◌≤◌, min}
use mathlib.Core.Path.{◌≡◌, refl, sym, ◌∙◌, ap}
use native.Mathlib.Omega.{arith}
use Rattle.basics.proofs.RangeLaws.{inside-yes, inside-below, inside_past, over-in, over-out}
use Rattle.interface.specs.declared.page.Attributes.{Attributes}
use Rattle.interface.specs.declared.page.Slot.{Slot}
use Rattle.interface.specs.declared.page.Slot.TheVariants.{Unmapped, Mapped}
use Rattle.interface.specs.Slots.{Slots, with_rights, with_committed}
use Rattle.area_parts.specs.declared.Update.TheVariants.{Keep, Rights, Commit as Committed}
use Rattle.area_parts.specs.Parts.{area_from, updated}
use Rattle.packing.specs.declared.pack.Packed.{Packed}
use Rattle.packing.specs.declared.pack.Change.{Change}
use Rattle.packing.specs.declared.pack.Change.TheVariants.{Map, Unmap, Protect, Commit}
use Rattle.packing.specs.Pack.{start, pack, change_at, changed}
use Rattle.packing.specs.ByAreas.{pack_on, Ready, push_area}
use Rattle.packing.proofs.RunLaws.{pack-start, pack-split, pack-alike, pack-gap, ready-start, ready_on, run}

-- ---- what becomes of a slot

updated-keep : (s : Slot) → updated Keep s ≡ s
updated-keep Unmapped = refl
updated-keep (Mapped t) = refl

updated-rights : (r : ℕ) (s : Slot) → updated (Rights r) s ≡ with_rights r s
updated-rights r Unmapped = refl
updated-rights r (Mapped t) = refl

updated-commit : (s : Slot) → updated Committed s ≡ with_committed s
updated-commit Unmapped = refl
updated-commit (Mapped t) = refl

-- ---- the pages that a change changes, by the change

module _ (b : Packed) (f : Slots) (from n : ℕ) (c : Change) where
  abbrev Changed : Packed → Type 0
  Changed r = r ≡ pack_on b (λ i. change_at c (i - from) (f i)) from n

  pub change-map : Ready b from → (t : Attributes) → c ≡ Map t → (r : Packed) → r ≡ push_area b (area_from from n t) → Changed r
  change-map ready t e r h = h ∙ sym (run b (λ i. change_at c (i - from) (f i)) from n t ready (λ i l u. rw e))

  pub change-unmap : c ≡ Unmap → Changed b
  change-unmap e = sym (pack-gap b (λ i. change_at c (i - from) (f i)) from n (λ i l u. rw e))

  pub change-protect : (rights : ℕ) → c ≡ Protect rights → (r : Packed) → r ≡ pack_on b (λ i. updated (Rights rights) (f i)) from n → Changed r
  change-protect rights e r h = h ∙ pack-alike b _ _ from n (λ i l u. rw e (updated-rights rights (f i)))

  pub change-commit : c ≡ Commit → (r : Packed) → r ≡ pack_on b (λ i. updated Committed (f i)) from n → Changed r
  change-commit e r h = h ∙ pack-alike b _ _ from n (λ i l u. rw e (updated-commit (f i)))

-- ---- one stretch of pages behind the other

pub ready-up-to : (q : Packed) (f : Slots) (to : ℕ) → q ≡ pack_on start f 0 to → Ready q to
ready-up-to q f to e = let h : 0 + to ≡ to = omega arith in rw e (rw h at (ready_on start f 0 to ready-start))

pub ready-reached : (b q : Packed) (f : Slots) (from to : ℕ) → from ≤ to → Ready b from → q ≡ pack_on b f from (to - from) → Ready q to
ready-reached b q f from to l r e =
    let h : from + (to - from) ≡ to = omega arith in
    rw e (rw h at (ready_on b f from (to - from) r))

module _ (f : Slots) (first n : ℕ) (c : Change) (from to : ℕ) (starts : from ≡ min first 64) (ends : to ≡ min (first + n) 64) where
  abbrev g : Slots
  g = changed f first n c

  three : pack g ≡ pack_on (pack_on (pack_on start g 0 from) g from (to - from)) g to (64 - to)
  three =
      let e : 64 ≡ from + (to - from + (64 - to)) = omega arith in
      let h : 0 + from ≡ from = omega arith in
      let k : from + (to - from) ≡ to = omega arith in
      pack-start g 64 ∙ ap (pack_on start g 0) e ∙ pack-split start g 0 from (to - from + (64 - to))
      ∙ rw (h, pack-split (pack_on start g 0 from) g from (to - from) (64 - to), k)

  pub repack-all : (p q r : Packed) → p ≡ pack_on start (λ i. updated Keep (f i)) 0 from
      → q ≡ pack_on p (λ i. change_at c (i - from) (f i)) from (to - from) → r ≡ pack_on q (λ i. updated Keep (f i)) to (64 - to) → r ≡ pack g
  repack-all p q r hp hq hr =
      let before : p ≡ pack_on start g 0 from =
      hp
      ∙ pack-alike start _ g 0 from (λ i l u. updated-keep (f i) ∙ sym (over-out first n _ f i (inside-below first n i (omega arith)))) in
      let within : q ≡ pack_on p g from (to - from) =
      hq
      ∙ pack-alike p _ g from (to - from)
      (λ i l u. let k : from ≡ first = omega arith in rw k (sym (over-in first n _ f i (inside-yes first n i (omega arith) (omega arith))))) in
      let behind : r ≡ pack_on q g to (64 - to) =
      hr ∙ pack-alike q _ g to (64 - to) (λ i l u. updated-keep (f i) ∙ sym (over-out first n _ f i (inside_past first n i (omega arith)))) in
      behind ∙ rw (within, before) (sym three)
