-- Packed areas say the slots that they were packed from, and fit where the slots have at most 8 areas.
use Prim.Native.Nat.{ℕ, zero, suc, ◌+◌, ◌-◌, ◌≤◌, ◌<◌}
use mathlib.Core.Path.{◌≡◌, refl, sym, ◌∙◌, fun_ext}
use mathlib.Core.Bool.{Bool, true, false, false≢true}
use mathlib.Core.Logic.{◌⊎◌, inl, inr, ⊎_elim}
use native.Mathlib.Omega.{arith}
use native.Mathlib.Nat.{add-zero}
use native.Mathlib.Decide.{ℕ_discrete, dec_lt}
use lib.Dec.{leb}
use lib.ListN.{length, get_or, length-set}
use lib.Seq.{get_or-set_same, get_or-set_other}
use borrow.Author.Tests.{ltb-false, leb-true, lt-ltb, le-leb, lt-leb}
use Rattle.basics.specs.Ranges.{count}
use Rattle.basics.proofs.RangeLaws.{inside-yes, inside-first, inside-end, inside-more}
use Rattle.interface.specs.declared.page.Attributes.{Attributes}
use Rattle.interface.specs.declared.page.Slot.{Slot}
use Rattle.interface.specs.declared.page.Slot.TheVariants.{Unmapped, Mapped}
use Rattle.interface.specs.Slots.{Slots, joins, previous, starts_area, areas}
use Rattle.areas.specs.declared.area.Areas.{Areas}
use Rattle.areas.specs.Areas.{none, empty, covers, slots, Bounded}
use Rattle.areas.specs.Formed.{goes_on, Apart}
use Rattle.areas.proofs.SlotLaws.{covers-none, slot-past, empty-place, set-alike, set-skip, set-hit, set-case}
use Rattle.packing.specs.declared.pack.Packed.{Packed}
use Rattle.packing.specs.Pack.{single, longer, last, continues, extended, added, push, pack_to, pack}
use Rattle.packing.proofs.PushLaws.{GoesOn, goes-longer, goes-single, slot-longer, slot-single, continues-some, continues-last, push-cases}

-- n pages of f packed with no area left out
pub record Fine (f : Slots) (n : ℕ) (s : Areas) : Type 0 where
  pub eight : length s.list ≡ 8
  pub few : s.count ≤ 8
  pub rest : (k : ℕ) → s.count ≤ k → get_or s.list k none ≡ none
  pub before : (page : ℕ) → page < n → slots s page ≡ f page
  pub after : (page : ℕ) → n ≤ page → slots s page ≡ Unmapped
  pub some : (k : ℕ) → k < s.count → 0 < (get_or s.list k none).pages
  pub end : (k : ℕ) → k < s.count → (get_or s.list k none).first.0 + (get_or s.list k none).pages ≤ n
  pub apart : (k : ℕ) → k + 1 < s.count → Apart (get_or s.list k none) (get_or s.list (k + 1) none)
  pub goes : (t : Attributes) → continues s n t ≡ joins (previous f n) (Mapped t)
  pub counted : s.count ≡ count (starts_area f) n

false_of : (v : Bool) → (v ≡ true → ⊥) → v ≡ false
false_of true h = absurd (h refl)
false_of false h = refl

covers-single : (n page : ℕ) (t : Attributes) → (page ≡ n → ⊥) → covers (single n t) page ≡ false
covers-single n page t d = false_of (covers (single n t) page) (λ e. d (omega (arith, inside-first n 1 page e, inside-end n 1 page e)))

module _ (f : Slots) (n : ℕ) (s : Areas) (w : Fine f n s) where
  -- each of the pages to n is n or before it
  split : (P : ℕ → Type 0) (page : ℕ) → page < suc n → (page ≡ n → P page) → (page < n → P page) → P page
  split P page h y m = go (ℕ_discrete page n)
    where
      go : Dec (page ≡ n) → P page
      go (yes e) = y e
      go (no d) = m (omega arith)

  -- a page that is not mapped

  fine-skip : f n ≡ Unmapped → Fine f (suc n) s
  unfolding joins count
  fine-skip e =
      record {
        eight = w.eight;
        few = w.few;
        rest = w.rest;
        before = λ p h. split (λ p. slots s p ≡ f p) p h (λ k. w.after p (omega arith) ∙ rw k (sym e)) (w.before p);
        after = λ p h. w.after p (omega arith);
        some = w.some;
        end = λ k h. omega (arith, w.end k h);
        apart = w.apart;
        goes = λ t. false_of (continues s (suc n) t)
            (λ h.
            omega (arith, (continues-last s (suc n) t h).end, continues-some s (suc n) t h, w.end (s.count - 1) (omega (arith, continues-some s (suc n) t h))))
            ∙ rw e;
        counted = w.counted ∙ rw (e, add-zero);
      }

  module _ (u : Attributes) (e : f n ≡ Mapped u) where
    -- a page that goes on where the last area ends

    module _ (h : continues s n u ≡ true) where
      abbrev k : ℕ
      k = s.count - 1

      kl : s.count - 1 < length s.list
      kl = omega (arith, w.eight, w.few, continues-some s n u h)

      g : GoesOn (last s) n u
      g = continues-last s n u h

      keep : (p : ℕ) → (p ≡ n → ⊥) → slots (extended s) p ≡ slots s p
      keep p d = set-alike s.list k (longer (last s)) p (inside-more (last s).first.0 (last s).pages p (λ q. d (q ∙ g.end))) refl

      fine-extend : Fine f (suc n) (extended s)
      unfolding count continues
      fine-extend =
          record {
            eight = length-set s.list k (longer (last s)) ∙ w.eight;
            few = w.few;
            rest = λ j d. get_or-set_other s.list k j (longer (last s)) none (λ q. omega (arith, continues-some s n u h)) ∙ w.rest j d;
            before = λ p d. split (λ p. slots (extended s) p ≡ f p) p d
                (λ q. rw (q, e)
                (set-hit s.list k (longer (last s)) n kl (w.after n (omega arith))
                (inside-yes (last s).first.0 ((last s).pages + 1) n (omega (arith, g.end)) (omega (arith, g.end)))
                ∙ slot-longer (last s) n u g))
                (λ q. keep p (λ z. omega arith) ∙ w.before p q);
            after = λ p d. keep p (λ q. omega arith) ∙ w.after p (omega arith);
            some = λ j d. set-case (λ x. 0 < x.pages) s.list k j (longer (last s)) kl (λ q. omega arith) (λ q. w.some j d);
            end = λ j d. set-case (λ x. x.first.0 + x.pages ≤ suc n) s.list k j (longer (last s)) kl
                (λ q. omega (arith, g.end)) (λ q. omega (arith, w.end j d));
            apart = λ j d.
                rw (get_or-set_other s.list k j (longer (last s)) none (λ q. omega arith))
                (set-case (λ x. Apart (get_or s.list j none) x) s.list k (j + 1) (longer (last s)) kl
                (λ q. let a : Apart (get_or s.list j none) (last s) = rw q at (w.apart j d) in
                record { after = a.after; longest = a.longest })
                (λ q. w.apart j d));
            goes = λ t. rw (lt-ltb 0 s.count (continues-some s n u h), get_or-set_same s.list k (longer (last s)) none kl, e)
                (goes-longer (last s) n u t g);
            counted = w.counted ∙ rw (e, ← w.goes u, h, add-zero);
          }

    -- a page that starts an area

    module _ (h : continues s n u ≡ false) (c : s.count < 8) where
      cl : s.count < length s.list
      cl = omega (arith, w.eight)

      keep-added : (p : ℕ) → (p ≡ n → ⊥) → slots (added s n u) p ≡ slots s p
      keep-added p d =
          set-skip s.list s.count (single n u) p (rw (w.rest s.count (omega arith)) (covers-none p)) (covers-single n p u d)

      stops : 0 < s.count → goes_on (last s) n u ≡ false
      unfolding continues
      stops k = rw (lt-ltb 0 s.count k) at h

      fine-add : Fine f (suc n) (added s n u)
      unfolding count continues
      fine-add =
          record {
            eight = length-set s.list s.count (single n u) ∙ w.eight;
            few = omega arith;
            rest = λ j d. get_or-set_other s.list s.count j (single n u) none (λ q. omega arith) ∙ w.rest j (omega arith);
            before = λ p d. split (λ p. slots (added s n u) p ≡ f p) p d
                (λ q. rw (q, e)
                (set-hit s.list s.count (single n u) n cl (w.after n (omega arith)) (inside-yes n 1 n (omega arith) (omega arith))
                ∙ slot-single n u))
                (λ q. keep-added p (λ z. omega arith) ∙ w.before p q);
            after = λ p d. keep-added p (λ q. omega arith) ∙ w.after p (omega arith);
            some = λ j d. set-case (λ x. 0 < x.pages) s.list s.count j (single n u) cl (λ q. omega arith) (λ q. w.some j (omega arith));
            end = λ j d. set-case (λ x. x.first.0 + x.pages ≤ suc n) s.list s.count j (single n u) cl
                (λ q. omega arith) (λ q. omega (arith, w.end j (omega arith)));
            apart = λ j d.
                rw (get_or-set_other s.list s.count j (single n u) none (λ q. omega arith))
                (set-case (λ x. Apart (get_or s.list j none) x) s.list s.count (j + 1) (single n u) cl
                (λ q. record {
                  after = w.end j (omega arith);
                  longest =
                      let r : j ≡ s.count - 1 = omega arith in
                      rw r (stops (omega arith));
                })
                (λ q. w.apart j (omega arith)));
            goes = λ t.
                let r : s.count + 1 - 1 ≡ s.count = omega arith in
                rw (lt-ltb 0 (s.count + 1) (omega arith), r, get_or-set_same s.list s.count (single n u) none cl, e)
                (goes-single n u t);
            counted = rw (e, ← w.goes u, h, w.counted);
          }

fine-start : (f : Slots) → Fine f 0 empty
unfolding count continues joins
fine-start f =
    record {
      eight = refl;
      few = omega arith;
      rest = λ k d. empty-place 8 k;
      before = λ p d. absurd (omega arith);
      after = λ p d. slot-past empty.list p (λ k. rw (empty-place 8 k) (covers-none p));
      some = λ k d. absurd (omega arith);
      end = λ k d. absurd (omega arith);
      apart = λ k d. absurd (omega arith);
      goes = λ t. refl;
      counted = refl;
    }

-- no area left out, or more areas than there is room for
Packs : Slots → ℕ → Packed → Type 0
Packs f n b = ((b.fits ≡ true) × Fine f n b.areas) ⊎ ((b.fits ≡ false) × (8 < count (starts_area f) n))

-- once an area is left out, it stays so
pub over-push : (b : Packed) (page : ℕ) (s : Slot) → b.fits ≡ false → (push b page s).fits ≡ false
over-push b page s h = push-cases (λ p. p.fits ≡ false) b page s (λ e. h) (λ t e c. h) (λ t e c l. h) (λ t e c l. refl)

fine-push : (f : Slots) (n : ℕ) (b : Packed) → b.fits ≡ true → Fine f n b.areas → Packs f (suc n) (push b n (f n))
unfolding Packs count
fine-push f n b h w =
    push-cases (Packs f (suc n)) b n (f n) (λ e. inl (h, fine-skip f n b.areas w e))
    (λ t e c. inl (h, fine-extend f n b.areas w t e c)) (λ t e c l. inl (h, fine-add f n b.areas w t e c l))
    (λ t e c l. inr (
      refl,
      let m : count (starts_area f) (suc n) ≡ count (starts_area f) n + 1 = rw (e, ← w.goes t, c) in
          omega (arith, ltb-false b.areas.count 8 l, w.counted, m),
    ))

packs : (f : Slots) (n : ℕ) → Packs f n (pack_to f n)
unfolding pack_to Packs count
packs f zero = inl (refl, fine-start f)
packs f (suc n) =
    ⊎_elim (λ w. fine-push f n (pack_to f n) w.0 w.1) (λ o. inr (over-push (pack_to f n) n (f n) o.0, omega (arith, o.1)))
    (packs f n)

-- ---- the laws

pub pack-fine : (f : Slots) (n : ℕ) → (pack_to f n).fits ≡ true → Fine f n (pack_to f n).areas
unfolding Packs
pack-fine f n h = ⊎_elim (λ w. w.1) (λ o. absurd (false≢true (sym o.0 ∙ h))) (packs f n)

-- "A sandbox has at most 8"
pub pack-fits : (f : Slots) → (pack f).fits ≡ leb (areas f) 8
unfolding Packs areas
pack-fits f =
    ⊎_elim (λ w. w.0 ∙ sym (le-leb (areas f) 8 (omega (arith, w.1.counted, w.1.few)))) (λ o. o.0 ∙ sym (lt-leb (areas f) 8 o.1))
    (packs f 64)

pub areas-fit : (f : Slots) → areas f ≤ 8 → (pack f).fits ≡ true
areas-fit f h = pack-fits f ∙ le-leb (areas f) 8 h

pub fit-areas : (f : Slots) → (pack f).fits ≡ true → areas f ≤ 8
fit-areas f h = leb-true (areas f) 8 (sym (pack-fits f) ∙ h)

-- packed areas say the slots that they were packed from
pub slots-pack : (f : Slots) → Bounded f → (pack f).fits ≡ true → slots (pack f).areas ≡ f
unfolding Bounded
slots-pack f b h = fun_ext (λ p. go p (dec_lt p 64))
  where
    go : (p : ℕ) → Dec (p < 64) → slots (pack f).areas p ≡ f p
    go p (yes e) = (pack-fine f 64 h).before p e
    go p (no e) = (pack-fine f 64 h).after p (omega arith) ∙ sym (b p (omega arith))
