-- The slots of well formed areas have no more areas than these: row 14 never meets a sound state's own slots.
use Prim.Native.Nat.{ℕ, zero, suc, ◌+◌, ◌-◌, ◌≤◌, ◌<◌}
use mathlib.Core.Path.{◌≡◌, refl, sym, ◌∙◌, ap}
use mathlib.Core.Bool.{Bool, true, false, false≢true}
use native.Mathlib.Omega.{arith}
use lib.Dec.{ltb, eqb}
use lib.ListN.{get_or}
use borrow.Author.Tests.{ltb-true, ltb-false, lt-ltb, le-ltb, eqb-true, eqb-false, eq-eqb, not-true}
use Rattle.basics.specs.Ranges.{count}
use Rattle.basics.proofs.TestLaws.{by_cases, and_left, and_right, same_of}
use Rattle.basics.proofs.RangeLaws.{inside-first, inside-end, inside-yes, inside_past}
use Rattle.basics.proofs.CountLaws.{count_small, count-le, count_less}
use Rattle.interface.specs.declared.page.Backing.{Backing}
use Rattle.interface.specs.declared.page.Backing.TheVariants.{Anonymous, Image}
use Rattle.interface.specs.Slots.{is_mapped, advance, follows, joins, starts_area, areas}
use Rattle.areas.specs.declared.area.Area.{Area}
use Rattle.areas.specs.declared.area.Areas.{Areas}
use Rattle.areas.specs.Areas.{none, covers, slot_of, slots}
use Rattle.areas.specs.Formed.{WellFormed}
use Rattle.areas.proofs.FormedLaws.{order}
use Rattle.areas.proofs.SlotLaws.{covers-none, Found, found, slot-hit}

-- neighbouring pages of one area join
follows_next : (b : Backing) (d e : ℕ) → e ≡ d + 1 → follows (advance b d) 1 (advance b e) ≡ true
unfolding follows
follows_next Anonymous d e h = refl
follows_next (Image first) d e h = eq-eqb (first.0 + d + 1) (first.0 + e) (omega arith)

pub joins-next : (a : Area) (n : ℕ) → a.first.0 ≤ n → joins (slot_of a n) (slot_of a (suc n)) ≡ true
unfolding joins
joins-next a n l =
    rw (eq-eqb a.rights a.rights refl, same_of a.committed a.committed refl)
    (follows_next a.backing (n - a.first.0) (suc n - a.first.0) (omega arith))

module _ (images : ℕ) (s : Areas) (w : WellFormed images s) where
  abbrev at : ℕ → Area
  at k = get_or s.list k none

  -- a mapped page lies in one of the areas
  pub area_of : (n : ℕ) → is_mapped (slots s n) ≡ true → (r : Found s.list n) × (r.place < s.count)
  area_of n e =
      let r = found s.list n e in (
        r,
        by_cases (ltb r.place s.count) (λ t. ltb-true r.place s.count t)
            (λ t. let z : at r.place ≡ none = w.rest r.place (ltb-false r.place s.count t) in
            absurd (false≢true (sym (covers-none n) ∙ ap (λ (a : Area). covers a n) (sym z) ∙ r.covered))),
      )

  -- an area says what stands at its pages
  pub area-slot : (n k : ℕ) → k < s.count → (at k).first.0 ≤ n → n < (at k).first.0 + (at k).pages → slots s n ≡ slot_of (at k) n
  area-slot n k l f d =
      slot-hit s.list n k (inside-yes (at k).first.0 (at k).pages n f d)
      (λ j b. inside_past (at j).first.0 (at j).pages n (omega (arith, order images s w j k b l)))

  -- a page of an area that starts before it joins the page before
  joins-before : (n k : ℕ) → k < s.count → covers (at k) (suc n) ≡ true → slot_of (at k) (suc n) ≡ slots s (suc n) → (at k).first.0 ≤ n
      → joins (slots s n) (slots s (suc n)) ≡ true
  joins-before n k l c g f =
      rw (area-slot n k l f (omega (arith, inside-end (at k).first.0 (at k).pages (suc n) c)), ← g) (joins-next (at k) n f)

  -- where an area starts, one of the areas has its first page
  start_first : (n : ℕ) → starts_area (slots s) n ≡ true → (k : ℕ) × (k < s.count) × ((at k).first.0 ≡ n)
  start_first zero e =
      let r = area_of 0 (and_left (is_mapped (slots s 0)) _ e) in
      (r.0.place, r.1, omega (arith, inside-first (at r.0.place).first.0 (at r.0.place).pages 0 r.0.covered))
  start_first (suc n) e =
      let r = area_of (suc n) (and_left (is_mapped (slots s (suc n))) _ e) in
      let k : ℕ = r.0.place in
      let f = inside-first (at k).first.0 (at k).pages (suc n) r.0.covered in (
        k,
        r.1,
        by_cases (eqb (at k).first.0 (suc n)) (λ t. eqb-true (at k).first.0 (suc n) t)
            (λ t. let j = joins-before n k r.1 r.0.covered r.0.gives (omega (arith, f, eqb-false (at k).first.0 (suc n) t)) in
            let z : joins (slots s n) (slots s (suc n)) ≡ false = not-true _ (and_right (is_mapped (slots s (suc n))) _ e) in
            absurd (false≢true (sym z ∙ j))),
      )

  -- the areas that start before page n
  abbrev firsts : ℕ → ℕ → Bool
  firsts n k = ltb (at k).first.0 n

  firsts-up : (n i : ℕ) → firsts n i ≡ true → firsts (suc n) i ≡ true
  firsts-up n i e = lt-ltb (at i).first.0 (suc n) (omega (arith, ltb-true (at i).first.0 n e))

  starts-most : (n : ℕ) → count (starts_area (slots s)) n ≤ count (firsts n) s.count
  unfolding count
  starts-most zero = omega arith
  starts-most (suc n) =
      by_cases (starts_area (slots s) n)
      (λ e. let k = start_first n e in
      rw e (omega (
        arith,
        starts-most n,
        count_less (firsts n) (firsts (suc n)) s.count k.0 (firsts-up n) k.1 (le-ltb (at k.0).first.0 n (omega (arith, k.2)))
            (lt-ltb (at k.0).first.0 (suc n) (omega (arith, k.2))),
      )))
      (λ e. rw e (omega (arith, starts-most n, count-le (firsts n) (firsts (suc n)) s.count (firsts-up n))))

  pub few-areas : areas (slots s) ≤ 8
  unfolding areas
  few-areas = omega (arith, starts-most 64, count_small (firsts 64) s.count, w.few)
