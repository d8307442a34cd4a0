-- Well formed areas: the computed test says exactly what "A state is sound if" lists.
use Prim.Native.Nat.{ℕ, zero, suc, ◌+◌, ◌-◌, ◌≤◌, ◌<◌}
use mathlib.Core.Path.{◌≡◌, refl}
use mathlib.Core.Bool.{Bool, true, not, ◌&&◌, false≢true}
use native.Mathlib.Omega.{arith}
use native.Mathlib.Decide.{dec_lt}
use native.Mathlib.Numerals.{add-one}
use lib.Dec.{leb, ltb, eqb}
use lib.ListN.{length, get_or, get_or-eq_default}
use borrow.Author.Tests.{ltb-true, ltb-false, leb-true, eqb-true, eqb-false, lt-ltb, le-ltb, le-leb, eq-eqb, ne_eqb, not-true}
use Rattle.basics.specs.Choice.{implies}
use Rattle.basics.proofs.TestLaws.{by_cases, and_left, and_right, and-of, implied, implies-of}
use Rattle.basics.proofs.LoopLaws.{every-at, every_of}
use Rattle.interface.specs.declared.page.Backing.{Backing}
use Rattle.interface.specs.declared.page.Backing.TheVariants.{Anonymous, Image}
use Rattle.interface.specs.Limits.{rights_ok}
use Rattle.areas.specs.declared.area.Area.{Area}
use Rattle.areas.specs.declared.area.Areas.{Areas}
use Rattle.interface.specs.Slots.{start_of, is_anonymous}
use Rattle.areas.specs.Areas.{none, Near}
use Rattle.areas.specs.Formed.{ImagesExist, Proper, Apart, WellFormed, images_exist, proper, is_apart, is_none, place_ok, well_formed}

-- the test of an area

images-true : (images : ℕ) (b : Backing) (n : ℕ) → images_exist images b n ≡ true → ImagesExist images b n
images-true images Anonymous n h = tt
images-true images (Image first) n h = leb-true (first.0 + n) images h

images-of : (images : ℕ) (b : Backing) (n : ℕ) → ImagesExist images b n → images_exist images b n ≡ true
images-of images Anonymous n h = refl
images-of images (Image first) n h = le-leb (first.0 + n) images h

proper-true : (images : ℕ) (a : Area) → proper images a ≡ true → Proper images a
unfolding proper
proper-true images a h =
    let h₁ = and_right (not (eqb a.pages 0)) _ h in
    let h₂ = and_right (leb (a.first.0 + a.pages) 64) _ h₁ in
    record {
      some =
          let z = eqb-false a.pages 0 (not-true _ (and_left (not (eqb a.pages 0)) _ h)) in
          omega arith;
      inside = leb-true _ 64 (and_left (leb (a.first.0 + a.pages) 64) _ h₁);
      rights = and_left (rights_ok a.rights) _ h₂;
      image = images-true images a.backing a.pages (and_right (rights_ok a.rights) _ h₂);
    }

proper-of : (images : ℕ) (a : Area) → Proper images a → proper images a ≡ true
unfolding proper
proper-of images a h =
    rw (ne_eqb a.pages 0 (λ e. omega (arith, h.some)), le-leb (a.first.0 + a.pages) 64 h.inside)
    (and-of h.rights (images-of images a.backing a.pages h.image))

apart-true : (a b : Area) → is_apart a b ≡ true → Apart a b
unfolding is_apart
apart-true a b h =
    record {
      after = leb-true _ _ (and_left (leb (a.first.0 + a.pages) b.first.0) _ h);
      longest = not-true _ (and_right (leb (a.first.0 + a.pages) b.first.0) _ h);
    }

apart_of : (a b : Area) → Apart a b → is_apart a b ≡ true
unfolding is_apart
apart_of a b h = rw (le-leb _ _ h.after, h.longest)

anonymous-true : (b : Backing) → is_anonymous b ≡ true → b ≡ Anonymous
anonymous-true Anonymous h = refl
anonymous-true (Image first) h = absurd (false≢true h)

none_true : (a : Area) → is_none a ≡ true → a ≡ none
unfolding is_none
none_true a h =
    let h₁ = and_right (eqb a.first.0 0) _ h in
    let h₂ = and_right (eqb a.pages 0) _ h₁ in
    let h₃ = and_right (eqb a.rights 0) _ h₂ in
    λ i. record {
      first = record { 0 = eqb-true a.first.0 0 (and_left (eqb a.first.0 0) _ h) i };
      pages = eqb-true a.pages 0 (and_left (eqb a.pages 0) _ h₁) i;
      rights = eqb-true a.rights 0 (and_left (eqb a.rights 0) _ h₂) i;
      committed = not-true a.committed (and_left (not a.committed) _ h₃) i;
      backing = anonymous-true a.backing (and_right (not a.committed) _ h₃) i;
    }

none_of : (a : Area) → a ≡ none → is_none a ≡ true
unfolding is_none
none_of a h = rw h

-- the test of them all

module _ (images : ℕ) (s : Areas) where
  abbrev at : ℕ → Area
  at k = get_or s.list k none

  abbrev fitting : ℕ → Bool
  fitting k = implies (ltb 0 k) (is_apart (at (k - 1)) (at k))

  pub formed : well_formed images s ≡ true → WellFormed images s
  unfolding well_formed place_ok
  formed h =
      let h₁ = and_right (eqb (length s.list) 8) _ h in
      let eight : length s.list ≡ 8 = eqb-true _ 8 (and_left (eqb (length s.list) 8) _ h) in
      let few : s.count ≤ 8 = leb-true _ 8 (and_left (leb s.count 8) _ h₁) in
      let place : (k : ℕ) → k < 8 → place_ok images s k ≡ true =
      λ k d. every-at (place_ok images s) 0 8 (and_right (leb s.count 8) _ h₁) k (omega arith) (omega arith) in
      let area : (k : ℕ) → k < s.count → (proper images (at k) && fitting k) ≡ true = λ k d. rw (lt-ltb k s.count d) at (place k (omega arith)) in
      record {
        eight = eight;
        few = few;
        each = λ k d. proper-true images (at k) (and_left (proper images (at k)) (fitting k) (area k d));
        apart = λ k d.
            let e : k + 1 - 1 ≡ k = omega arith in
            apart-true (at k) (at (k + 1))
            (rw e at
            (implied (ltb 0 (k + 1)) _ (and_right (proper images (at (k + 1))) (fitting (k + 1)) (area (k + 1) d))
            (lt-ltb 0 (k + 1) (omega arith))));
        rest = λ k d. past k d (dec_lt k 8) eight place;
      }
    where
      past : (k : ℕ) → s.count ≤ k → Dec (k < 8) → length s.list ≡ 8 → ((k : ℕ) → k < 8 → place_ok images s k ≡ true) → at k ≡ none
      past k d (yes l) eight place = none_true (at k) (rw (le-ltb k s.count d) at (place k l))
      past k d (no l) eight place = get_or-eq_default s.list none {n = k} (omega arith)

  pub formed-of : WellFormed images s → well_formed images s ≡ true
  unfolding well_formed place_ok
  formed-of w =
      rw (eq-eqb _ 8 w.eight, le-leb _ 8 w.few)
      (every_of (place_ok images s) 0 8 (λ k a d. by_cases (ltb k s.count)
      (λ e. rw e (and-of (proper-of images (at k) (w.each k (ltb-true k s.count e)))
      (implies-of (ltb 0 k) _ (λ z. apart_of (at (k - 1)) (at k) (behind k (ltb-true 0 k z) (ltb-true k s.count e))))))
      (λ e. rw e (none_of (at k) (w.rest k (ltb-false k s.count e))))))
    where
      behind : (k : ℕ) → 0 < k → k < s.count → Apart (at (k - 1)) (at k)
      behind k a d =
          let e : k - 1 + 1 ≡ k = omega arith in
          rw e at (w.apart (k - 1) (omega arith))

  start_small : (b : Backing) (n : ℕ) → ImagesExist images b n → start_of b ≤ images
  start_small Anonymous n h = omega arith
  start_small (Image first) n h = omega arith

  -- "The image .. is 0 to 64 pages"
  pub near : WellFormed images s → images ≤ 64 → Near s.list
  near w g = record { at = λ k h. in_use k (dec_lt k s.count) }
    where
      in_use : (k : ℕ) → Dec (k < s.count) → start_of (at k).backing ≤ 64
      in_use k (yes e) = omega (arith, start_small (at k).backing (at k).pages (w.each k e).image)
      in_use k (no e) = rw (w.rest k (omega arith)) (omega arith)

  -- an area ends before each later one starts
  pub order : WellFormed images s → (j k : ℕ) → j < k → k < s.count → (at j).first.0 + (at j).pages ≤ (at k).first.0
  order w j zero d l = absurd (omega arith)
  order w j (suc k) d l =
      let a = rw (add-one k) at (w.apart k (omega arith)) in
      by_cases (eqb j k) (λ t. rw (eqb-true j k t) a.after)
      (λ t. omega (arith, a.after, order w j k (omega (arith, eqb-false j k t)) (omega arith)))
