-- Laws of a walk along well formed areas, from one to the next: what stands at the pages between them and at their own.
use Prim.Native.Nat.{ℕ, ◌+◌, ◌≤◌, ◌<◌}
use mathlib.Core.Path.{◌≡◌}
use mathlib.Core.Bool.{false}
use native.Mathlib.Omega.{arith}
use native.Mathlib.Decide.{dec_lt, ℕ_discrete}
use mathlib.Core.List.{List}
use lib.ListN.{length, get_or, take}
use Rattle.std.proofs.lemmas.List.{get_or-take, length-take-le}
use Rattle.basics.proofs.RangeLaws.{inside-yes, inside-below, inside_past}
use Rattle.interface.specs.declared.page.Slot.TheVariants.{Unmapped}
use Rattle.areas.specs.declared.area.Area.{Area}
use Rattle.areas.specs.declared.area.Areas.{Areas}
use Rattle.areas.specs.Areas.{none, covers, slot_of, slots, Near}
use Rattle.areas.specs.Formed.{WellFormed}
use Rattle.areas.specs.Walk.{Formed}
use Rattle.areas.proofs.SlotLaws.{covers-none, slot-past, slot-hit}
use Rattle.areas.proofs.FormedLaws.{near, order as formed-order}

-- what `near` is said of
pub settled : (images : ℕ) (s : Areas) → WellFormed images s → images ≤ 64 → Formed s
settled images s w g = record { images = images; few = g; formed = w }

-- the page at which the area of a place ends
abbrev pub end_of : Areas → ℕ → ℕ
end_of s k = (get_or s.list k none).first.0 + (get_or s.list k none).pages

-- a page at which the areas before a place have ended and the others have not begun
pub record Before (s : Areas) (place page : ℕ) : Type 0 where
  pub small : page ≤ 64
  pub passed : (j : ℕ) → j < place → end_of s j ≤ page
  pub ahead : (j : ℕ) → place ≤ j → j < s.count → page ≤ (get_or s.list j none).first.0

pub before-start : (s : Areas) → Before s 0 0
before-start s = record { small = omega arith; passed = λ j d. absurd (omega arith); ahead = λ j d l. omega arith }

module _ (s : Areas) (F : Formed s) where
  abbrev at : ℕ → Area
  at k = get_or s.list k none

  pub near-formed : Near s.list
  near-formed = near F.images s F.formed F.few

  -- an area ends before each later one starts
  pub order : (j k : ℕ) → j < k → k < s.count → end_of s j ≤ (at k).first.0
  order = formed-order F.images s F.formed

  -- the areas that it holds, place by place
  pub held-length : (l : List Area) → l ≡ take s.count s.list → length l ≡ s.count
  held-length l e = rw e (length-take-le s.count s.list (omega (arith, F.formed.eight, F.formed.few)))

  pub held-at : (l : List Area) → l ≡ take s.count s.list → (k : ℕ) → k < length l → get_or l k none ≡ at k
  held-at l e k d = rw e (get_or-take s.count s.list k none (omega (arith, held-length l e)))

  -- no area ends behind the last page
  pub end-small : (k : ℕ) → end_of s k ≤ 64
  end-small k = go (dec_lt k s.count)
    where
      go : Dec (k < s.count) → end_of s k ≤ 64
      go (yes d) = (F.formed.each k d).inside
      go (no d) = rw (F.formed.rest k (omega arith)) (omega arith)

  -- no area covers a page that lies behind those before a place and before the others
  pub between : (page place : ℕ) → ((j : ℕ) → j < place → end_of s j ≤ page) → ((j : ℕ) → place ≤ j → j < s.count → page < (at j).first.0)
      → slots s page ≡ Unmapped
  between page place passed ahead = slot-past s.list page (λ k. go k (dec_lt k place) (dec_lt k s.count))
    where
      go : (k : ℕ) → Dec (k < place) → Dec (k < s.count) → covers (at k) page ≡ false
      go k (yes d) e = inside_past _ _ page (passed k d)
      go k (no d) (yes e) = inside-below _ _ page (ahead k (omega arith) e)
      go k (no d) (no e) = rw (F.formed.rest k (omega arith)) (covers-none page)

  -- from area to area

  up_to : (k : ℕ) (P : ℕ → Type 0) → ((j : ℕ) → j < k → P j) → P k → (j : ℕ) → j < k + 1 → P j
  up_to k P h l j d = go (ℕ_discrete k j)
    where
      go : Dec (k ≡ j) → P j
      go (yes e) = rw e at l
      go (no e) = h j (omega arith)

  module _ (k page : ℕ) (b : Before s k page) where
    -- nothing is mapped from there to the area of the place
    pub before-gap : k < s.count → (i : ℕ) → page ≤ i → i < (at k).first.0 → slots s i ≡ Unmapped
    before-gap l i d u = between i k (λ j g. omega (arith, b.passed j g)) (λ j g m. later j g m (ℕ_discrete k j))
      where
        later : (j : ℕ) → k ≤ j → j < s.count → Dec (k ≡ j) → i < (at j).first.0
        later j g m (yes e) = rw e at u
        later j g m (no e) = omega (arith, order k j (omega arith) m)

    -- the area says what stands at its pages
    pub before-area : k < s.count → (i : ℕ) → (at k).first.0 ≤ i → i < end_of s k → slots s i ≡ slot_of (at k) i
    before-area l i d u =
        slot-hit s.list i k (inside-yes _ _ i d u) (λ j g. inside_past _ _ i (omega (arith, b.passed j g, b.ahead k (omega arith) l)))

    -- nothing is mapped from there on, where no area comes
    pub before_last : s.count ≤ k → (i : ℕ) → page ≤ i → slots s i ≡ Unmapped
    before_last l i d = between i k (λ j g. omega (arith, b.passed j g)) (λ j g m. absurd (omega arith))

    -- behind the area, and behind a place without one
    pub before-next : k < s.count → Before s (k + 1) (end_of s k)
    before-next l = record {
      small = (F.formed.each k l).inside;
      passed = up_to k (λ j. end_of s j ≤ end_of s k) (λ j g. omega (arith, b.passed j g, b.ahead k (omega arith) l)) (omega arith);
      ahead = λ j g m. order k j (omega arith) m;
    }

    pub before-none : s.count ≤ k → Before s (k + 1) page
    before-none l = record {
      small = b.small;
      passed = up_to k (λ j. end_of s j ≤ page) b.passed (rw (F.formed.rest k l) (omega arith));
      ahead = λ j g m. b.ahead j (omega arith) m;
    }
