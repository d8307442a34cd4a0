-- Well formed areas are the areas of their slots: the lines page by page are the lines area by area.
use Prim.Native.Nat.{ℕ, zero, suc, ◌+◌, ◌-◌, ◌≤◌, ◌<◌}
use mathlib.Core.Path.{◌≡◌, refl, sym, ap, ap₂, ◌∙◌}
use mathlib.Core.Bool.{Bool, true, false, ◌&&◌}
use mathlib.Core.List.{List, [], ◌++◌, append-nil}
use native.Mathlib.Omega.{arith}
use native.Mathlib.Decide.{dec_lt, ℕ_discrete}
use native.Mathlib.Numerals.{add-one}
use lib.Dec.{ltb, eqb}
use lib.ListN.{get_or}
use borrow.Author.Tests.{eqb-true, eq-eqb, ne_eqb, ltb-true, ltb-false, eqb-false}
use Rattle.basics.specs.Choice.{same}
use Rattle.basics.proofs.TestLaws.{by_cases, and-of, same_of, and-not-right}
use Rattle.basics.proofs.RangeLaws.{inside-yes, inside_past}
use Rattle.interface.specs.declared.page.Backing.{Backing}
use Rattle.interface.specs.declared.page.Backing.TheVariants.{Anonymous, Image}
use Rattle.interface.specs.Slots.{Slots, is_mapped, rights_at, backing_at, advance, follows, joins, previous, starts_area}
use Rattle.areas.specs.declared.area.Area.{Area}
use Rattle.areas.specs.declared.area.Areas.{Areas}
use Rattle.areas.specs.Areas.{none, attributes_of, slot_of, slots}
use Rattle.areas.specs.Formed.{goes_on}
use Rattle.areas.specs.Walk.{Formed}
use Rattle.areas.proofs.SlotLaws.{slot-hit}
use Rattle.areas.proofs.WalkLaws.{end_of, order, between}
use Rattle.archive.specs.Archive.{joined, only, end_from, pages_from, map_at, maps, protect_at, protects}
use Rattle.archive.proofs.RunLaws.{end_on, end-here, end-past, none-joins, joins-none, advance-none}
use Rattle.segments.specs.ByAreas.{maps_at, protects_at}

-- ---- neighbouring pages

follows_next : (b : Backing) (d e : ℕ) → e ≡ d + 1 → follows (advance b d) 1 (advance b e) ≡ true
unfolding follows
follows_next Anonymous d e h = refl
follows_next (Image first) d e h = eq-eqb (first.0 + d + 1) (first.0 + e) (omega arith)

joins-next : (a : Area) (n : ℕ) → a.first.0 ≤ n → joins (slot_of a n) (slot_of a (suc n)) ≡ true
unfolding joins
joins-next a n l =
    and-of (eq-eqb a.rights a.rights refl)
    (and-of (same_of a.committed a.committed refl) (follows_next a.backing (n - a.first.0) (suc n - a.first.0) (omega arith)))

follows-far : (b c : Backing) (d e n : ℕ) → d + 1 ≡ n → e ≡ 0 → follows (advance b d) 1 (advance c e) ≡ follows b n c
unfolding follows
follows-far Anonymous Anonymous d e n h z = refl
follows-far Anonymous (Image q) d e n h z = refl
follows-far (Image p) Anonymous d e n h z = refl
follows-far (Image p) (Image q) d e n h z =
    let x : p.0 + d + 1 ≡ p.0 + n = omega arith in
    let y : q.0 + e ≡ q.0 = omega arith in
    ap₂ eqb x y

-- the last page of an area and the first of the next do not join
apart-pages : (a b : Area) (n : ℕ) → 0 < a.pages → a.first.0 + a.pages ≡ suc n → b.first.0 ≡ suc n → goes_on a b.first.0 (attributes_of b) ≡ false
    → joins (slot_of a n) (slot_of b (suc n)) ≡ false
unfolding goes_on joins
apart-pages a b n some h k e =
    let here : eqb (a.first.0 + a.pages) b.first.0 ≡ true = eq-eqb (a.first.0 + a.pages) b.first.0 (h ∙ sym k) in
    let rest = and-not-right (eqb (a.first.0 + a.pages) b.first.0) _ e here in
    ap (λ (t : Bool). eqb a.rights b.rights && (same a.committed b.committed && t))
    (follows-far a.backing b.backing (n - a.first.0) (suc n - b.first.0) a.pages (omega arith) (omega arith)) ∙ rest

-- where each page up to e joins and e does not
end_is : (f : Slots) (n a : ℕ) → a + n ≤ 64 → ((i : ℕ) → a ≤ i → i < a + n → joins (previous f i) (f i) ≡ true)
    → (a + n < 64 → joins (previous f (a + n)) (f (a + n)) ≡ false) → end_from f a ≡ a + n
end_is f zero a l on off =
    let e : a + zero ≡ a = omega arith in
    rw e (by_cases (ltb a 64) (λ t. end-here f a (ltb-true a 64 t) (rw e at (off (omega (arith, ltb-true a 64 t))))) (λ t. end-past f a (ltb-false a 64 t)))
end_is f (suc n) a l on off =
    let e : a + 1 + n ≡ a + suc n = omega arith in
    end_on f a (omega arith) (on a (omega arith) (omega arith))
    ∙ end_is f n (a + 1) (omega arith) (λ i x y. on i (omega arith) (omega arith)) (λ x. rw e (off (omega arith))) ∙ e

module _ (s : Areas) (F : Formed s) where
  abbrev at : ℕ → Area
  at k = get_or s.list k none

  abbrev f : Slots
  f = slots s

  slot-in : (k i : ℕ) → k < s.count → (at k).first.0 ≤ i → i < end_of s k → f i ≡ slot_of (at k) i
  slot-in k i l a b =
      slot-hit s.list i k (inside-yes (at k).first.0 (at k).pages i a b)
      (λ j d. inside_past (at j).first.0 (at j).pages i (omega (arith, order s F j k d l)))

  -- no later area starts at or before a page before area k
  later : (k i : ℕ) → k < s.count → i < (at k).first.0 → (j : ℕ) → k ≤ j → j < s.count → i < (at j).first.0
  later k i l b j d m = go (ℕ_discrete k j)
    where
      go : Dec (k ≡ j) → i < (at j).first.0
      go (yes e) = rw e at b
      go (no e) = omega (arith, order s F k j (omega arith) m)

  -- the areas before end where the last of them ends
  earlier : (k i : ℕ) → k < s.count → end_of s k ≤ i → (j : ℕ) → j < suc k → end_of s j ≤ i
  earlier k i l b j d = go (ℕ_discrete k j)
    where
      go : Dec (k ≡ j) → end_of s j ≤ i
      go (yes e) = rw e at b
      go (no e) = omega (arith, order s F j k (omega arith) l)

  -- the first page of an area does not join the page before
  first-apart : (k n : ℕ) → k < s.count → (at k).first.0 ≡ n → joins (previous f n) (f n) ≡ false
  unfolding joins
  first-apart k zero l e = refl
  first-apart zero (suc n) l e =
      let none = between s F n 0 (λ j d. absurd (omega arith)) (later 0 n l (omega arith)) in
      joins-none (f n) (f (suc n)) (ap is_mapped none)
  first-apart (suc j) (suc n) l e =
      let ends : end_of s j ≤ suc n = omega (arith, order s F j (suc j) (omega arith) l) in
      by_cases (eqb (end_of s j) (suc n))
      (λ t. let meets : end_of s j ≡ suc n = eqb-true (end_of s j) (suc n) t in
      let p = F.formed.each j (omega arith) in
      let q = F.formed.each (suc j) l in
      let off = rw (add-one j) at (F.formed.apart j (omega arith)).longest in
      rw (slot-in j n (omega arith) (omega (arith, p.some)) (omega arith), slot-in (suc j) (suc n) l (omega arith) (omega (arith, q.some)))
      (apart-pages (at j) (at (suc j)) n p.some meets e off))
      (λ t. let before : end_of s j ≤ n = omega (arith, ends, eqb-false (end_of s j) (suc n) t) in
      let none = between s F n (suc j) (earlier j n (omega arith) before) (later (suc j) n l (omega arith)) in
      joins-none (f n) (f (suc n)) (ap is_mapped none))

  -- each further page of it does
  inside-joins : (k i : ℕ) → k < s.count → (at k).first.0 < i → i < end_of s k → joins (previous f i) (f i) ≡ true
  inside-joins k zero l a b = absurd (omega arith)
  inside-joins k (suc n) l a b = rw (slot-in k n l (omega arith) (omega arith), slot-in k (suc n) l (omega arith) b) (joins-next (at k) n (omega arith))

  -- and the page behind it does not
  end-off : (k : ℕ) → k < s.count → joins (previous f (end_of s k)) (f (end_of s k)) ≡ false
  end-off k l =
      by_cases (ltb (suc k) s.count)
      (λ t. let m = ltb-true (suc k) s.count t in
      let o = order s F k (suc k) (omega arith) m in
      by_cases (eqb (at (suc k)).first.0 (end_of s k))
      (λ e. first-apart (suc k) (end_of s k) m (eqb-true (at (suc k)).first.0 (end_of s k) e))
      (λ e. behind (later (suc k) (end_of s k) m (omega (arith, o, eqb-false (at (suc k)).first.0 (end_of s k) e)))))
      (λ t. behind (λ j d m. absurd (omega (arith, ltb-false (suc k) s.count t))))
    where
      behind : ((j : ℕ) → suc k ≤ j → j < s.count → end_of s k < (at j).first.0) → joins (previous f (end_of s k)) (f (end_of s k)) ≡ false
      behind h = none-joins (previous f (end_of s k)) (f (end_of s k)) (ap is_mapped (between s F (end_of s k) (suc k) (earlier k (end_of s k) l (omega arith)) h))

  pub area-end : (k : ℕ) → k < s.count → end_from f ((at k).first.0 + 1) ≡ end_of s k
  area-end k l =
      let p = F.formed.each k l in
      let e : (at k).first.0 + 1 + ((at k).pages - 1) ≡ end_of s k = omega (arith, p.some) in
      end_is f ((at k).pages - 1) ((at k).first.0 + 1) (omega (arith, p.inside, p.some))
      (λ i a b. inside-joins k i l (omega arith) (omega (arith, p.some))) (λ _. rw e (end-off k l)) ∙ e

  pub area-starts : (k : ℕ) → k < s.count → starts_area f (at k).first.0 ≡ true
  area-starts k l =
      let there = slot-in k (at k).first.0 l (omega arith) (omega (arith, (F.formed.each k l).some)) in
      let mapped : is_mapped (f (at k).first.0) ≡ true = rw there in
      rw (mapped, first-apart k (at k).first.0 l refl)

  inside-not : (k i : ℕ) → k < s.count → (at k).first.0 < i → i < end_of s k → starts_area f i ≡ false
  inside-not k i l a b = rw (inside-joins k i l a b) (and-never (is_mapped (f i)))
    where
      and-never : (b : Bool) → (b && false) ≡ false
      and-never true = refl
      and-never false = refl

-- ---- lists one behind the other

joined-run : {A : Type 0} (p : ℕ → List A) (a n : ℕ) → ((i : ℕ) → a ≤ i → i < a + n → p i ≡ []) → joined p (a + n) ≡ joined p a
unfolding joined
joined-run p a zero h = let e : a + zero ≡ a = omega arith in rw e
joined-run p a (suc n) h =
    let e : a + suc n ≡ suc (a + n) = omega arith in
    rw (e, h (a + n) (omega arith) (omega arith), append-nil (joined p (a + n))) (joined-run p a n (λ i l u. h i l (omega arith)))

-- p by pages is g by areas: p has nothing where no area starts, and at an area's first page what g has of the area
module _ {A : Type 0} (s : Areas) (F : Formed s) (p g : ℕ → List A)
    (off : (i : ℕ) → starts_area (slots s) i ≡ false → p i ≡ [])
    (on : (k : ℕ) → k < s.count → p (get_or s.list k none).first.0 ≡ g k)
    (past : (k : ℕ) → s.count ≤ k → g k ≡ []) where
  -- the pages below one are those of the first k areas
  record Gathered (k : ℕ) : Type 0 where
    pub page : ℕ
    pub small : page ≤ 64
    pub passed : (j : ℕ) → j < k → j < s.count → end_of s j ≤ page
    pub ahead : (j : ℕ) → k ≤ j → j < s.count → page ≤ (get_or s.list j none).first.0
    pub gathered : joined p page ≡ joined g k

  -- nothing starts between them and the next
  gap-none : (k i page : ℕ) → ((j : ℕ) → j < k → j < s.count → end_of s j ≤ page) → page ≤ i
      → ((j : ℕ) → k ≤ j → j < s.count → i < (get_or s.list j none).first.0) → p i ≡ []
  gap-none k i page h l a =
      let none = between s F i k (λ j d. go j (dec_lt j s.count) (λ m. h j d m)) a in
      off i (rw none)
    where
      go : (j : ℕ) → Dec (j < s.count) → (j < s.count → end_of s j ≤ page) → end_of s j ≤ i
      go j (yes m) e = omega (arith, e m)
      go j (no m) e = rw (F.formed.rest j (omega arith)) (omega arith)

  gather-start : Gathered 0
  unfolding joined
  gather-start = record { page = 0; small = omega arith; passed = λ j d l. absurd (omega arith); ahead = λ j d l. omega arith; gathered = refl }

  gather-next : (k : ℕ) → Gathered k → Gathered (suc k)
  unfolding joined
  gather-next k r = go (dec_lt k s.count)
    where
      up : (j : ℕ) → j < suc k → j < s.count → (x : ℕ) → Dec (k ≡ j) → end_of s k ≤ x → r.page ≤ x → end_of s j ≤ x
      up j d l x (yes e) a b = rw e at a
      up j d l x (no e) a b = omega (arith, r.passed j (omega arith) l)

      go : Dec (k < s.count) → Gathered (suc k)
      go (no d) = record {
        page = r.page;
        small = r.small;
        passed = λ j e l. r.passed j (omega arith) l;
        ahead = λ j e l. absurd (omega arith);
        gathered = rw (past k (omega arith), append-nil (joined g k)) r.gathered;
      }
      go (yes d) =
          let first : ℕ = (get_or s.list k none).first.0 in
          let pages : ℕ = (get_or s.list k none).pages in
          let before : r.page ≤ first = r.ahead k (omega arith) d in
          let least = (F.formed.each k d).some in
          let gap : joined p (r.page + (first - r.page)) ≡ joined p r.page
          = joined-run p r.page (first - r.page) (λ i l u. gap-none k i r.page r.passed l (later s F k i d (omega arith))) in
          let e : r.page + (first - r.page) ≡ first = omega arith in
          let body : joined p (suc first + (pages - 1)) ≡ joined p (suc first)
          = joined-run p (suc first) (pages - 1) (λ i l u. off i (inside-not s F k i d (omega arith) (omega (arith, least)))) in
          let end : suc first + (pages - 1) ≡ end_of s k = omega (arith, least) in
          record {
            page = end_of s k;
            small = (F.formed.each k d).inside;
            passed = λ j x l. up j x l (end_of s k) (ℕ_discrete k j) (omega arith) (omega arith);
            ahead = λ j x l. order s F k j (omega arith) l;
            gathered = rw (← end) (body ∙ ap₂ ◌++◌ (ap (joined p) (sym e) ∙ gap ∙ r.gathered) (on k d));
          }

  gather : (k : ℕ) → Gathered k
  gather zero = gather-start
  gather (suc k) = gather-next k (gather k)

  pub by-areas : joined p 64 ≡ joined g 8
  by-areas =
      let r = gather 8 in
      let e : r.page + (64 - r.page) ≡ 64 = omega (arith, r.small) in
      let none = joined-run p r.page (64 - r.page) (λ i l u. gap-none 8 i r.page r.passed l (λ j d m. absurd (omega (arith, F.formed.few)))) in
      ap (joined p) (sym e) ∙ none ∙ r.gathered

-- ---- maps and protects

only-off : {A : Type 0} (b : Bool) (x : A) → b ≡ false → only b x ≡ []
only-off b x e = rw e

module _ (s : Areas) (F : Formed s) (sandbox : ℕ) where
  first_slot : (k : ℕ) → k < s.count → slots s (get_or s.list k none).first.0 ≡ slot_of (get_or s.list k none) (get_or s.list k none).first.0
  first_slot k l = slot-in s F k (get_or s.list k none).first.0 l (omega arith) (omega (arith, (F.formed.each k l).some))

  first-pages : (k : ℕ) → k < s.count → pages_from (slots s) (get_or s.list k none).first.0 ≡ (get_or s.list k none).pages
  first-pages k l = omega (arith, area-end s F k l)

  first-backing : (k : ℕ) → k < s.count → backing_at (slots s (get_or s.list k none).first.0) ≡ (get_or s.list k none).backing
  first-backing k l =
      let z : (get_or s.list k none).first.0 - (get_or s.list k none).first.0 ≡ 0 = omega arith in
      rw (first_slot k l, z) (advance-none (get_or s.list k none).backing)

  pub maps-by-areas : maps sandbox (slots s) ≡ joined (maps_at sandbox s) 8
  unfolding maps
  maps-by-areas =
      by-areas s F (λ i. only (starts_area (slots s) i) (map_at sandbox (slots s) i)) (maps_at sandbox s)
      (λ i e. only-off (starts_area (slots s) i) (map_at sandbox (slots s) i) e)
      (λ k l. let some = ne_eqb (get_or s.list k none).pages 0 (λ e. omega (arith, (F.formed.each k l).some)) in
      rw (area-starts s F k l, first-pages k l, first-backing k l, some))
      (λ k l. rw (F.formed.rest k l))

  pub protects-by-areas : protects sandbox (slots s) ≡ joined (protects_at sandbox s) 8
  unfolding protects
  protects-by-areas =
      by-areas s F (λ i. only (starts_area (slots s) i && eqb (rights_at (slots s i)) 1) (protect_at sandbox (slots s) i)) (protects_at sandbox s)
      (λ i e. rw e)
      (λ k l. let right : rights_at (slots s (get_or s.list k none).first.0) ≡ (get_or s.list k none).rights = rw (first_slot k l) in
      rw (area-starts s F k l, first-pages k l, right))
      (λ k l. rw (F.formed.rest k l))
