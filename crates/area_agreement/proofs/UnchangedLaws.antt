-- Where every area stays, a page can differ from the snapshot's by its bytes alone.
use Prim.Native.Nat.{ℕ, suc, ◌<◌}
use mathlib.Core.Path.{◌≡◌, refl, sym, ap, ◌∙◌}
use mathlib.Core.Bool.{Bool, true, false, ◌&&◌, ◌||◌, false≢true}
use mathlib.Core.List.{List, [], ◌∷◌}
use native.Mathlib.Omega.{arith}
use native.Mathlib.Decide.{dec_lt}
use lib.Dec.{eqb}
use lib.ListN.{get_or}
use borrow.Author.Tests.{eqb-true}
use Rattle.basics.proofs.TestLaws.{by_cases, and_both}
use Rattle.basics.proofs.LoopLaws.{every-at}
use Rattle.basics.proofs.RangeLaws.{inside_past, inside-below}
use Rattle.interface.specs.Slots.{is_committed}
use Rattle.comparison.specs.Compare.{agree}
use Rattle.comparison.proofs.CompareLaws.{agree-self}
use Rattle.areas.specs.declared.area.Area.{Area}
use Rattle.areas.specs.declared.area.Areas.{Areas}
use Rattle.areas.specs.Areas.{none, covers, slot_in, slots}
use Rattle.areas.specs.Walk.{Formed}
use Rattle.area_agreement.specs.Unchanged.{stays, unchanged}

-- what the test of one place says
pub record Stays (a c : Area) : Type 0 where
  pub first : a.first.0 ≡ c.first.0
  pub pages : a.pages ≡ c.pages
  pub rights : a.rights ≡ c.rights
  pub marked : (a.committed || eqb a.pages 0) ≡ true

stays_of : (a c : Area) → stays a c ≡ true → Stays a c
stays_of a c h =
    let x = and_both (eqb a.first.0 c.first.0) _ h in
    let y = and_both (eqb a.pages c.pages) _ x.1 in
    let z = and_both (eqb a.rights c.rights) _ y.1 in
    record { first = eqb-true _ _ x.0; pages = eqb-true _ _ y.0; rights = eqb-true _ _ z.0; marked = z.1 }

-- an area of no pages covers none
bare : (a : Area) (i : ℕ) → a.pages ≡ 0 → covers a i ≡ false
bare a i e = go (dec_lt i a.first.0)
  where
    go : Dec (i < a.first.0) → covers a i ≡ false
    go (yes l) = inside-below a.first.0 a.pages i l
    go (no l) = inside_past a.first.0 a.pages i (omega (arith, e))

-- an area that covers a page and stays is committed
marked-here : (a c : Area) (i : ℕ) → Stays a c → covers a i ≡ true → a.committed ≡ true
marked-here a c i S h =
    by_cases a.committed (λ t. t)
    (λ t. absurd (false≢true (sym (bare a i (eqb-true a.pages 0 (rw t at S.marked))) ∙ h)))

module _ (i : ℕ) (x y : Bool) where
  go : (l m : List Area) → ((k : ℕ) → stays (get_or l k none) (get_or m k none) ≡ true) → (is_committed (slot_in l i) ≡ true → x ≡ y)
      → agree (slot_in l i) (slot_in l i) x ≡ agree (slot_in l i) (slot_in m i) y
  unfolding slot_in agree
  go [] [] s h = refl
  go [] (c ∷ m) s h =
      let S = stays_of none c (s 0) in
      rw (bare c i (sym S.pages)) (go [] m (λ k. s (suc k)) h)
  go (a ∷ l) [] s h =
      let S = stays_of a none (s 0) in
      let out = bare a i S.pages in
      rw out (go l [] (λ k. s (suc k)) (rw out at h))
  go (a ∷ l) (c ∷ m) s h =
      let S = stays_of a c (s 0) in
      let same : covers c i ≡ covers a i = rw (S.first, S.pages) in
      by_cases (covers a i)
      (λ t. rw (t, same, t, S.rights) (ap (λ (z : Bool). eqb c.rights c.rights && z) ((rw t at h) (marked-here a c i S t))))
      (λ t. rw (t, same, t) (go l m (λ k. s (suc k)) (rw t at h)))

module _ (present snapshot : Areas) (F : Formed present) (G : Formed snapshot) (u : unchanged present snapshot ≡ true) (i : ℕ) where
  -- a page may be compared with itself in place of the snapshot's, its bytes apart
  pub alike-slots : (x y : Bool) → (is_committed (slots present i) ≡ true → x ≡ y)
      → agree (slots present i) (slots present i) x ≡ agree (slots present i) (slots snapshot i) y
  unfolding unchanged
  alike-slots x y h = go i x y present.list snapshot.list each h
    where
      each : (k : ℕ) → stays (get_or present.list k none) (get_or snapshot.list k none) ≡ true
      each k = at (dec_lt k 8)
        where
          at : Dec (k < 8) → stays (get_or present.list k none) (get_or snapshot.list k none) ≡ true
          at (yes l) = every-at _ 0 8 u k (omega arith) (omega arith)
          at (no l) = rw (F.formed.rest k (omega (arith, F.formed.few)), G.formed.rest k (omega (arith, G.formed.few)))

  -- a page whose bytes are the snapshot's, if it is committed, agrees
  pub stays-alike : (x : Bool) → (is_committed (slots present i) ≡ true → x ≡ true) → agree (slots present i) (slots snapshot i) x ≡ true
  stays-alike x h = sym (alike-slots true x (λ m. sym (h m))) ∙ agree-self (slots present i)
