-- Runs gathered area by area are the runs gathered page by page.
use Prim.Native.Nat.{ℕ, zero, suc, ◌+◌, ◌-◌, ◌≤◌, ◌<◌}
use mathlib.Core.Path.{◌≡◌, refl, sym, ap, ◌∙◌}
use mathlib.Core.Bool.{Bool, true, false}
use mathlib.Core.List.{List}
use native.Mathlib.Omega.{arith}
use native.Mathlib.Decide.{dec_lt}
use lib.Dec.{eqb}
use lib.ListN.{length, get_or}
use Rattle.basics.specs.Choice.{◌when◌else◌}
use Rattle.basics.proofs.TestLaws.{by_cases}
use Rattle.interface.specs.declared.page.Backing.{Backing}
use Rattle.interface.specs.declared.page.Backing.TheVariants.{Anonymous, Image}
use Rattle.interface.specs.declared.page.Slot.TheVariants.{Unmapped, Mapped}
use Rattle.interface.specs.Slots.{Slots, advance, starts_area, is_anonymous}
use Rattle.run_choice.specs.Runs.{is_spared}
use Rattle.frames.specs.declared.Held.{Held}
use Rattle.frames.specs.Frames.{none_held}
use Rattle.table.specs.Store.{Store, entry, front_of}
use Rattle.runs.specs.declared.Runs.{Runs}
use Rattle.runs.specs.Row.{row, tabled, pushed}
use Rattle.runs.proofs.RowLaws.{pushed_none}
use Rattle.kept.specs.Spare.{gather, row_rewound}
use Rattle.kept.specs.Gather.{Gathering, gather_to, gathered}
use Rattle.kept.proofs.GatherLaws.{gathered-is}
use Rattle.areas.specs.declared.area.Area.{Area}
use Rattle.areas.specs.declared.area.Areas.{Areas}
use Rattle.areas.specs.Areas.{none, attributes_of, slot_of, slots}
use Rattle.areas.specs.Walk.{Formed}
use Rattle.areas.proofs.WalkLaws.{end_of, Before, before-start, before-gap, before_last, before-next, before-none}
use Rattle.areas.proofs.FewAreas.{area-slot}
use Rattle.areas.proofs.StartLaws.{starts_first, starts-inside}
use Rattle.front_frames.specs.Fronts.{with_entry, fronts_to}
use Rattle.gathering.specs.AreaRun.{run_of}

-- the runs with that of one area, by the code's ways out
module _ (table : List ℕ) (s : ℕ) (a : Area) (r : Runs) (b : Bool) (is : b ≡ is_spared (Mapped (attributes_of a))) where
  pub area-left : b ≡ false → r ≡ pushed r (run_of table s a)
  area-left e = rw (← is, e) (sym (pushed_none r))

  pub area-pushed : (run : Held) (q : Runs) → b ≡ true → run ≡ fronts_to table s a.first.0 a.pages → q ≡ pushed r run → q ≡ pushed r (run_of table s a)
  area-pushed run q e f g = g ∙ rw (← is, e, f)

-- ---- the pages that a rewind keeps fronts of

unmapped-starts : (f : Slots) (i : ℕ) → f i ≡ Unmapped → starts_area f i ≡ false
unmapped-starts f i e = rw e

-- all pages of an area are alike in this
same-backing : (b : Backing) (n : ℕ) → is_anonymous (advance b n) ≡ is_anonymous b
same-backing Anonymous n = refl
same-backing (Image first) n = refl

area-spared : (a : Area) (page : ℕ) → is_spared (slot_of a page) ≡ is_spared (Mapped (attributes_of a))
area-spared a page = rw (same-backing a.backing (page - a.first.0))

module _ (st : Store) (s : ℕ) (f : Slots) (r : Runs) where
  abbrev here : ℕ → Gathering
  here i = gather_to st s f r i

  kept-page : (i : ℕ) (run : Held) → is_spared (f i) ≡ true → gather st s f i run ≡ with_entry (entry st (front_of s i)) run
  kept-page i run e = by_cases (eqb (entry st (front_of s i)) 0) (λ z. rw (e, z)) (λ z. rw (e, z))

  freed-page : (i : ℕ) (run : Held) → is_spared (f i) ≡ false → gather st s f i run ≡ run
  freed-page i run e = by_cases (eqb (entry st (front_of s i)) 0) (λ z. rw (e, z)) (λ z. rw (e, z))

  -- pages at which nothing starts and nothing is kept
  idle : (a n : ℕ) → ((i : ℕ) → a ≤ i → i < a + n → starts_area f i ≡ false) → ((i : ℕ) → a ≤ i → i < a + n → is_spared (f i) ≡ false)
      → here (a + n) ≡ here a
  unfolding gather_to
  idle a zero x y = let z : a + zero ≡ a = omega arith in ap here z
  idle a (suc n) x y =
      let z : a + suc n ≡ suc (a + n) = omega arith in
      let ih = idle a n (λ i l u. x i l (omega arith)) (λ i l u. y i l (omega arith)) in
      rw (z, x (a + n) (omega arith) (omega arith), freed-page (a + n) (here (a + n)).current (y (a + n) (omega arith) (omega arith))) ih

  -- the pages of an area: the run before is pushed at the first, and the area's own is at hand behind the last
  along : (a n : ℕ) (b : Bool) → starts_area f a ≡ true → ((i : ℕ) → a < i → i < a + suc n → starts_area f i ≡ false)
      → ((i : ℕ) → a ≤ i → i < a + suc n → is_spared (f i) ≡ b)
      → here (a + suc n) ≡ record {
        runs = pushed (here a).runs (here a).current;
        current = fronts_to st.table s a (suc n) when b else none_held;
      }
  unfolding gather_to fronts_to
  along a zero true x y z =
      let e : a + suc zero ≡ suc a = omega arith in
      let o : a + zero ≡ a = omega arith in
      rw (e, x, kept-page a none_held (z a (omega arith) (omega arith)), o)
  along a zero false x y z =
      let e : a + suc zero ≡ suc a = omega arith in
      rw (e, x, freed-page a none_held (z a (omega arith) (omega arith)))
  along a (suc n) true x y z =
      let e : a + suc (suc n) ≡ suc (a + suc n) = omega arith in
      let ih = along a n true x (λ i l u. y i l (omega arith)) (λ i l u. z i l (omega arith)) in
      rw (e, y (a + suc n) (omega arith) (omega arith), kept-page (a + suc n) (here (a + suc n)).current (z (a + suc n) (omega arith) (omega arith)), ih)
  along a (suc n) false x y z =
      let e : a + suc (suc n) ≡ suc (a + suc n) = omega arith in
      let ih = along a n false x (λ i l u. y i l (omega arith)) (λ i l u. z i l (omega arith)) in
      rw (e, y (a + suc n) (omega arith) (omega arith), freed-page (a + suc n) (here (a + suc n)).current (z (a + suc n) (omega arith) (omega arith)), ih)

-- ---- from area to area

-- q are the runs gathered below a page, the one at hand pushed too; at that page the areas before place k have ended and the others have not begun
pub record Gathered (st : Store) (s : ℕ) (present : Areas) (r : Runs) (k : ℕ) (q : Runs) : Type 0 where
  pub page : ℕ
  pub there : Before present k page
  pub gives : q ≡ pushed (gather_to st s (slots present) r page).runs (gather_to st s (slots present) r page).current

module _ (st : Store) (s : ℕ) (present : Areas) (F : Formed present) (r : Runs) where
  abbrev at : ℕ → Area
  at k = get_or present.list k none

  abbrev up_to : ℕ → Gathering
  up_to i = gather_to st s (slots present) r i

  pub gathered-start : Gathered st s present r 0 r
  unfolding gather_to
  gathered-start = record { page = 0; there = before-start present; gives = sym (pushed_none r) }

  -- unmapped pages
  gap : (a b : ℕ) → a ≤ b → ((i : ℕ) → a ≤ i → i < b → slots present i ≡ Unmapped) → up_to b ≡ up_to a
  gap a b l h =
      let e : a + (b - a) ≡ b = omega arith in
      let still : (i : ℕ) → a ≤ i → i < a + (b - a) → starts_area (slots present) i ≡ false = λ i d u. unmapped-starts (slots present) i (h i d (omega arith)) in
      let none : (i : ℕ) → a ≤ i → i < a + (b - a) → is_spared (slots present i) ≡ false = λ i d u. rw (h i d (omega arith)) in
      rw e at (idle st s (slots present) r a (b - a) still none)

  -- the pages of the area in a place
  area : (k : ℕ) → k < present.count → up_to (end_of present k) ≡ record {
    runs = pushed (up_to (at k).first.0).runs (up_to (at k).first.0).current;
    current = run_of st.table s (at k);
  }
  area k l =
      let w = F.formed in
      let some = (w.each k l).some in
      let e : suc ((at k).pages - 1) ≡ (at k).pages = omega arith in
      let first : ℕ = (at k).first.0 in
      let inside : (i : ℕ) → first < i → i < first + suc ((at k).pages - 1) → starts_area (slots present) i ≡ false =
      λ i d u. starts-inside F.images present w k l i d (omega arith) in
      let alike : (i : ℕ) → first ≤ i → i < first + suc ((at k).pages - 1) → is_spared (slots present i) ≡ is_spared (Mapped (attributes_of (at k))) =
      λ i d u. rw (area-slot F.images present w i k l d (omega arith)) (area-spared (at k) i) in
      let start = starts_first F.images present w k l in
      rw e at (along st s (slots present) r first ((at k).pages - 1) (is_spared (Mapped (attributes_of (at k)))) start inside alike)

  none-run : run_of st.table s none ≡ none_held
  unfolding fronts_to
  none-run = refl

  pub gathered_next : (k : ℕ) (q : Runs) → Gathered st s present r k q → Gathered st s present r (k + 1) (pushed q (run_of st.table s (at k)))
  gathered_next k q g = go (dec_lt k present.count)
    where
      go : Dec (k < present.count) → Gathered st s present r (k + 1) (pushed q (run_of st.table s (at k)))
      go (no d) = record {
        page = g.page;
        there = before-none present F k g.page g.there (omega arith);
        gives = rw (F.formed.rest k (omega arith), none-run) (pushed_none q ∙ g.gives);
      }
      go (yes d) =
          let start : up_to (at k).first.0 ≡ up_to g.page =
          gap g.page (at k).first.0 (g.there.ahead k (omega arith) d) (before-gap present F k g.page g.there d) in
          record {
            page = end_of present k;
            there = before-next present F k g.page g.there d;
            gives = rw (area k d, start, ← g.gives);
          }

  -- behind the last area there is none in the places left
  pub gathered-rest : (d k : ℕ) (q : Runs) → present.count ≤ k → Gathered st s present r k q → Gathered st s present r (k + d) q
  gathered-rest zero k q l g = let e : k + zero ≡ k = omega arith in rw e g
  gathered-rest (suc d) k q l g =
      let e : k + suc d ≡ k + 1 + d = omega arith in
      rw e
      (gathered-rest d (k + 1) q (omega arith)
      (record { page = g.page; there = before-none present F k g.page g.there l; gives = g.gives }))

  pub gathered-all : length r.list ≡ 8 → (q : Runs) → Gathered st s present r 8 q → q ≡ tabled (row_rewound st s (slots present) (row r))
  unfolding gathered
  gathered-all eight q g =
      let last : up_to 64 ≡ up_to g.page = gap g.page 64 g.there.small (λ i l u. before_last present F 8 g.page g.there F.formed.few i l) in
      g.gives ∙ rw (← last) (gathered-is st s (slots present) r eight)
