-- A committed area in the snapshot: a walk along the snapshot's areas, from the area's first page to the one at which they end or disagree.
use Prim.Native.Nat.{ℕ, ◌+◌, ◌-◌, ◌≤◌, ◌<◌}
use mathlib.Core.Path.{◌≡◌, sym, ap, ◌∙◌}
use mathlib.Core.Bool.{Bool, true, false, ◌&&◌}
use native.Mathlib.Omega.{arith}
use native.Mathlib.Decide.{dec_lt, ℕ_discrete}
use lib.Dec.{leb}
use lib.ListN.{get_or}
use borrow.Author.Tests.{le-leb, lt-leb, leb-true}
use Rattle.basics.specs.Choice.{implies}
use Rattle.basics.specs.Ranges.{every}
use Rattle.basics.proofs.TestLaws.{by_cases, when-cases, never, and_left, and_right, implied}
use Rattle.basics.proofs.LoopLaws.{every-at, every_of, every-end}
use Rattle.basics.proofs.RangeLaws.{inside-yes, inside-first, inside-end}
use Rattle.interface.specs.declared.page.Slot.{Slot}
use Rattle.interface.specs.declared.page.Slot.TheVariants.{Unmapped}
use Rattle.interface.specs.Slots.{Slots, is_mapped, backing_at, advance, follows}
use Rattle.areas.specs.declared.area.Area.{Area}
use Rattle.areas.specs.declared.area.Areas.{Areas}
use Rattle.areas.specs.Areas.{none, covers, slot_of, slots}
use Rattle.areas.specs.Walk.{Formed}
use Rattle.areas.proofs.SlotLaws.{covers-none}
use Rattle.areas.proofs.WalkLaws.{end_of, between, order}
use Rattle.area_backing.specs.Reach.{reach}
use Rattle.area_backing.proofs.ReachLaws.{agree_on}
use Rattle.committed_pages.specs.Parts.{backing_ok}
use Rattle.committed_pages.proofs.RestLaws.{every-over, every-alike}
use Rattle.committed_pages.proofs.AreaLaws.{area-says}

-- page i of a committed area is in the snapshot, with the same backing
abbrev pub backed_at : Area → Slots → ℕ → Bool
backed_at a copy i = is_mapped (copy i) && follows (advance a.backing (i - a.first.0)) 0 (backing_at (copy i))

module _ (s : Areas) (a : Area) where
  abbrev area : ℕ → Area
  area k = get_or s.list k none

  abbrev last : ℕ
  last = a.first.0 + a.pages

  -- page i of the area is in the snapshot, with the same backing
  abbrev passes : ℕ → Bool
  passes = backed_at a (slots s)

  -- the walk has come to a page: those of the area before it pass, and where the others do too, the areas before place k have ended
  pub record Come (k page : ℕ) : Type 0 where
    pub started : a.first.0 ≤ page
    pub rest : every passes a.first.0 a.pages ≡ every passes page (last - page)
    pub passed : page < last → every passes page (last - page) ≡ true → (j : ℕ) → j < k → end_of s j ≤ page

  pub come-start : Come 0 a.first.0
  come-start = record {
    started = omega arith;
    rest = ap (every passes a.first.0) (omega arith);
    passed = λ l t j d. absurd (omega arith);
  }

  module _ (F : Formed s) where
    -- an unmapped page does not pass
    bare : (i : ℕ) → slots s i ≡ Unmapped → passes i ≡ false
    bare i e = ap (λ (x : Slot). is_mapped x && follows (advance a.backing (i - a.first.0)) 0 (backing_at x)) e

    -- at a page of area k
    here : (k i : ℕ) → k < s.count → (area k).first.0 ≤ i → i < end_of s k
        → passes i ≡ follows (advance a.backing (i - a.first.0)) 0 (advance (area k).backing (i - (area k).first.0))
    here k i l x y = ap (λ (x : Slot). is_mapped x && follows (advance a.backing (i - a.first.0)) 0 (backing_at x)) (area-says s F k i l x y)

    -- area k has the page and agrees: so it does up to its end
    skip : (k page : ℕ) → k < s.count → a.first.0 ≤ page → covers (area k) page ≡ true
        → follows (advance a.backing (page - a.first.0)) 0 (advance (area k).backing (page - (area k).first.0)) ≡ true
        → every passes page (last - page) ≡ every passes (end_of s k) (last - end_of s k)
    skip k page l g c t =
        let x = inside-first (area k).first.0 (area k).pages page c in
        let y = inside-end (area k).first.0 (area k).pages page c in
        every-over passes last page (end_of s k) (omega arith) (λ i u v z. here k i l (omega arith) v
        ∙ agree_on a.backing (area k).backing a.first.0 (area k).first.0 page i g x u t)

    module _ (k page : ℕ) (l : k < s.count) (w : Come k page) where
      abbrev agrees : Bool
      agrees = follows (advance a.backing (page - a.first.0)) 0 (advance (area k).backing (page - (area k).first.0))

      -- area k has the page and agrees: the walk goes on to the area's end
      goes : covers (area k) page ≡ true → agrees ≡ true → Come (k + 1) (end_of s k)
      goes c t =
          let y = inside-end (area k).first.0 (area k).pages page c in
          record {
            started = omega (arith, w.started);
            rest = w.rest ∙ skip k page l w.started c t;
            passed = λ z h j d. behind j d (ℕ_discrete j k);
          }
        where
          behind : (j : ℕ) → j < k + 1 → Dec (j ≡ k) → end_of s j ≤ end_of s k
          behind j d (yes e) = rw e (omega arith)
          behind j d (no e) = omega (arith, order s F j k (omega arith) l)

      -- else it stays: where the rest passes, area k has ended
      stays : (covers (area k) page && agrees) ≡ false → Come (k + 1) page
      stays n = record {
        started = w.started;
        rest = w.rest;
        passed = λ z h j d. behind z h j d (ℕ_discrete j k);
      }
        where
          ended : page < last → every passes page (last - page) ≡ true → Dec (page < end_of s k) → Dec (page < (area k).first.0) → end_of s k ≤ page
          ended z h (no x) y = omega arith
          ended z h (yes x) (yes y) =
              never (passes page) (every-at passes page (last - page) h page (omega arith) (omega arith))
              (bare page (between s F page k (w.passed z h) (λ j d m. later j d m (ℕ_discrete k j))))
            where
              later : (j : ℕ) → k ≤ j → j < s.count → Dec (k ≡ j) → page < (area j).first.0
              later j d m (yes e) = rw e at y
              later j d m (no e) = omega (arith, order s F k j (omega arith) m)
          ended z h (yes x) (no y) =
              let c : covers (area k) page ≡ true = inside-yes (area k).first.0 (area k).pages page (omega arith) x in
              never (passes page) (every-at passes page (last - page) h page (omega arith) (omega arith))
              (here k page l (omega arith) x ∙ (rw c at n))

          behind : page < last → every passes page (last - page) ≡ true → (j : ℕ) → j < k + 1 → Dec (j ≡ k) → end_of s j ≤ page
          behind z h j d (yes e) = rw e (ended z h (dec_lt page (end_of s k)) (dec_lt page (area k).first.0))
          behind z h j d (no e) = w.passed z h j (omega arith)

      -- one area more
      pub come-next : Come (k + 1) (reach a (area k) page)
      come-next =
          when-cases (Come (k + 1)) (covers (area k) page && agrees)
          (λ t. goes (and_left (covers (area k) page) agrees t) (and_right (covers (area k) page) agrees t)) stays

    -- all of them: the walk has come to the area's end, or not
    pub come-all : (page : ℕ) → Come s.count page → leb last page ≡ every passes a.first.0 a.pages
    come-all page w = go (dec_lt page last)
      where
        go : Dec (page < last) → leb last page ≡ every passes a.first.0 a.pages
        go (no d) = le-leb last page (omega arith) ∙ sym (w.rest ∙ every-end passes last page (omega arith))
        go (yes d) = lt-leb last page d ∙ sym (w.rest ∙ by_cases (every passes page (last - page))
            (λ t. never (passes page) (every-at passes page (last - page) t page (omega arith) (omega arith))
            (bare page (between s F page s.count (w.passed d t) (λ j x m. absurd (omega arith)))))
            (λ f. f))

-- the test of the area's pages: it asks nothing of one that is not committed
module _ (a : Area) (f : Slots) where
  abbrev asked : ℕ → Bool
  asked i = backing_ok (slot_of a i) (f i)

  pub uncommitted-passes : a.committed ≡ false → true ≡ every asked a.first.0 a.pages
  uncommitted-passes e = sym (every_of asked a.first.0 a.pages (λ i l u. rw e))

  pub committed-is : a.committed ≡ true → every (backed_at a f) a.first.0 a.pages ≡ every asked a.first.0 a.pages
  committed-is e = every-alike (backed_at a f) asked a.first.0 a.pages (λ i l u. rw e)

-- an area of the snapshot that has them all
module _ (s : Areas) (F : Formed s) (a : Area) (k : ℕ) where
  abbrev copy : Area
  copy = get_or s.list k none

  abbrev first : ℕ
  first = a.first.0

  abbrev agreed : Bool
  agreed = follows (advance a.backing (first - first)) 0 (advance copy.backing (first - copy.first.0))

  in_use : covers copy first ≡ true → Dec (k < s.count) → k < s.count
  in_use c (yes d) = d
  in_use c (no d) = never (covers copy first) c (ap (λ (x : Area). covers x first) (F.formed.rest k (omega arith)) ∙ covers-none first)

  all_pass : first + a.pages ≤ reach a copy first → every (backed_at a (slots s)) first a.pages ≡ true
  all_pass h =
      let n : a.pages ≡ first + a.pages - first = omega arith in
      ap (every (backed_at a (slots s)) first) n
      ∙ by_cases (covers copy first && agreed)
      (λ t. let c = and_left (covers copy first) agreed t in
      skip s a F k first (in_use c (dec_lt k s.count)) (omega arith) c (and_right (covers copy first) agreed t)
      ∙ every-end (backed_at a (slots s)) (first + a.pages) (end_of s k) (rw t at h))
      (λ t. every-end (backed_at a (slots s)) (first + a.pages) first (rw t at h))

  pub lies-passes : implies a.committed (leb (first + a.pages) (reach a copy first)) ≡ true
      → every (λ i. backing_ok (slot_of a i) (slots s i)) first a.pages ≡ true
  lies-passes h =
      by_cases a.committed
      (λ e. sym (committed-is a (slots s) e) ∙ all_pass (leb-true (first + a.pages) (reach a copy first) (implied a.committed _ h e)))
      (λ e. sym (uncommitted-passes a (slots s) e))
