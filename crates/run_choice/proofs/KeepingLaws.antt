-- What request A3 says of the runs (specs/Keeping), proved.
use Prim.Native.Nat.{ℕ, zero, suc, ◌+◌, ◌≤◌, ◌<◌}
use mathlib.Core.Path.{◌≡◌, refl, sym, ap, ◌∙◌, fun_ext}
use mathlib.Core.Bool.{Bool, true, false, not, ◌&&◌, false≢true}
use native.Mathlib.Omega.{arith}
use lib.Dec.{leb, ltb, eqb}
use borrow.Author.Tests.{eqb-true, eqb-false, eq-eqb, ne_eqb, leb-true, leb-false, le-leb, lt-leb, le-ltb, lt-ltb, ltb-true}
use Rattle.basics.specs.Choice.{same}
use Rattle.basics.specs.Ranges.{count}
use Rattle.basics.specs.Rows.{best, longer, fitter}
use Rattle.basics.specs.Longest.{push_all, taken_of}
use Rattle.basics.proofs.TestLaws.{by_cases, and_left, and_right, and_both, and-of, same_true}
use Rattle.basics.proofs.CountLaws.{count-equal, count-zero}
use Rattle.basics.proofs.RowLaws.{best-low, longest-top, longest-oldest, fit-shortest, fit-longest, fit-oldest}
use Rattle.basics.proofs.LongestLaws.{count_next, count-up, keeps-longest, push-all-none, walked-pushes}
use Rattle.interface.specs.declared.page.Backing.{Backing}
use Rattle.interface.specs.declared.page.Backing.TheVariants.{Anonymous, Image}
use Rattle.interface.specs.declared.page.Slot.{Slot}
use Rattle.interface.specs.declared.page.Slot.TheVariants.{Unmapped, Mapped}
use Rattle.interface.specs.Requests.{◌is◌, map_code}
use Rattle.interface.specs.Slots.{Slots, is_mapped, joins, follows, starts_area, areas, is_anonymous}
use Rattle.run_choice.specs.Runs.{run_places, is_spared, run_for, granted, longest_run, runs_rewound}
use Rattle.run_choice.specs.Keeping.{SparesUncommittedAnonymous, AreasAreSpared, run_of, KeepsTheLongest, TakesAtSixtyFour, GivesUpAboveShare}
use Rattle.run_choice.specs.Keeping.{TakesTheShortest, ElseTheLongest, GrantsTheFirst, GivesUpTheLongest}

-- ---- the tests

anonymous-is : (b : Backing) → is_anonymous b ≡ true → b ≡ Anonymous
anonymous-is Anonymous e = refl
anonymous-is (Image page) e = absurd (false≢true e)

pub spares-uncommitted-anonymous : SparesUncommittedAnonymous
spares-uncommitted-anonymous Unmapped = (λ e. absurd (false≢true e), λ e. e.0)
spares-uncommitted-anonymous (Mapped t) = (
  λ e. let both = and_both (not t.committed) (is_anonymous t.backing) e in (both.0, anonymous-is t.backing both.1),
  λ e. and-of e.0 (ap is_anonymous e.1),
)

pub takes-at-sixty-four : TakesAtSixtyFour
takes-at-sixty-four q = (
  λ e. let both = and_both (q is map_code) (eqb q.p1 64 && eqb q.p3 0) e in
      let there = and_both (eqb q.p1 64) (eqb q.p3 0) both.1 in
      (eqb-true q.code map_code both.0, (eqb-true q.p1 64 there.0, eqb-true q.p3 0 there.1)),
  λ e. and-of (eq-eqb q.code map_code e.0) (and-of (eq-eqb q.p1 64 e.1.0) (eq-eqb q.p3 0 e.1.1)),
)

pub gives-up-above-share : GivesUpAboveShare
gives-up-above-share true share held = (λ e. absurd (false≢true e), λ e. absurd (false≢true (sym e.0)))
gives-up-above-share false share held = (λ e. (refl, ltb-true share (held + 1) e), λ e. lt-ltb share (held + 1) e.1)

-- ---- which run is chosen

pub gives-up-the-longest : GivesUpTheLongest
unfolding longest_run
gives-up-the-longest lengths = record {
  in_row = best-low longer lengths run_places (omega arith);
  longest = longest-top lengths run_places;
  oldest = longest-oldest lengths run_places;
}

-- of two that are long enough the better is shorter; of two that are not it is longer
enough-better : (pages new old : ℕ) → fitter pages new old ≡ true → pages ≤ old → pages ≤ new → new < old
enough-better pages new old h a b =
    by_cases (ltb new old) (λ t. ltb-true new old t) (λ t. absurd (false≢true (rw (le-leb pages new b, t, le-ltb old pages a) at h)))

short-better : (pages new old : ℕ) → fitter pages new old ≡ true → new < pages → old < new
short-better pages new old h a = ltb-true old new (rw (lt-leb pages new a) at h)

pub takes-the-shortest : TakesTheShortest
unfolding run_for
takes-the-shortest pages lengths i l h = record {
  in_row = best-low (fitter pages) lengths run_places (omega arith);
  suffices = (fit-shortest pages lengths run_places i l h).0;
  shortest = λ j d e. (fit-shortest pages lengths run_places j d e).1;
  oldest = λ j d e. enough-better pages _ (lengths j) (fit-oldest pages lengths run_places j d) e (fit-shortest pages lengths run_places i l h).0;
}

pub else-the-longest : ElseTheLongest
unfolding run_for
else-the-longest pages lengths short =
    let low : best (fitter pages) lengths run_places < run_places = best-low (fitter pages) lengths run_places (omega arith) in
    record {
      in_row = low;
      longest = fit-longest pages lengths run_places short;
      oldest = λ j d. short-better pages _ (lengths j) (fit-oldest pages lengths run_places j d) (short _ low);
    }

pub grants-the-first : GrantsTheFirst
unfolding granted
grants-the-first pages lengths = record {
  all = λ h. rw (le-leb pages (lengths (run_for pages lengths)) h);
  some = λ h. by_cases (leb pages (lengths (run_for pages lengths))) (λ e. rw e (omega (arith, leb-true pages _ e, h))) (λ e. rw e);
}

-- ---- what a rewind keeps

follows-anonymous : (b c : Backing) (pages : ℕ) → follows b pages c ≡ true → is_anonymous b ≡ is_anonymous c
unfolding follows
follows-anonymous Anonymous Anonymous pages e = refl
follows-anonymous Anonymous (Image c) pages e = absurd (false≢true e)
follows-anonymous (Image b) Anonymous pages e = absurd (false≢true e)
follows-anonymous (Image b) (Image c) pages e = refl

-- a page that joins the one before is spared as that is
joins-spared : (x y : Slot) → joins x y ≡ true → (is_mapped x ≡ true) × (is_spared x ≡ is_spared y)
unfolding joins
joins-spared Unmapped y e = absurd (false≢true e)
joins-spared (Mapped s) Unmapped e = absurd (false≢true e)
joins-spared (Mapped s) (Mapped t) e =
    let rest = and_right (eqb s.rights t.rights) _ e in
    let mark : s.committed ≡ t.committed = same_true s.committed t.committed (and_left _ (follows s.backing 1 t.backing) rest) in
    let backing = follows-anonymous s.backing t.backing 1 (and_right (same s.committed t.committed) _ rest) in
    (refl, rw (mark, backing))

module _ (f : Slots) where
  -- a mapped page that starts no area joins the one before
  joins-before : (i : ℕ) → is_mapped (f (suc i)) ≡ true → starts_area f (suc i) ≡ false → joins (f i) (f (suc i)) ≡ true
  joins-before i m e = by_cases (joins (f i) (f (suc i))) (λ t. t) (λ t. absurd (false≢true (sym (rw (m, t) at e))))

  -- up to a mapped page an area has started
  some-started : (i : ℕ) → is_mapped (f i) ≡ true → 1 ≤ count (starts_area f) (suc i)
  unfolding count joins
  some-started zero m = rw m (omega arith)
  some-started (suc i) m =
      by_cases (starts_area f (suc i))
      (λ e. rw e (omega arith))
      (λ e. omega (arith, count_next (starts_area f) (suc i), some-started i (joins-spared (f i) (f (suc i)) (joins-before i m e)).0))

  -- where none has started in between
  spared-back : (i j : ℕ) → i ≤ j → count (starts_area f) (suc i) ≡ count (starts_area f) (suc j) → is_mapped (f j) ≡ true → is_spared (f i) ≡ is_spared (f j)
  spared-back i zero h e m = let z : i ≡ 0 = omega arith in rw z
  spared-back i (suc j) h e m =
      by_cases (eqb i (suc j)) (λ t. rw (eqb-true i (suc j) t))
      (λ t. let below : i ≤ j = omega (arith, eqb-false i (suc j) t) in
      let next = count_next (starts_area f) (suc j) in
      let up = count-up (starts_area f) (suc i) (suc j) (omega arith) in
      by_cases (starts_area f (suc j))
      (λ y. absurd (let more : count (starts_area f) (suc (suc j)) ≡ count (starts_area f) (suc j) + 1 = rw y at next in omega (arith, e, up)))
      (λ y. let same : count (starts_area f) (suc (suc j)) ≡ count (starts_area f) (suc j) + 0 = rw y at next in
      let old = joins-spared (f j) (f (suc j)) (joins-before j m y) in
      spared-back i j below (omega (arith, e, same)) old.0 ∙ old.1))

pub areas-are-spared : AreasAreSpared
areas-are-spared f a i j x y =
    let xs = and_both (is_mapped (f i)) _ x in
    let ys = and_both (is_mapped (f j)) _ y in
    let same : count (starts_area f) (suc i) ≡ count (starts_area f) (suc j) = eqb-true _ (suc a) xs.1 ∙ sym (eqb-true _ (suc a) ys.1) in
    by_cases (leb i j)
    (λ t. spared-back f i j (leb-true i j t) same ys.0)
    (λ t. sym (spared-back f j i (omega (arith, leb-false i j t)) (sym same) xs.0))

-- only a mapped page is spared
spared-mapped : (x : Slot) (here front : Bool) → (here && (front && is_spared x)) ≡ ((is_mapped x && here) && (front && is_spared x))
spared-mapped Unmapped here front = by_cases here (λ e. by_cases front (λ d. rw (e, d)) (λ d. rw (e, d))) (λ e. rw e)
spared-mapped (Mapped t) here front = refl

-- before the first area no page is spared
none_first : (f : Slots) (front : ℕ → Bool) → taken_of (starts_area f) (λ i. front i && is_spared (f i)) 0 64 ≡ 0
none_first f front =
    count-zero _ 64
    (λ i l. spared-mapped (f i) (eqb (count (starts_area f) (suc i)) 0) (front i)
    ∙ by_cases (is_mapped (f i)) (λ m. rw (m, ne_eqb (count (starts_area f) (suc i)) 0 (λ e. omega (arith, some-started f i m)))) (λ m. rw m))

pub keeps-the-longest : KeepsTheLongest
unfolding runs_rewound areas
keeps-the-longest f front lengths =
    let taken : ℕ → Bool = λ i. front i && is_spared (f i) in
    let things : ℕ → ℕ = λ t. taken_of (starts_area f) taken t 64 in
    let runs : (λ t. things (suc t)) ≡ run_of f front =
    fun_ext (λ a. count-equal _ _ 64 (λ i l. spared-mapped (f i) (eqb (count (starts_area f) (suc i)) (suc a)) (front i))) in
    let walk = walked-pushes (starts_area f) taken run_places lengths 64
    ∙ push-all-none (λ x. x) run_places lengths things (none_first f front) (count (starts_area f) 64)
    ∙ ap (λ (new : ℕ → ℕ). push_all (λ x. x) run_places lengths new (count (starts_area f) 64)) runs in
    rw walk (keeps-longest (λ x. x) run_places (omega arith) lengths (run_of f front) (count (starts_area f) 64))
