-- What an accepted request makes of front marks, back marks and run lengths together: they stay within the share.
use Prim.Native.Nat.{ℕ, zero, suc, ◌+◌, ◌≤◌, ◌<◌}
use mathlib.Core.Path.{◌≡◌, refl, sym, ap, ◌∙◌}
use mathlib.Core.Logic.{◌⊎◌, inl, inr}
use mathlib.Core.Bool.{Bool, true, false, ◌&&◌, ◌||◌}
use native.Mathlib.Omega.{arith}
use lib.Dec.{eqb, ltb}
use borrow.Author.Tests.{eqb-true, ltb-true, ltb-false}
use Rattle.basics.specs.Choice.{◌when◌else◌}
use Rattle.basics.specs.Ranges.{one, count, sum, inside, over}
use Rattle.basics.proofs.TestLaws.{by_cases, when-cases}
use Rattle.basics.proofs.RangeLaws.{inside-first, inside-end, inside-yes}
use Rattle.basics.proofs.CountLaws.{count-le, count-sum, count_none, count-apart, count-also}
use Rattle.basics.proofs.RowLaws.{walked-sum, walked-idle}
use Rattle.interface.specs.declared.request.Request.{Request}
use Rattle.interface.specs.Requests.{◌is◌, map_code, unmap_code, write_code, snapshot_code, rewind_code, page_of}
use Rattle.interface.specs.Slots.{Slots, is_committed, starts_area}
use Rattle.interface.specs.Outcome.{first_of}
use Rattle.run_choice.specs.Runs.{run_places, is_spared, run_for, granted, longest_run, runs_rewound}
use Rattle.interface.proofs.ChargeLaws.{inside-part}
use Rattle.run_choice.proofs.RunLaws.{run-low, granted-le, granted-run, longest-low, longest-some, sum_less, spared-uncommitted}
use Rattle.plain.specs.Machine.{Traces, frames_held, front_after, back_after, copied_back_after, less_by, runs_after}

-- ---- a map

-- marks set on n numbers are n more at most
over-count : (p : ℕ → Bool) (a n m : ℕ) → count (over a n (λ i. true) p) m ≤ count p m + count (inside a n) m
unfolding count over
over-count p a n zero = omega arith
over-count p a n (suc m) = by_cases (inside a n m) (λ e. rw e (omega (arith, over-count p a n m))) (λ e. rw e (omega (arith, over-count p a n m)))

over-more : (p : ℕ → Bool) (a n : ℕ) → count (over a n (λ i. true) p) 64 ≤ count p 64 + n
over-more p a n = omega (arith, over-count p a n 64, inside-part a n 64)

module _ (q : Request) (f : Slots) (t : Traces) (e : q.code ≡ map_code) where
  -- the front marks that a map leaves
  map-front : front_after q f t ≡ (over (first_of f q) (granted q.p2 t.runs) (λ i. true) t.front when eqb q.p1 64 && eqb q.p3 0 else t.front)
  unfolding front_after
  map-front = rw e

  at : (i : ℕ)
      → front_after q f t i ≡ (over (first_of f q) (granted q.p2 t.runs) (λ i. true) t.front when eqb q.p1 64 && eqb q.p3 0 else t.front) i
  at i = ap (λ (x : ℕ → Bool). x i) map-front

  -- a front mark is one of the new pages', or an old one
  pub map-front-new : (i : ℕ) → front_after q f t i ≡ true → (inside (first_of f q) q.p2 i ≡ true) ⊎ (t.front i ≡ true)
  unfolding over
  map-front-new i m =
      let less = granted-le q.p2 t.runs in
      when-cases (λ (x : ℕ → Bool). x i ≡ true → (inside (first_of f q) q.p2 i ≡ true) ⊎ (t.front i ≡ true)) (eqb q.p1 64 && eqb q.p3 0)
      (λ _. by_cases (inside (first_of f q) (granted q.p2 t.runs) i)
      (λ y _. inl (inside-yes (first_of f q) q.p2 i (inside-first _ _ i y) (omega (arith, inside-end (first_of f q) (granted q.p2 t.runs) i y, less))))
      (λ y. rw y (λ z. inr z)))
      (λ _ z. inr z) (sym (at i) ∙ m)

  -- and an old one stays
  pub map-front-old : (i : ℕ) → front_after q f t i ≡ false → t.front i ≡ false
  unfolding over
  map-front-old i m =
      when-cases (λ (x : ℕ → Bool). x i ≡ false → t.front i ≡ false) (eqb q.p1 64 && eqb q.p3 0)
      (λ _. by_cases (inside (first_of f q) (granted q.p2 t.runs) i) (λ y. rw y (λ z. cc)) (λ y. rw y (λ z. z)))
      (λ _ z. z) (sym (at i) ∙ m)

-- ---- what is held, call by call

module _ (q : Request) (f : Slots) (share : ℕ) (t : Traces) where
  -- what is held afterwards
  abbrev after : Traces
  after = record { front = front_after q f t; back = back_after q t; copied_back = copied_back_after q t; runs = runs_after q f share t }

  -- a map moves frames from a run to fronts
  map_back : q.code ≡ map_code → back_after q t ≡ t.back
  unfolding back_after
  map_back e = rw e

  map_runs : q.code ≡ map_code
      → runs_after q f share t ≡ (less_by (run_for q.p2 t.runs) (granted q.p2 t.runs) t.runs when eqb q.p1 64 && eqb q.p3 0 else t.runs)
  unfolding runs_after
  map_runs e = rw e

  pub held-map : q.code ≡ map_code → frames_held after ≤ frames_held t
  unfolding frames_held
  held-map e =
      let c : ℕ = run_for q.p2 t.runs in
      let got : ℕ = granted q.p2 t.runs in
      let less = sum_less t.runs c got (run-low q.p2 t.runs) (granted-run q.p2 t.runs) in
      by_cases (eqb q.p1 64 && eqb q.p3 0)
      (λ y. rw (map-front q f t e, map_back e, map_runs e, y) (omega (arith, over-more t.front (first_of f q) got, less)))
      (λ y. rw (map-front q f t e, map_back e, map_runs e, y) (omega arith))

  pub held-unmap : q.code ≡ unmap_code → frames_held after ≤ frames_held t
  unfolding frames_held front_after back_after runs_after over
  held-unmap e =
      let fewer = count-le (over q.p1 q.p2 (λ i. false) t.front) t.front 64
      (λ i. by_cases (inside q.p1 q.p2 i) (λ y. rw y (λ z. cc)) (λ y. rw y (λ z. z))) in
      rw e (omega (arith, fewer))

  pub held-snapshot : q.code ≡ snapshot_code → frames_held after ≤ frames_held t
  unfolding frames_held front_after back_after runs_after
  held-snapshot e = rw e (omega (arith, count_none 64))

  -- a rewind moves fronts of uncommitted pages to runs, or frees them
  runs-gain : sum (runs_rewound f t.front t.runs) run_places ≤ sum t.runs run_places + count (λ i. t.front i && is_spared (f i)) 64
  unfolding runs_rewound
  runs-gain =
      let gain : ℕ → ℕ = λ i. one (t.front i && is_spared (f i)) in
      omega (
        arith,
        walked-sum (λ (x : ℕ). x) run_places (λ x. x) 0 (starts_area f) (λ i x. x + gain i) t.runs (omega arith) gain refl 64
            (λ i a l. omega arith) 64 (omega arith),
        count-sum (λ i. t.front i && is_spared (f i)) 64,
      )

  fronts-apart : count (λ i. t.front i && is_committed (f i)) 64 + count (λ i. t.front i && is_spared (f i)) 64 ≤ count t.front 64
  fronts-apart =
      count-apart (λ i. t.front i && is_committed (f i)) (λ i. t.front i && is_spared (f i)) t.front 64
      (λ i. by_cases (t.front i)
      (λ m. by_cases (is_spared (f i)) (λ y. rw (m, y, spared-uncommitted (f i) y) (omega arith))
      (λ y. by_cases (is_committed (f i)) (λ z. rw (m, y, z) (omega arith)) (λ z. rw (m, y, z) (omega arith))))
      (λ m. rw m (omega arith)))

  rewind-front : q.code ≡ rewind_code → front_after q f t ≡ (λ i. t.front i && is_committed (f i))
  unfolding front_after
  rewind-front e = rw e

  rewind-back : q.code ≡ rewind_code → back_after q t ≡ t.copied_back
  unfolding back_after
  rewind-back e = rw e

  rewind-runs : q.code ≡ rewind_code → runs_after q f share t ≡ runs_rewound f t.front t.runs
  unfolding runs_after
  rewind-runs e = rw e

  pub held-rewind : q.code ≡ rewind_code → t.back ≡ t.copied_back → frames_held after ≤ frames_held t
  unfolding frames_held
  held-rewind e same =
      let backs : count t.back 64 ≡ count t.copied_back 64 = ap (λ (x : ℕ → Bool). count x 64) same in
      rw (rewind-front e, rewind-back e, rewind-runs e) (omega (arith, runs-gain, fronts-apart, backs))

  -- a write takes a frame more, or gives one up first: fronts and backs leave room for it
  pub held-write : q.code ≡ write_code → page_of q < 64 → (t.front (page_of q) ≡ false → count t.front 64 + count t.back 64 + 1 ≤ share) → frames_held t ≤ share
      → frames_held after ≤ share
  unfolding frames_held front_after back_after runs_after
  held-write e low room h =
      by_cases (t.front (page_of q))
      (λ m. let same = count-le (λ i. eqb i (page_of q) || t.front i) t.front 64
      (λ i. by_cases (eqb i (page_of q)) (λ y _. rw (eqb-true i (page_of q) y) m) (λ y. rw y (λ z. z))) in
      rw (e, m) (omega (arith, same, h)))
      (λ m. let more = count-also t.front (page_of q) 64 low m in
      by_cases (ltb share (count t.front 64 + count t.back 64 + sum t.runs run_places + 1))
      (λ y. let over-share : share < count t.front 64 + count t.back 64 + sum t.runs run_places + 1 = ltb-true _ _ y in
      let some = longest-some t.runs (omega (arith, room m)) in
      let less = sum_less t.runs (longest_run t.runs) 1 (longest-low t.runs) some in
      rw (e, m, y) (omega (arith, more, less, h)))
      (λ y. let in-share : count t.front 64 + count t.back 64 + sum t.runs run_places + 1 ≤ share = ltb-false _ _ y in
      rw (e, m, y) (omega (arith, more))))

-- where no front is of an uncommitted anonymous page, a rewind leaves the runs
pub runs-idle : (f : Slots) (front : ℕ → Bool) (runs : ℕ → ℕ) → ((i : ℕ) → i < 64 → (front i && is_spared (f i)) ≡ false) → runs_rewound f front runs ≡ runs
unfolding runs_rewound
runs-idle f front runs none =
    walked-idle (λ (x : ℕ). x) run_places 0 (starts_area f) (λ i x. x + one (front i && is_spared (f i))) runs refl 64 (λ i l. rw (none i l))
