-- What an accepted call makes of the runs of kept frames: a map that takes one, a write that gives up a frame, a rewind, and every other call.
use mathlib.Core.Path.{◌≡◌, refl, sym, ap, ◌∙◌, fun_ext}
use mathlib.Core.Logic.{◌⊎◌, inl, inr, ⊎_elim}
use mathlib.Core.Bool.{Bool, true, false, not, ◌&&◌, false≢true}
use mathlib.Core.Option.{none}
use mathlib.Core.List.{List, [], ◌∷◌}
use Prim.Native.Nat.{ℕ, zero, suc, ◌+◌, ◌≤◌, ◌<◌}
use native.Mathlib.Omega.{arith}
use lib.Dec.{eqb}
use lib.ListN.{length, get_or, set, get_or-eq_default}
use lib.Seq.{get_or-set_same, get_or-set_other}
use borrow.Author.Tests.{eqb-true, eqb-false}
use Rattle.basics.specs.Ranges.{count}
use Rattle.basics.proofs.TestLaws.{by_cases, and_left, and_right, never}
use Rattle.basics.proofs.RangeLaws.{inside-yes}
use Rattle.interface.specs.declared.request.Request.{Request}
use Rattle.interface.specs.Requests.{◌is◌, open_code, map_code, write_code, rewind_code}
use Rattle.run_choice.specs.Runs.{run_places, is_spared, takes_run}
use Rattle.run_choice.proofs.RunLaws.{run-low, granted-le, granted-run, longest-low}
use Rattle.frames.specs.declared.Held.{Held}
use Rattle.frames.specs.Frames.{held, mark}
use Rattle.frames.proofs.FrameLaws.{lt-or-ge}
use Rattle.words.proofs.SumLaws.{sum_same}
use Rattle.pages.specs.Parts.{frame}
use Rattle.table.specs.Store.{Store, entry, front_of, contents, Tidy}
use Rattle.table.proofs.StoreLaws.{contents-none}
use Rattle.areas.specs.Areas.{slots}
use Rattle.runs.specs.declared.Runs.{Runs}
use Rattle.runs.specs.Row.{row, lengths_of, with_run_at, tabled}
use Rattle.runs.proofs.RowLaws.{tabled-row, with_row}
use Rattle.kept.specs.Spare.{Row, kept_in, kept_at, spares, row_rewound, left_of, grant_to, with_run}
use Rattle.kept.proofs.GrantLaws.{grant}
use Rattle.kept.proofs.WriteLaws.{given-fewer, given-free}
use Rattle.kept.proofs.RewindLaws.{runs-gain}
use Rattle.kept.proofs.StoreRuns.{kept_same}
use Rattle.state.specs.declared.sandbox.Sandbox.{Sandbox}
use Rattle.records.specs.declared.Record.{Record}
use Rattle.state.specs.World.{World, sandbox_at, with_runs, closed_sandbox, frames_of, rows_of}
use Rattle.rules.specs.After.{record_after}
use Rattle.memory.specs.Memory.{gives_at, place_for, frames_for, longest_of, runs_after, store_after}
use Rattle.step.specs.Step.{sandbox_then, takes, gives, OfLongest, Outcome, Stepped}
use Rattle.step.proofs.StayLaws.{record_same}
use Rattle.simulation.proofs.StepLaws.{taking, gives-takes}
use Rattle.simulation.proofs.MapSteps.{map-free}
use Rattle.simulation.proofs.GrantSteps.{grant-front}
use Rattle.simulation.proofs.AcceptedLaws.{number, left, met, sound-parts, own, free}
use Rattle.claims.specs.Touches.{run_taken, first_page, Grants}
use Rattle.claims.proofs.TouchSteps.{run-after, Meets, run-pool}

-- ---- lists and counts

-- one sandbox replaced by another with the same runs
set_runs : (l : List Sandbox) (s t : ℕ) (x : Sandbox) → x.runs ≡ (get_or l s closed_sandbox).runs
    → (get_or (set l s x) t closed_sandbox).runs ≡ (get_or l t closed_sandbox).runs
set_runs [] s t x e = refl
set_runs (y ∷ l) zero zero x e = e
set_runs (y ∷ l) zero (suc t) x e = refl
set_runs (y ∷ l) (suc s) zero x e = refl
set_runs (y ∷ l) (suc s) (suc t) x e = set_runs l s t x e

-- what is counted is there
some-counted : (p : ℕ → Bool) (n : ℕ) → 1 ≤ count p n → (i : ℕ) × ((i < n) × (p i ≡ true))
unfolding count
some-counted p zero l = absurd (omega arith)
some-counted p (suc n) l =
    by_cases (p n) (λ e. (n, (omega arith, e)))
    (λ e. let m : 1 ≤ count p n + 0 = rw e at l in let r = some-counted p n (omega arith) in (r.0, (omega (arith, r.1.0), r.1.1)))

kept-in-same : (a c : Row) (f : ℕ) → ((i : ℕ) → i < run_places → a i ≡ c i) → kept_in a f ≡ kept_in c f
unfolding kept_in
kept-in-same a c f e = sum_same (λ i. held (a i) f) (λ i. held (c i) f) run_places (λ i l. ap (λ (h : Held). held h f) (e i l))

module _ (image : List ℕ) (w : World) (q : Request) (o : Outcome) (s : Stepped image w q o) (n : o.answer.number ≡ 0) where
  abbrev b : Sandbox
  b = sandbox_at w q.sandbox

  abbrev after : Store
  after = store_after image s.frame q b w.store

  pub low : q.sandbox < 4
  low = omega (arith, (met image w q o s n).in_row)

  pub store_is : o.world.store ≡ after
  store_is = ap (λ (x : World). x.store) (left image w q o s n)

  pub sandboxes-are : o.world.sandboxes ≡ set w.sandboxes q.sandbox (sandbox_then s.given w q)
  sandboxes-are = ap (λ (x : World). x.sandboxes) (left image w q o s n)

  -- past the row stands a closed sandbox
  in-row : b.rec.opened ≡ true → q.sandbox < length w.sandboxes
  in-row e =
      ⊎_elim (λ l. l)
      (λ l. absurd (false≢true (sym (ap (λ (x : Sandbox). x.rec.opened) (get_or-eq_default w.sandboxes closed_sandbox l)) ∙ e)))
      (lt-or-ge q.sandbox (length w.sandboxes))

  pub here : (q is open_code) ≡ false → sandbox_at o.world q.sandbox ≡ sandbox_then s.given w q
  here x =
      ap (λ (l : List Sandbox). get_or l q.sandbox closed_sandbox) sandboxes-are
      ∙ get_or-set_same w.sandboxes q.sandbox (sandbox_then s.given w q) closed_sandbox (in-row ((met image w q o s n).opened x))

  own_row : (q is open_code) ≡ false → rows_of o.world q.sandbox ≡ row (runs_after s.given q b w.store)
  own_row x = ap (λ (c : Sandbox). row c.runs) (here x)

  elsewhere : (t : ℕ) → (q.sandbox ≡ t → ⊥) → sandbox_at o.world t ≡ sandbox_at w t
  elsewhere t apart =
      ap (λ (l : List Sandbox). get_or l t closed_sandbox) sandboxes-are
      ∙ get_or-set_other w.sandboxes q.sandbox t (sandbox_then s.given w q) closed_sandbox (λ z. apart (sym z))

  -- ---- the calls that leave the runs

  given-or : (v : Bool) → gives image w q ≡ v → gives_at q b w.store ≡ v
  unfolding gives
  given-or v g = rw (number image w q o s n) at g

  pub runs_same : takes_run q ≡ false → (q is rewind_code) ≡ false → gives image w q ≡ false → runs_after s.given q b w.store ≡ b.runs
  unfolding runs_after
  runs_same t r g = rw (t, given-or false g, r)

  pub runs-stay : takes_run q ≡ false → (q is rewind_code) ≡ false → gives image w q ≡ false → (t : ℕ) → (sandbox_at o.world t).runs ≡ (sandbox_at w t).runs
  runs-stay x r g t =
      ap (λ (l : List Sandbox). (get_or l t closed_sandbox).runs) sandboxes-are
      ∙ set_runs w.sandboxes q.sandbox t (sandbox_then s.given w q) (runs_same x r g)

  -- ---- a map that takes a run

  module _ (y : takes_run q ≡ true) (meets : Meets image s.frame q b (frames_of w) w.store) where
    maps : q.code ≡ map_code
    maps = eqb-true q.code map_code (and_left (q is map_code) _ y)

    abbrev first : ℕ
    first = front_of q.sandbox (first_page b q)

    abbrev got : ℕ
    got = frames_for q b

    unmapped : (j : ℕ) → j < got → contents 256 w.store (first + j) ≡ none
    unmapped j l =
        let inside = inside-yes (first_page b q) q.p2 (first_page b q + j) (omega arith) (omega (arith, granted-le q.p2 (lengths_of b.runs))) in
        let page : first + j ≡ front_of q.sandbox (first_page b q + j) = omega arith in
        rw page (contents-none 256 w.store (front_of q.sandbox (first_page b q + j))
        ((own image w q o s n).fronts (first_page b q + j) (omega (arith, meets.fits y)) (map-free _ q (met image w q o s n) maps (first_page b q + j) inside)))

    tidy : Tidy (λ f. ⊥) 256 (frames_of w) w.store
    tidy = record { filed = (sound-parts image w q o s n).filed; clean = λ f c. absurd c }

    left-run : runs_after s.given q b w.store ≡ with_run_at (place_for q b) (left_of (run_taken b q) got) b.runs
    unfolding runs_after
    left-run = rw y

    pub grants : Grants w q b o.world
    grants =
        let stored : o.world.store ≡ grant_to 256 first (run_taken b q) w.store got = store_is ∙ run-after image s.frame q b w.store y in
        let here' = run-low q.p2 (lengths_of b.runs) in
        record {
          pool = ap (λ (x : Store). x.pool) store_is ∙ run-pool image s.frame q b (frames_of w) w.store meets y;
          fronts = λ j l.
              let page : front_of q.sandbox (first_page b q + j) ≡ first + j = omega arith in
              rw (stored, page) (grant-front 256 first (run_taken b q) w.store got j l (omega (arith, meets.fits y, low, tidy.filed.entries)));
          marks = rw stored
              (grant 256 (frames_of w) first w.store (rows_of w) q.sandbox (place_for q b) got low here' tidy.filed (sound-parts image w q o s n).spare
              (granted-run q.p2 (lengths_of b.runs)) (omega (arith, meets.fits y, low)) unmapped tidy).marks;
          runs = own_row (rw maps) ∙ ap row left-run
              ∙ fun_ext (with_row (place_for q b) (left_of (run_taken b q) got) b.runs (omega (arith, (own image w q o s n).places, here')));
        }

  -- ---- a write that gives up a frame

  module _ (g : gives image w q ≡ true) where
    writes : q.code ≡ write_code
    writes = (taking image w q (gives-takes image w q g)).writes

    abbrev l : ℕ
    l = longest_of b

    of_longest : OfLongest w q.sandbox s.given
    of_longest = s.chosen.gave g

    less-run : runs_after s.given q b w.store ≡ with_run_at l (mark (row b.runs l) s.given 0) b.runs
    unfolding runs_after
    less-run = let no : takes_run q ≡ false = rw writes in rw (no, given-or true g)

    pub gave : OfLongest w q.sandbox s.given
        × (o.world.sandboxes ≡ set w.sandboxes q.sandbox (with_runs (with_run_at l (mark (row b.runs l) s.given 0) b.runs) b))
    gave = (
      of_longest,
      sandboxes-are
          ∙ ap (λ (r : Runs). set w.sandboxes q.sandbox (record { rec = record_after q b.rec; runs = r })) less-run
          ∙ ap (λ (c : Record). set w.sandboxes q.sandbox (record { rec = c; runs = with_run_at l (mark (row b.runs l) s.given 0) b.runs }))
          (record_same q (rw writes) (rw writes) (rw writes) (rw writes) b.rec ((met image w q o s n).opened (rw writes))),
    )

    rows_then : (t : ℕ) → rows_of o.world t ≡ with_run q.sandbox l (mark (rows_of w q.sandbox l) s.given 0) (rows_of w) t
    rows_then t =
        by_cases (eqb q.sandbox t)
        (λ e. rw e
        (ap (rows_of o.world) (sym (eqb-true q.sandbox t e)) ∙ own_row (rw writes) ∙ ap row less-run
        ∙ fun_ext (with_row l (mark (row b.runs l) s.given 0) b.runs (omega (arith, (own image w q o s n).places, longest-low (lengths_of b.runs))))))
        (λ e. rw e (ap (λ (c : Sandbox). row c.runs) (elsewhere t (eqb-false q.sandbox t e))))

  -- ---- the frame that a write takes is kept by no run afterwards

  pub unkept : takes image w q ≡ true → kept_at (rows_of o.world) s.frame ≡ 0
  unkept t =
      by_cases (gives image w q)
      (λ g.
      let c : ℕ = longest_of b in
      let place : c < run_places = longest-low (lengths_of b.runs) in
      let G = of_longest g in
      let S = (sound-parts image w q o s n).spare in
      rw (fun_ext (rows_then g))
      (⊎_elim
      (λ f. omega (arith, f.unkept, given-fewer 256 (frames_of w) w.store (rows_of w) q.sandbox c s.given low place G.kept s.frame))
      (λ f. rw f.1 (given-free 256 (frames_of w) w.store (rows_of w) q.sandbox c s.given low place G.kept G.low S).1)
      (s.chosen.free t)))
      (λ g.
      let writes = (taking image w q t).writes in
      kept_same (rows_of o.world) (rows_of w) (λ u i l m. ap (λ (r : Runs). row r i) (runs-stay (rw writes) (rw writes) g u)) s.frame
      ∙ ⊎_elim (λ f. f.unkept) (λ f. never (gives image w q) f.0 g) (s.chosen.free t))

  -- ---- a rewind

  made : q.code ≡ rewind_code → runs_after s.given q b w.store ≡ tabled (row_rewound w.store q.sandbox (slots b.rec.present) (row b.runs))
  unfolding runs_after gives_at
  made e = rw e

  pub gathered : q.code ≡ rewind_code → (f : ℕ) → 1 ≤ kept_in (rows_of o.world q.sandbox) f
      → (1 ≤ kept_in (rows_of w q.sandbox) f)
      ⊎ ((i : ℕ) × ((i < 64) × ((is_spared (slots b.rec.present i) ≡ true) × (entry w.store (front_of q.sandbox i) ≡ suc f))))
  gathered e f k =
      let st : Store = w.store in
      let new : Row = row_rewound st q.sandbox (slots b.rec.present) (row b.runs) in
      let same : kept_in (rows_of o.world q.sandbox) f ≡ kept_in new f =
      ap (λ (r : Row). kept_in r f) (own_row (rw e) ∙ ap row (made e)) ∙ kept-in-same (row (tabled new)) new f (tabled-row new) in
      let gain = runs-gain 256 (frames_of w) st (sound-parts image w q o s n).filed q.sandbox (slots b.rec.present) (row b.runs) f in
      ⊎_elim
      (λ none. inr
      (let r = some-counted (λ i. spares st q.sandbox (slots b.rec.present) i && eqb (entry st (front_of q.sandbox i)) (suc f)) 64 (omega arith) in
      let i = r.0 in
      let goes = r.1.1 in (
        i,
        (
          r.1.0,
          (
            and_right (not (eqb (entry st (front_of q.sandbox i)) 0)) _ (and_left (spares st q.sandbox (slots b.rec.present) i) _ goes),
            eqb-true (entry st (front_of q.sandbox i)) (suc f) (and_right (spares st q.sandbox (slots b.rec.present) i) _ goes),
          ),
        ),
      )))
      (λ some'. inl some')
      (lt-or-ge (kept_in (rows_of w q.sandbox) f) 1)
