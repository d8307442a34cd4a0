-- The runs after an accepted request: their lengths are the plain machine's, and the kept frames stay zero, in one run and no entry.
use mathlib.Core.Path.{◌≡◌, sym, ap, ◌∙◌, fun_ext}
use mathlib.Core.Logic.{◌⊎◌, ⊎_elim}
use mathlib.Core.Bool.{true, false, ◌&&◌}
use mathlib.Core.Option.{none}
use Prim.Native.Nat.{ℕ, ◌+◌, ◌-◌, ◌*◌, ◌≤◌, ◌<◌}
use native.Mathlib.Omega.{arith}
use lib.Dec.{eqb}
use lib.ListN.{length}
use borrow.Author.Tests.{eqb-true}
use Rattle.basics.specs.Rows.{in_place}
use Rattle.basics.proofs.TestLaws.{by_cases, never}
use Rattle.interface.specs.declared.request.Request.{Request}
use Rattle.interface.specs.Requests.{◌is◌, map_code, write_code, snapshot_code, page_of, offset_of}
use Rattle.interface.specs.Slots.{is_mapped}
use Rattle.interface.specs.Outcome.{first_of}
use Rattle.interface.specs.Refusals.{all_mapped}
use Rattle.run_choice.specs.Runs.{run_places, run_for, granted, longest_run, gives_up, runs_rewound}
use Rattle.interface.specs.Accepted.{Accepted}
use Rattle.interface.proofs.SlotLaws.{untaken-copied}
use Rattle.interface.proofs.KindLaws.{Kind, is_map, is_unmap, is_protect, is_write, is_snapshot, is_rewind, is_other}
use Rattle.run_choice.proofs.RunLaws.{run-low, granted-run, longest-low, longest-same, run-same, granted-same, spared-uncommitted}
use Rattle.frames.specs.declared.Held.{Held}
use Rattle.frames.specs.Frames.{held, mark, count_held}
use Rattle.pages.proofs.ListedLaws.{length-listed}
use Rattle.table.specs.Store.{Store, entry, front_of, contents, Tidy, take, store_byte, free_to, move_to}
use Rattle.rewind_cases.specs.Rewind.{rewind_to}
use Rattle.table.proofs.StoreLaws.{take-tidy, store_byte-tidy}
use Rattle.table.proofs.FreeLaws.{free_to-tidy}
use Rattle.table.proofs.MoveLaws.{moved}
use Rattle.areas.specs.Areas.{slots}
use Rattle.runs.specs.declared.Runs.{Runs}
use Rattle.runs.specs.Row.{row, lengths_of, with_run_at, tabled}
use Rattle.runs.proofs.RowLaws.{tabled-length, tabled-row, with-length, with_row}
use Rattle.kept.specs.Spare.{Rows, kept_at, Spare, Words, row_rewound, left_of, with_run}
use Rattle.kept.proofs.GrantLaws.{grant-spare, lengths-less}
use Rattle.kept.proofs.WriteLaws.{given-spare, given-free, given-fewer, given-lengths, take-spare, marks-from, same-spare}
use Rattle.kept.proofs.RewindLaws.{rewind-lengths}
use Rattle.memory.proofs.RewindRuns.{rewind-spare}
use Rattle.kept.proofs.StoreRuns.{spare-rows, frees-from, moves-marks, byte-marks, mark-words, left-words, rewound-words}
use Rattle.state.specs.declared.sandbox.Sandbox.{Sandbox}
use Rattle.content.specs.Content.{page_under, copy_backing}
use Rattle.memory.specs.Memory.{holds_in, gives_at, place_for, frames_for, longest_of, runs_after, touched, keeps_front, store_after}
use Rattle.plain.specs.Machine.{Given, Kept, copy_slots, less_by, runs_after as plainRuns, kept_after, view_of}
use Rattle.plain_claims.specs.Claims.{Keeps, Reads}
use Rattle.simulation.specs.Lent.{Lent}
use Rattle.simulation.specs.Agrees.{AgreesAt}
use Rattle.simulation.proofs.ReadSteps.{at, copy-there, under, mark-none}
use Rattle.simulation.proofs.HeldSteps.{front-is, holds_same}
use Rattle.simulation.proofs.MapSteps.{run_store, run-empty}
use Rattle.simulation.proofs.StoreSteps.{write-page}

-- u is what the request leaves of the runs, r of the store; rows are those of all sandboxes before
pub record Runned (n : ℕ) (r : Store) (rows : Rows) (s : ℕ) (u : Runs) (after : ℕ → ℕ) : Type 0 where
  pub places : length u.list ≡ 8
  pub lengths_are : (i : ℕ) → i < 8 → lengths_of u i ≡ after i
  pub words : Words (row u)
  pub spare : Spare 256 n r (in_place s (row u) rows)

-- nothing changes in the rows
same_rows : (rows : Rows) (s : ℕ) → in_place s (rows s) rows ≡ rows
same_rows rows s = fun_ext λ t. by_cases (eqb s t) (λ e. rw (e, eqb-true s t e)) (λ e. rw e)

module _ {C : ℕ → Type 0} (g : Given) (L : Lent g) (q : Request) (st : Store) (T : Tidy C 256 g.frames st) (b : Sandbox) (k : Kept)
    (in_row : q.sandbox < 4) (h : Keeps k) (r : Reads g k) (A : AgreesAt g st q.sandbox b k)
    (rows : Rows) (S : Spare 256 g.frames st rows) (own : rows q.sandbox ≡ row b.runs) (W : Words (row b.runs))
    (total : ℕ) (a : Accepted (view_of g total k.core) q) (f given : ℕ)
    (gave : gives_at q b st ≡ true → (given < 128) × (held (row b.runs (longest_of b)) given ≡ 1))
    (free : (q is write_code) ≡ true → eqb (entry st (front_of q.sandbox (page_of q))) 0 ≡ true
    → (f < g.frames) × ((held st.marks f ≡ 0) × ((kept_at rows f ≡ 0) ⊎ ((gives_at q b st ≡ true) × (f ≡ given))))) where
  abbrev n : ℕ
  n = g.frames

  abbrev s : ℕ
  s = q.sandbox

  low : s < 4
  low = omega (arith, in_row)

  -- the runs stay, and the store takes no frame
  stays : (o : Store) → ((x : ℕ) → Tidy (λ y. y ≡ x) 256 n st → Tidy (λ y. y ≡ x) 256 n o) → ((x : ℕ) → x < 128 → held o.marks x ≤ held st.marks x)
      → Runned n o rows s b.runs k.traces.runs
  stays o tidy fewer =
      record {
        places = A.places;
        lengths_are = A.runs;
        words = W;
        spare = rw (← own, same_rows rows s) (same-spare 256 n st o rows T.filed S tidy fewer);
      }

  -- ---- a map that takes a run

  module _ (e : q.code ≡ map_code) (y : (eqb q.p1 64 && eqb q.p3 0) ≡ true) where
    abbrev c : ℕ
    c = place_for q b

    abbrev m : ℕ
    m = frames_for q b

    here : c < run_places
    here = run-low q.p2 (lengths_of b.runs)

    enough : m ≤ count_held (row b.runs c)
    enough = granted-run q.p2 (lengths_of b.runs)

    abbrev rest : Runs
    rest = with_run_at c (left_of (row b.runs c) m) b.runs

    rest-row : row rest ≡ in_place c (left_of (row b.runs c) m) (row b.runs)
    rest-row = fun_ext (with_row c (left_of (row b.runs c) m) b.runs (omega (arith, A.places, here)))

    rest-length : (i : ℕ) → i < 8 → lengths_of rest i ≡ less_by (run_for q.p2 k.traces.runs) (granted q.p2 k.traces.runs) k.traces.runs i
    rest-length i l =
        ap count_held (ap (λ (x : ℕ → Held). x i) rest-row) ∙ lengths-less (row b.runs) c m i enough
        ∙ rw (run-same (lengths_of b.runs) k.traces.runs A.runs q.p2, granted-same (lengths_of b.runs) k.traces.runs A.runs q.p2)
        (by_cases (eqb (run_for q.p2 k.traces.runs) i)
        (λ z. rw z (ap (λ (x : ℕ). x - granted q.p2 k.traces.runs) (A.runs _ (run-low q.p2 k.traces.runs))))
        (λ z. rw z (A.runs i l)))

    rest-words : Words (row rest)
    rest-words =
        let left = left-words (row b.runs c) m enough (W.low c here, W.high c here) in
        rw rest-row (record {
          low = λ i l. by_cases (eqb c i) (λ z. rw z left.0) (λ z. rw z (W.low i l));
          high = λ i l. by_cases (eqb c i) (λ z. rw z left.1) (λ z. rw z (W.high i l));
        })

    rest-spare : Spare 256 n (store_after g.image f q b st) (in_place s (row rest) rows)
    rest-spare =
        let place : ℕ = front_of s (first_of k.core.pages.slots q) in
        let x = run-empty g L q st T b k in_row h r A total a f rows S own e y in
        let given = grant-spare 256 n place st rows s c m low here T.filed S (rw own enough) x.0 x.1 in
        rw (run_store g L q st T b k in_row h r A total a f rows S own e y, rest-row) (rw own at given)

    run-taken : Runned n (store_after g.image f q b st) rows s rest
        (less_by (run_for q.p2 k.traces.runs) (granted q.p2 k.traces.runs) k.traces.runs)
    run-taken = record { places = with-length c _ b.runs A.places; lengths_are = rest-length; words = rest-words; spare = rest-spare }

  -- ---- a rewind

  abbrev made : Runs
  made = tabled (row_rewound st s (slots b.rec.present) (row b.runs))

  run-made : Runned n (rewind_to g.image (s * 128) (keeps_front b.rec) (copy_backing b.rec) st 64) rows s made
      (runs_rewound k.core.pages.slots k.traces.front k.traces.runs)
  run-made =
      let f' = slots b.rec.present in
      let words' = rewound-words 256 n st T.filed s f' (row b.runs) W in
      record {
        places = tabled-length (row_rewound st s f' (row b.runs));
        lengths_are = λ i l. ap count_held (tabled-row (row_rewound st s f' (row b.runs)) i l)
            ∙ rw (← A.present)
            (rewind-lengths 256 n st T.filed s f' (row b.runs) k.traces.front k.traces.runs A.runs (front-is g st s b k A) i l);
        words = record {
          low = λ i l. rw (tabled-row (row_rewound st s f' (row b.runs)) i l) (words'.low i l);
          high = λ i l. rw (tabled-row (row_rewound st s f' (row b.runs)) i l) (words'.high i l);
        };
        spare =
            spare-rows 256 n (rewind_to g.image (s * 128) (keeps_front b.rec) (copy_backing b.rec) st 64)
            (in_place s (row_rewound st s f' (row b.runs)) rows) (in_place s (row made) rows)
            (λ t i l d. by_cases (eqb s t) (λ z. rw z (sym (tabled-row (row_rewound st s f' (row b.runs)) i d))) (λ z. rw z))
            (rw own at (rewind-spare n st T.filed s f' g.image (keeps_front b.rec) (copy_backing b.rec) (copy-there g L st s b k h r A)
            (λ i z. spared-uncommitted (slots b.rec.present i) z) rows low S));
      }

  -- ---- a write

  module _ (e : q.code ≡ write_code) where
    there : is_mapped (k.core.pages.slots (page_of q)) ≡ true
    unfolding all_mapped
    there = rw e at a.mapped

    page : page_of q < 64
    page = write-page _ q e a.in_limits

    abbrev place : ℕ
    place = front_of s (page_of q)

    whole : entry st place ≡ 0 → length (page_under g.image st b.rec s (page_of q)) ≡ 256
    whole z = rw (under g L st s b k h r A (page_of q) page there (mark-none st place _ _ (A.fronts (page_of q) page) z)) (length-listed 256 _)

    -- the page's front, then its byte
    written : (rows' : Rows) → Spare 256 n st rows' → (eqb (entry st place) 0 ≡ true → kept_at rows' f ≡ 0)
        → Spare 256 n (store_byte 256 place (offset_of q) q.p2 (touched g.image f b.rec s (page_of q) st)) rows'
    unfolding touched
    written rows' S' unkept =
        by_cases (eqb (entry st place) 0)
        (λ z. let y = free (rw e) z in
        let bare : entry st place ≡ 0 = eqb-true _ 0 z in
        let o : Store = take 256 place f (page_under g.image st b.rec s (page_of q)) st in
        let in_table : place < 512 = omega (arith, in_row, page) in
        let tidy = take-tidy 256 n st T place f (page_under g.image st b.rec s (page_of q)) in_table bare y.0 y.1.0 (whole bare) in
        rw z (same-spare 256 n o (store_byte 256 place (offset_of q) q.p2 o) rows' tidy.filed
        (take-spare 256 n st rows' place f _ T.filed S' in_table bare y.0 y.1.0 (unkept z) (whole bare))
        (λ x X. store_byte-tidy 256 n o X place (offset_of q) q.p2)
        (λ x l. rw (byte-marks 256 place (offset_of q) q.p2 o) (omega arith))))
        (λ z. rw z (same-spare 256 n st (store_byte 256 place (offset_of q) q.p2 st) rows' T.filed S'
        (λ x X. store_byte-tidy 256 n st X place (offset_of q) q.p2)
        (λ x l. rw (byte-marks 256 place (offset_of q) q.p2 st) (omega arith))))

    -- it gives up a frame first where the plain machine does
    gives_same : gives_at q b st ≡ gives_up (k.traces.front (page_of q)) k.core.share (holds_in st s b)
    unfolding gives_at
    gives_same = rw (front-is g st s b k A (page_of q) page, A.share) (rw e)

    module _ (y : gives_at q b st ≡ true) where
      abbrev l : ℕ
      l = longest_of b

      abbrev less : Runs
      less = with_run_at l (mark (row b.runs l) given 0) b.runs

      here' : l < run_places
      here' = longest-low (lengths_of b.runs)

      mine : held (rows s l) given ≡ 1
      mine = rw own (gave y).1

      less-row : row less ≡ in_place l (mark (row b.runs l) given 0) (row b.runs)
      less-row = fun_ext (with_row l (mark (row b.runs l) given 0) b.runs (omega (arith, A.places, here')))

      less-rows : in_place s (row less) rows ≡ with_run s l (mark (rows s l) given 0) rows
      less-rows = rw (less-row, own)

      less-spare : Spare 256 n (store_byte 256 place (offset_of q) q.p2 (touched g.image f b.rec s (page_of q) st)) (in_place s (row less) rows)
      less-spare =
          rw less-rows
          (written (with_run s l (mark (rows s l) given 0) rows) (given-spare 256 n st rows s l given low here' mine T.filed.few S)
          (λ z. ⊎_elim
          (λ x. omega (arith, x, given-fewer 256 n st rows s l given low here' mine f))
          (λ x. rw x.1 (given-free 256 n st rows s l given low here' mine (gave y).0 S).1)
          (free (rw e) z).1.1))

      less-words : Words (row less)
      less-words =
          let two = mark-words (row b.runs l) given 0 (omega arith) (gave y).0 (W.low l here', W.high l here') in
          rw less-row (record {
            low = λ i d. by_cases (eqb l i) (λ z. rw z two.0) (λ z. rw z (W.low i d));
            high = λ i d. by_cases (eqb l i) (λ z. rw z two.1) (λ z. rw z (W.high i d));
          })

      less-length : (i : ℕ) → i < 8 → lengths_of less i ≡ less_by (longest_run k.traces.runs) 1 k.traces.runs i
      less-length i d =
          ap count_held (ap (λ (x : ℕ → Held). x i) less-row) ∙ given-lengths (row b.runs) l given i (gave y).0 (gave y).1
          ∙ rw (longest-same (lengths_of b.runs) k.traces.runs A.runs)
          (by_cases (eqb (longest_run k.traces.runs) i)
          (λ z. rw z (ap (λ (x : ℕ). x - 1) (A.runs _ (longest-low k.traces.runs))))
          (λ z. rw z (A.runs i d)))

      run-given : Runned n (store_byte 256 place (offset_of q) q.p2 (touched g.image f b.rec s (page_of q) st)) rows s less
          (less_by (longest_run k.traces.runs) 1 k.traces.runs)
      run-given = record { places = with-length l _ b.runs A.places; lengths_are = less-length; words = less-words; spare = less-spare }

    run-stays : gives_at q b st ≡ false
        → Runned n (store_byte 256 place (offset_of q) q.p2 (touched g.image f b.rec s (page_of q) st)) rows s b.runs k.traces.runs
    run-stays y =
        record {
          places = A.places;
          lengths_are = A.runs;
          words = W;
          spare = rw (← own, same_rows rows s) (written rows S (λ z. ⊎_elim (λ x. x) (λ x. never (gives_at q b st) x.0 y) (free (rw e) z).1.1));
        }

    run-written : Runned n (store_after g.image f q b st) rows s (runs_after given q b st) (kept_after g q k).traces.runs
    unfolding store_after runs_after plainRuns
    run-written =
        by_cases (gives_at q b st)
        (λ y. let z = sym gives_same ∙ y in let u = rw (holds_same g st s b k A) at z in rw (y, u) (rw e (run-given y)))
        (λ y. let z = sym gives_same ∙ y in let u = rw (holds_same g st s b k A) at z in rw (y, u) (rw e (run-stays y)))

  -- ---- any request

  -- before a snapshot there is no back
  no-backs : q.code ≡ snapshot_code → (i : ℕ) → i < 64 → contents 256 st (s * 128 + i + 64) ≡ none
  no-backs e i l =
      let none-back : k.traces.back i ≡ false =
      by_cases (k.traces.back i) (λ m. absurd (untaken-copied (copy_slots k.core) i (a.untaken (rw e)) (h.back_in i m))) (λ m. m) in
      A.backs i l ∙ rw none-back

  not-given : (q is write_code) ≡ false → gives_at q b st ≡ false
  unfolding gives_at
  not-given z = rw z

  pub runned : Kind q → Runned n (store_after g.image f q b st) rows s (runs_after given q b st) (kept_after g q k).traces.runs
  unfolding store_after runs_after plainRuns
  runned (is_map e) =
      by_cases (eqb q.p1 64 && eqb q.p3 0)
      (λ y. rw (e, y) (rw (e, y) at (run-taken e y)))
      (λ y. rw (not-given (rw e)) (rw (e, y) (stays st (λ x X. X) (λ x l. omega arith))))
  runned (is_unmap e) =
      rw (not-given (rw e)) (rw e (stays (free_to 256 (front_of s q.p1) st q.p2)
      (λ x X. free_to-tidy 256 n (front_of s q.p1) st X q.p2)
      (marks-from 256 n st (free_to 256 (front_of s q.p1) st q.p2) T.filed (free_to-tidy 256 n (front_of s q.p1) st T q.p2).filed
      (frees-from 256 (front_of s q.p1) st q.p2))))
  runned (is_protect e) = rw (not-given (rw e)) (rw e (stays st (λ x X. X) (λ x l. omega arith)))
  runned (is_write e) = run-written e
  runned (is_snapshot e) =
      rw (not-given (rw e)) (rw e (stays (move_to (s * 128) st 64)
      (λ x X. (moved 256 n (s * 128) st X (omega arith) (no-backs e) 64 (omega arith)).tidy)
      (λ x l. rw (moves-marks (s * 128) st 64) (omega arith))))
  runned (is_rewind e) = rw (not-given (rw e)) (rw e run-made)
  runned (is_other x₁ x₂ x₃ x₄ x₅ x₆) = rw (not-given x₄, x₁, x₂, x₄, x₅, x₆) (stays st (λ x X. X) (λ x l. omega arith))
