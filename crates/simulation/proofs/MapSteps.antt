-- The store after an accepted map: nothing changes, but that the first pages of a map that takes a run have fronts of zeros.
use mathlib.Core.Path.{◌≡◌, refl, sym, ap, ◌∙◌, fun_ext}
use mathlib.Core.Logic.{◌⊎◌, inl, inr, ⊎_elim}
use mathlib.Core.Bool.{Bool, true, false, ◌&&◌}
use mathlib.Core.Option.{some, none}
use Prim.Native.Nat.{ℕ, ◌+◌, ◌-◌, ◌*◌, ◌≤◌, ◌<◌}
use native.Mathlib.Omega.{arith}
use lib.Dec.{eqb}
use Rattle.basics.specs.Ranges.{inside, over}
use Rattle.basics.proofs.TestLaws.{by_cases, and_right, same_true, never}
use Rattle.basics.proofs.LoopLaws.{every-at}
use Rattle.basics.proofs.RangeLaws.{inside-first, inside-end, inside-yes, over-in, over-out, over-cases}
use Rattle.basics.specs.Choice.{◌when◌else◌}
use Rattle.interface.specs.declared.page.Backing.TheVariants.{Anonymous, Image}
use Rattle.interface.specs.declared.request.Request.{Request}
use Rattle.interface.specs.Requests.{map_code}
use Rattle.interface.specs.Slots.{is_mapped, advance}
use Rattle.interface.specs.Outcome.{first_of, copy_after}
use Rattle.interface.specs.Refusals.{View}
use Rattle.interface.specs.Accepted.{Accepted}
use Rattle.interface.proofs.AcceptedLaws.{map-fits, map-unmapped}
use Rattle.run_choice.proofs.RunLaws.{run-low, granted-le, granted-run, granted-same}
use Rattle.frames.specs.Frames.{count_held}
use Rattle.frames.proofs.FrameLaws.{lt-or-ge}
use Rattle.pages.specs.Parts.{listed, zeros}
use Rattle.pages.proofs.ListedLaws.{zeros-listed}
use Rattle.table.specs.Store.{Store, front_of, back_of, contents, Tidy}
use Rattle.table.proofs.FiledLaws.{other-sandbox}
use Rattle.state.specs.declared.sandbox.Sandbox.{Sandbox}
use Rattle.runs.specs.Row.{row, lengths_of}
use Rattle.kept.specs.Spare.{Rows, Spare, grant_to}
use Rattle.kept.proofs.GrantLaws.{Granted, grant}
use Rattle.memory.specs.Memory.{place_for, frames_for, store_after}
use Rattle.plain.specs.Machine.{Given, Kept, copy_bytes, new_bytes, backing_byte, bytes_after, front_after, back_after, kept_after, view_of}
use Rattle.plain_claims.specs.Claims.{Keeps, Reads}
use Rattle.simulation.specs.Lent.{Lent}
use Rattle.simulation.specs.Agrees.{page_if, AgreesAt}
use Rattle.simulation.proofs.ReadSteps.{at, no_front}

-- st is the store before, r the store after, k what the plain machine keeps for s after
pub record Stored (C : ℕ → Type 0) (g : Given) (st r : Store) (s : ℕ) (k : Kept) : Type 0 where
  pub tidy : Tidy C 256 g.frames r
  pub fronts : (i : ℕ) → i < 64 → contents 256 r (front_of s i) ≡ page_if (k.traces.front i) (k.core.pages.bytes i)
  pub backs : (i : ℕ) → i < 64 → contents 256 r (back_of s i) ≡ page_if (k.traces.back i) (copy_bytes k.core.copy i)
  pub others : (t x : ℕ) → (s ≡ t → ⊥) → x < 128 → contents 256 r (t * 128 + x) ≡ contents 256 st (t * 128 + x)

-- the pages that a map takes were not mapped
pub map-free : (v : View) (q : Request) → Accepted v q → q.code ≡ map_code → (i : ℕ) → inside (first_of v.slots q) q.p2 i ≡ true
    → is_mapped (v.slots i) ≡ false
map-free v q a e i m =
    sym (same_true false (is_mapped (v.slots i))
    (every-at _ _ q.p2 (map-unmapped v q a e) i (inside-first _ q.p2 i m) (inside-end _ q.p2 i m)))

-- a number that is not one of the n from a on
pub inside-out : (a n i : ℕ) → inside a n i ≡ false → (i < a) ⊎ (a + n ≤ i)
inside-out a n i m =
    ⊎_elim (λ l. inl l) (λ l. ⊎_elim (λ d. never (inside a n i) (inside-yes a n i l d) m) (λ d. inr d) (lt-or-ge i (a + n))) (lt-or-ge i a)

module _ {C : ℕ → Type 0} (g : Given) (L : Lent g) (q : Request) (st : Store) (T : Tidy C 256 g.frames st) (b : Sandbox) (k : Kept)
    (in_row : q.sandbox < 4) (h : Keeps k) (r : Reads g k) (A : AgreesAt g st q.sandbox b k) where
  module _ (total : ℕ) (a : Accepted (view_of g total k.core) q) (f : ℕ) where
    -- a map that takes no run
    stored-plain : q.code ≡ map_code → (eqb q.p1 64 && eqb q.p3 0) ≡ false → Stored C g st (store_after g.image f q b st) q.sandbox (kept_after g q k)
    unfolding store_after front_after back_after bytes_after copy_after
    stored-plain e y =
        let free : (i : ℕ) → inside (first_of k.core.pages.slots q) q.p2 i ≡ true → is_mapped (k.core.pages.slots i) ≡ false =
        map-free (view_of g total k.core) q a e in
        let free' = rw e at free in
        record {
          tidy = rw (e, y) T;
          fronts = λ i l. rw (e, y)
              (over-cases (λ z. contents 256 st (front_of q.sandbox i) ≡ page_if (k.traces.front i) z) _ _ _ _ i
              (λ m. let n = no_front g L st q.sandbox b k h r A i (free' i m) in rw n (rw n at (A.fronts i l))) (A.fronts i l));
          backs = λ i l. rw (e, y) (A.backs i l);
          others = λ t x d l. rw (e, y) refl;
        }

    -- a map that takes a run: its first pages have fronts of zeros
    module _ (rows : Rows) (S : Spare 256 g.frames st rows) (own : rows q.sandbox ≡ row b.runs) (e : q.code ≡ map_code)
        (y : (eqb q.p1 64 && eqb q.p3 0) ≡ true) where
      abbrev first : ℕ
      first = first_of k.core.pages.slots q

      abbrev place : ℕ
      place = front_of q.sandbox first

      abbrev got : ℕ
      got = frames_for q b

      fits : first + q.p2 ≤ 64
      fits = map-fits (view_of g total k.core) q a e

      less : got ≤ q.p2
      less = granted-le q.p2 (lengths_of b.runs)

      pub run_store : store_after g.image f q b st ≡ grant_to 256 place (row b.runs (place_for q b)) st got
      unfolding store_after
      run_store = rw A.present (rw (e, y))

      run-front : (i : ℕ) → (kept_after g q k).traces.front i ≡ over first got (λ j. true) k.traces.front i
      unfolding front_after
      run-front i = rw (granted-same (lengths_of b.runs) k.traces.runs A.runs q.p2) (rw (e, y))

      run-bytes : (i : ℕ) → (kept_after g q k).core.pages.bytes i ≡ over first q.p2 (new_bytes g q first) k.core.pages.bytes i
      unfolding bytes_after
      run-bytes i = rw e

      run-copy : (kept_after g q k).core.copy ≡ k.core.copy
      unfolding copy_after
      run-copy = rw e

      run-back : (kept_after g q k).traces.back ≡ k.traces.back
      unfolding back_after
      run-back = rw e

      bare : (i : ℕ) → inside first q.p2 i ≡ true → k.traces.front i ≡ false
      bare i m = no_front g L st q.sandbox b k h r A i (map-free (view_of g total k.core) q a e i m)

      empty : (j : ℕ) → j < got → contents 256 st (place + j) ≡ none
      empty j l =
          let n = bare (first + j) (inside-yes first q.p2 (first + j) (omega arith) (omega (arith, less))) in
          let z : place + j ≡ front_of q.sandbox (first + j) = omega arith in
          rw z (A.fronts (first + j) (omega (arith, fits, less)) ∙ rw n)

      pub run-empty : (place + got ≤ 512) × ((j : ℕ) → j < got → contents 256 st (place + j) ≡ none)
      run-empty = (omega (arith, in_row, fits, less), empty)

      run-granted : Granted C 256 g.frames place (row b.runs (place_for q b)) st got (grant_to 256 place (row b.runs (place_for q b)) st got)
      run-granted =
          let enough : got ≤ count_held (rows q.sandbox (place_for q b)) = rw own (granted-run q.p2 (lengths_of b.runs)) in
          rw own at (grant 256 g.frames place st rows q.sandbox (place_for q b) got (omega (arith, in_row)) (run-low q.p2 (lengths_of b.runs))
          T.filed S enough (omega (arith, in_row, fits, less)) empty T)

      zero-page : (i : ℕ) → inside first q.p2 i ≡ true → some (zeros 256) ≡ page_if true (over first q.p2 (new_bytes g q first) k.core.pages.bytes i)
      zero-page i m =
          let anonymous : eqb q.p3 0 ≡ true = and_right (eqb q.p1 64) _ y in
          let new : new_bytes g q first i ≡ backing_byte g.image Anonymous =
          fun_ext (λ j. ap (λ (t : Bool). backing_byte g.image (advance (Anonymous when t else Image (record { 0 = q.p4 })) (i - first)) j) anonymous) in
          ap some (zeros-listed 256)
          ∙ ap (λ (x : ℕ → ℕ). some (listed 256 x)) (sym (over-in first q.p2 (new_bytes g q first) k.core.pages.bytes i m ∙ new))

      run-fronts : (i : ℕ) → i < 64 → contents 256 (grant_to 256 place (row b.runs (place_for q b)) st got) (front_of q.sandbox i)
          ≡ page_if (over first got (λ j. true) k.traces.front i) (over first q.p2 (new_bytes g q first) k.core.pages.bytes i)
      run-fronts i l =
          by_cases (inside first got i)
          (λ m. let z : front_of q.sandbox i ≡ place + (i - first) = omega (arith, inside-first first got i m) in
          let wide : inside first q.p2 i ≡ true = inside-yes first q.p2 i (inside-first first got i m) (omega (arith, inside-end first got i m, less)) in
          rw (z, over-in first got (λ j. true) k.traces.front i m)
          (run-granted.inside (i - first) (omega (arith, inside-first first got i m, inside-end first got i m)) ∙ zero-page i wide))
          (λ m. rw (over-out first got (λ j. true) k.traces.front i m)
          (run-granted.outside (front_of q.sandbox i) (⊎_elim (λ n. inl (omega arith)) (λ n. inr (omega arith)) (inside-out first got i m))
          ∙ over-cases (λ z. contents 256 st (front_of q.sandbox i) ≡ page_if (k.traces.front i) z) first q.p2 (new_bytes g q first)
          k.core.pages.bytes i
          (λ d. let n = bare i d in rw n (rw n at (A.fronts i l))) (A.fronts i l)))

      stored-run : Stored C g st (store_after g.image f q b st) q.sandbox (kept_after g q k)
      stored-run =
          rw run_store (record {
            tidy = run-granted.tidy;
            fronts = λ i l. rw (run-front i, run-bytes i) (run-fronts i l);
            backs = λ i l. rw (run-back, run-copy) (run-granted.outside (back_of q.sandbox i) (inr (omega (arith, fits, less))) ∙ A.backs i l);
            others = λ t x d l. run-granted.outside (t * 128 + x)
                (⊎_elim (λ n. inl (omega arith)) (λ n. inr (omega (arith, fits, less))) (other-sandbox q.sandbox t x 128 d l (omega arith)));
          })

    pub stored-map : (rows : Rows) → Spare 256 g.frames st rows → rows q.sandbox ≡ row b.runs → q.code ≡ map_code
        → Stored C g st (store_after g.image f q b st) q.sandbox (kept_after g q k)
    stored-map rows S own e = by_cases (eqb q.p1 64 && eqb q.p3 0) (stored-run rows S own e) (stored-plain e)
