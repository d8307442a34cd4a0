-- The pass as the code keeps it says what the pass of the definition says; and the turns of its loops.
use mathlib.Core.Path.{◌≡◌, refl, sym, ap, ◌∙◌}
use mathlib.Core.Logic.{⊎_elim}
use mathlib.Core.Bool.{true, false, ◌&&◌}
use mathlib.Core.List.{List, [], ◌∷◌}
use Prim.Native.Nat.{ℕ, zero, suc, ◌+◌, ◌-◌, ◌≤◌, ◌<◌}
use native.Mathlib.Nat.{add-zero}
use native.Mathlib.Omega.{arith}
use native.Mathlib.Numerals.{add-one}
use borrow.Author.Tests.{lt-ltb, le-ltb, eq-eqb, ne_eqb, eqb-true}
use lib.Dec.{eqb}
use lib.ListN.{get_or, length, take, drop, length-take, length-drop}
use lib.Seq.{get_or-take, get_or-drop}
use Rattle.std.specs.Prelude.{fold}
use Rattle.basics.specs.Ranges.{every}
use Rattle.basics.proofs.TestLaws.{both_ways, and-false}
use Rattle.basics.proofs.LoopLaws.{every-at}
use Rattle.frames.specs.declared.Held.{Held}
use Rattle.frames.specs.Frames.{held, mark, none_held, count_held}
use Rattle.words.proofs.SumLaws.{sum_same}
use Rattle.frames.proofs.FrameLaws.{lt-or-ge, held-or, held-zero, held-mark-same, held-mark-other, count-with, none-count}
use Rattle.marks.specs.declared.Marks.{Marks}
use Rattle.entry_pass.specs.declared.Pass.{Pass}
use Rattle.marks.specs.Marks.{add_entry, marks_to, from}
use Rattle.entry_pass.specs.Pass.{pass_entry, pass_to}
use Rattle.marks.proofs.NamedLaws.{same_or}
use Rattle.marks.proofs.EntryLaws.{none_at}

-- a frame that is marked already
count-again : (h : Held) (f : ℕ) → held h f ≡ 1 → count_held (mark h f 1) ≡ count_held h
unfolding count_held
count-again h f u = sum_same (held (mark h f 1)) (held h) 128 (λ g l. ⊎_elim
    (λ e. ap (held (mark h f 1)) e ∙ held-mark-same h f 1 (omega arith) ∙ sym u ∙ ap (held h) (sym e))
    (λ d. held-mark-other h f 1 g (omega arith) d) (same_or g f))

-- what the pass of the definition is, of a pass as the code keeps it
abbrev pub found : Pass → Marks
found s = record { good = s.inside && eqb (count_held s.held) s.named; held = s.held }

module _ (n : ℕ) (few : n ≤ 128) where
  -- an entry that names none, one past the pool, one of the pool
  zero_is : (s : Pass) → pass_entry n s 0 ≡ s
  unfolding pass_entry
  zero_is s = refl

  past_is : (s : Pass) (f : ℕ) → n ≤ f → pass_entry n s (suc f) ≡ record { inside = false; named = s.named; held = s.held }
  unfolding pass_entry
  past_is s f l = rw (ne_eqb (suc f) 0 (omega arith), lt-ltb n (suc f) (omega arith))

  some_is : (s : Pass) (f : ℕ) → f < n → pass_entry n s (suc f) ≡ record { inside = s.inside; named = s.named + 1; held = mark s.held f 1 }
  unfolding pass_entry
  some_is s f l = let e : suc f - 1 ≡ f = omega arith in rw (ne_eqb (suc f) 0 (omega arith), le-ltb n (suc f) l, e)

  -- the marks are no more than the entries that name a frame
  record Step (s : Pass) (e : ℕ) : Type 0 where
    most : count_held (pass_entry n s e).held ≤ (pass_entry n s e).named
    same : add_entry n (found s) e ≡ found (pass_entry n s e)

  step : (s : Pass) (e : ℕ) → count_held s.held ≤ s.named → Step s e
  unfolding add_entry
  step s zero c = record { most = rw (zero_is s) c; same = rw (zero_is s) }
  step s (suc f) c = ⊎_elim new past (lt-or-ge f n)
    where
      d : suc f - 1 ≡ f
      d = omega arith

      past : n ≤ f → Step s (suc f)
      past l = record {
        most = rw (past_is s f l) c;
        same = rw (past_is s f l, ne_eqb (suc f) 0 (omega arith), lt-ltb n (suc f) (omega arith));
      }

      new : f < n → Step s (suc f)
      new l = ⊎_elim
          (λ u. let more = count-with s.held f (omega arith) u in record {
            most = rw (some_is s f l, more) (omega arith);
            same = rw (some_is s f l, ne_eqb (suc f) 0 (omega arith), le-ltb n (suc f) l, d, u, more, equal (count_held s.held) s.named);
          })
          (λ u. let again = count-again s.held f u in record {
            most = rw (some_is s f l, again) (omega arith);
            same = rw (
              some_is s f l,
              ne_eqb (suc f) 0 (omega arith),
              le-ltb n (suc f) l,
              d,
              u,
              again,
              ne_eqb (count_held s.held) (s.named + 1) (λ w. omega arith),
              and-false s.inside,
            );
          }) (held-or s.held f)
        where
          equal : (a b : ℕ) → eqb (a + 1) (b + 1) ≡ eqb a b
          equal a b = both_ways (eqb (a + 1) (b + 1)) (eqb a b)
              (λ w. eq-eqb a b (omega (arith, eqb-true (a + 1) (b + 1) w))) (λ w. eq-eqb (a + 1) (b + 1) (omega (arith, eqb-true a b w)))

  module _ (p : ℕ → ℕ) where
    record Both (i : ℕ) : Type 0 where
      most : count_held (pass_to n p i).held ≤ (pass_to n p i).named
      same : marks_to n p i ≡ found (pass_to n p i)

    both : (i : ℕ) → Both i
    unfolding marks_to pass_to
    both zero =
        let none : count_held none_held ≡ 0 = none-count none_held (λ f l. held-zero f) in
        record { most = omega (arith, none); same = rw none }
    both (suc i) =
        let b = both i in
        let t = step (pass_to n p i) (p i) b.most in
        record { most = t.most; same = ap (λ (m : Marks). add_entry n m (p i)) b.same ∙ t.same }

    -- the marks of the first i entries
    pub pass-marks : (i : ℕ) → found (pass_to n p i) ≡ marks_to n p i
    pass-marks i = sym (both i).same

-- ---- the code's loops

-- no more entries name a frame than there are
pub small-step : (n : ℕ) (s : Pass) (e : ℕ) → (pass_entry n s e).named ≤ s.named + 1
unfolding pass_entry
small-step n s zero = omega arith
small-step n s (suc f) = ⊎_elim
    (λ l. rw (ne_eqb (suc f) 0 (omega arith), le-ltb n (suc f) l) (omega arith))
    (λ l. rw (ne_eqb (suc f) 0 (omega arith), lt-ltb n (suc f) (omega arith)) (omega arith)) (lt-or-ge f n)

pub pass-small : (n : ℕ) (p : ℕ → ℕ) (i : ℕ) → (pass_to n p i).named ≤ i
unfolding pass_to
pass-small n p zero = omega arith
pass-small n p (suc i) = omega (arith, pass-small n p i, small-step n (pass_to n p i) (p i))

-- a run of entries, each by its place, is one list after another of them
pub pass-on : (n : ℕ) (p : ℕ → ℕ) (i : ℕ) (xs : List ℕ) → ((k : ℕ) → k < length xs → get_or xs k 0 ≡ p (i + k))
    → fold (pass_entry n) (pass_to n p i) xs ≡ pass_to n p (i + length xs)
unfolding pass_to
pass-on n p i [] h = ap (pass_to n p) (sym (add-zero i))
pass-on n p i (x ∷ xs) h =
    let here : x ≡ p i = h 0 (omega arith) ∙ ap p (add-zero i) in
    let next : (k : ℕ) → i + suc k ≡ suc i + k = λ k. omega arith in
    ap (λ (e : ℕ). fold (pass_entry n) (pass_entry n (pass_to n p i) e) xs) here
    ∙ pass-on n p (suc i) xs (λ k l. h (suc k) (omega arith) ∙ ap p (next k)) ∙ ap (pass_to n p) (sym (next (length xs)))

-- entries that name none change nothing
pub fold-none : (n : ℕ) (s : Pass) (xs : List ℕ) → ((k : ℕ) → k < length xs → get_or xs k 0 ≡ 0) → fold (pass_entry n) s xs ≡ s
unfolding pass_entry
fold-none n s [] h = refl
fold-none n s (x ∷ xs) h =
    let here : x ≡ 0 = h 0 (omega arith) in
    ap (λ (e : ℕ). fold (pass_entry n) (pass_entry n s e) xs) here ∙ fold-none n s xs (λ k l. h (suc k) (omega arith))

pub none-each : (xs : List ℕ) → every (none_at xs) 0 (length xs) ≡ true → (k : ℕ) → k < length xs → get_or xs k 0 ≡ 0
none-each xs h k l = eqb-true (get_or xs k 0) 0 (every-at (none_at xs) 0 (length xs) h k (omega arith) (omega arith))

-- a part of a table
pub pass-part : (n : ℕ) (t : List ℕ) (first i at d : ℕ) → at ≡ first + i → at + d ≤ length t
    → fold (pass_entry n) (pass_to n (from first t) i) (take d (drop at t)) ≡ pass_to n (from first t) (i + d)
pass-part n t first i at d e h =
    let whole : length (take d (drop at t)) ≡ d = simp (length-take, length-drop) (omega arith) in
    pass-on n (from first t) i (take d (drop at t))
    (λ k l.
    let place : at + k ≡ first + (i + k) = omega arith in
    get_or-take d (drop at t) k 0 (omega arith) ∙ get_or-drop at t k 0 ∙ ap (λ (j : ℕ). get_or t j 0) place)
    ∙ ap (λ (m : ℕ). pass_to n (from first t) (i + m)) whole
