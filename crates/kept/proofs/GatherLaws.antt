-- The runs gathered by the code's loop are those of the definition.
use mathlib.Core.Path.{◌≡◌, refl, sym, ap, ◌∙◌}
use Prim.Native.Nat.{ℕ, zero, suc, ◌+◌, ◌<◌}
use native.Mathlib.Omega.{arith}
use lib.Dec.{ltb, leb}
use lib.ListN.{length}
use borrow.Author.Tests.{ltb-true}
use Rattle.basics.specs.Rows.{best, no_longer, moved_up, push, Walk, walk_to, walked}
use Rattle.basics.proofs.TestLaws.{by_cases}
use Rattle.basics.proofs.RowLaws.{best-low, best-same}
use Rattle.interface.specs.Slots.{Slots, starts_area}
use Rattle.frames.specs.declared.Held.{Held}
use Rattle.frames.specs.Frames.{none_held, count_held}
use Rattle.table.specs.Store.{Store}
use Rattle.runs.specs.declared.Runs.{Runs}
use Rattle.runs.specs.Row.{row, pushed, tabled}
use Rattle.runs.proofs.RowLaws.{tabled-length, tabled-row, pushed_row, pushed-length, same_runs}
use Rattle.kept.specs.Spare.{Row, gather, row_rewound}
use Rattle.kept.specs.Gather.{Gathering, gather_to, gathered}

-- rows that agree in 8 places agree after a push
moved_same : (c : ℕ) (a b : Row) (v : Held) → ((i : ℕ) → i < 8 → a i ≡ b i) → (i : ℕ) → i < 8 → moved_up 8 c v a i ≡ moved_up 8 c v b i
unfolding moved_up
moved_same c a b v e i l =
    by_cases (ltb i c) (λ x. rw x (e i l)) (λ x. by_cases (ltb (i + 1) 8) (λ y. rw (x, y) (e (i + 1) (ltb-true _ _ y))) (λ y. rw (x, y)))

push-same : (a b : Row) (v : Held) → ((i : ℕ) → i < 8 → a i ≡ b i) → (i : ℕ) → i < 8 → push count_held 8 a v i ≡ push count_held 8 b v i
unfolding push
push-same a b v e i l =
    let c : ℕ = best no_longer (λ j. count_held (a j)) 8 in
    let d : ℕ = best no_longer (λ j. count_held (b j)) 8 in
    let place : c ≡ d = best-same no_longer (λ j. count_held (a j)) (λ j. count_held (b j)) 8 (λ j m. ap count_held (e j m)) in
    let low = best-low no_longer (λ j. count_held (b j)) 8 (omega arith) in
    let test : leb (count_held v) (count_held (a c)) ≡ leb (count_held v) (count_held (b d)) = rw (place, e d low) in
    by_cases (leb (count_held v) (count_held (b d)))
    (λ x. rw (test, x) (e i l))
    (λ x. rw (test, x, place) (moved_same d a b v e i l))

module _ (st : Store) (s : ℕ) (f : Slots) (r : Runs) (eight : length r.list ≡ 8) where
  record Along (m : ℕ) : Type 0 where
    whole : length (gather_to st s f r m).runs.list ≡ 8
    rows : (i : ℕ) → i < 8 → row (gather_to st s f r m).runs i ≡ (walk_to count_held 8 none_held (starts_area f) (gather st s f) (row r) m).row i
    hand : (gather_to st s f r m).current ≡ (walk_to count_held 8 none_held (starts_area f) (gather st s f) (row r) m).current

  along : (m : ℕ) → Along m
  unfolding gather_to walk_to
  along zero = record { whole = eight; rows = λ i l. refl; hand = refl }
  along (suc m) =
      let ih = along m in
      let w : Gathering = gather_to st s f r m in
      let v : Walk Held = walk_to count_held 8 none_held (starts_area f) (gather st s f) (row r) m in
      by_cases (starts_area f m)
      (λ e. record {
        whole = rw e (pushed-length w.runs w.current ih.whole);
        rows = λ i l.
            rw e (pushed_row w.runs w.current ih.whole i l ∙ push-same (row w.runs) v.row w.current ih.rows i l
            ∙ ap (λ (h : Held). push count_held 8 v.row h i) ih.hand);
        hand = rw e;
      })
      (λ e. record { whole = rw e ih.whole; rows = λ i l. rw e (ih.rows i l); hand = rw e (ap (gather st s f m) ih.hand) })

  pub gathered-is : gathered st s f r ≡ tabled (row_rewound st s f (row r))
  unfolding gathered row_rewound walked
  gathered-is =
      let a = along 64 in
      let w : Gathering = gather_to st s f r 64 in
      let v : Walk Held = walk_to count_held 8 none_held (starts_area f) (gather st s f) (row r) 64 in
      same_runs (pushed w.runs w.current) (tabled (row_rewound st s f (row r))) (pushed-length w.runs w.current a.whole)
      (tabled-length (row_rewound st s f (row r)))
      (λ i l. pushed_row w.runs w.current a.whole i l ∙ push-same (row w.runs) v.row w.current a.rows i l
      ∙ ap (λ (h : Held). push count_held 8 v.row h i) a.hand
      ∙ sym (tabled-row (row_rewound st s f (row r)) i l))
