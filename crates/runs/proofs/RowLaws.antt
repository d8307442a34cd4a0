-- Laws of the runs by their places.
use Prim.Native.Nat.{ℕ, zero, suc, ◌+◌, ◌-◌, ◌≤◌, ◌<◌}
use native.Mathlib.Numerals.{add-one}
use mathlib.Core.Path.{◌≡◌, refl, sym, ap, ◌∙◌}
use mathlib.Core.Bool.{Bool, true}
use mathlib.Core.List.{List, [], ◌∷◌}
use native.Mathlib.Omega.{arith}
use lib.Dec.{eqb, ltb, leb}
use borrow.Author.Tests.{eqb-true, eqb-false, lt-ltb, le-ltb, ltb-true, ltb-false, le-leb}
use lib.ListN.{length, get_or, length-set, replicate}
use lib.Seq.{get_or-set_same, get_or-set_other}
use Rattle.basics.specs.Choice.{◌when◌else◌}
use Rattle.basics.specs.Rows.{best, no_longer, in_place, moved_up, push}
use Rattle.basics.proofs.RowLaws.{best-low}
use Rattle.basics.proofs.TestLaws.{by_cases, when-cases}
use Rattle.frames.specs.declared.Held.{Held}
use Rattle.basics.specs.Ranges.{sum}
use Rattle.frames.specs.Frames.{held, none_held, same_held, count_held}
use Rattle.words.proofs.SumLaws.{sum-le}
use Rattle.frames.proofs.FrameLaws.{held-lt, held-zero, none-count, same-held-true}
use Rattle.runs.specs.declared.Runs.{Runs}
use Rattle.runs.specs.Row.{row, lengths_of, no_runs, with_run_at, row_to, tabled, shift_to, moved_runs, pushed}

to-length : (n : ℕ) (f : ℕ → Held) → length (row_to n f) ≡ n
unfolding row_to
to-length zero f = refl
to-length (suc n) f = ap suc (to-length n (λ i. f (suc i)))

to_at : (n : ℕ) (f : ℕ → Held) (i : ℕ) → i < n → get_or (row_to n f) i none_held ≡ f i
unfolding row_to
to_at zero f i l = absurd (omega arith)
to_at (suc n) f zero l = refl
to_at (suc n) f (suc i) l = to_at n (λ j. f (suc j)) i (omega arith)

pub tabled-length : (f : ℕ → Held) → length (tabled f).list ≡ 8
tabled-length f = to-length 8 f

pub tabled-row : (f : ℕ → Held) (i : ℕ) → i < 8 → row (tabled f) i ≡ f i
tabled-row f i l = to_at 8 f i l

pub with-length : (c : ℕ) (h : Held) (r : Runs) → length r.list ≡ 8 → length (with_run_at c h r).list ≡ 8
with-length c h r e = length-set r.list c h ∙ e

pub with_row : (c : ℕ) (h : Held) (r : Runs) → c < length r.list → (i : ℕ) → row (with_run_at c h r) i ≡ in_place c h (row r) i
with_row c h r l i =
    by_cases (eqb c i)
    (λ e. rw (e, ← eqb-true c i e) (get_or-set_same r.list c h none_held l))
    (λ e. rw e (get_or-set_other r.list c i h none_held (λ d. eqb-false c i e (sym d))))

-- 8 places without a frame are no run
all_none : (l : List Held) (n : ℕ) → length l ≡ n → ((i : ℕ) → i < n → get_or l i none_held ≡ none_held) → l ≡ replicate n none_held
all_none [] zero e h = refl
all_none [] (suc n) e h = absurd (omega arith)
all_none (x ∷ l) zero e h = absurd (omega arith)
all_none (x ∷ l) (suc n) e h = rw (h 0 (omega arith), all_none l n (omega (arith, e)) (λ i d. h (suc i) (omega arith)))

pub no-runs : (r : Runs) → length r.list ≡ 8 → ((i : ℕ) → i < 8 → row r i ≡ none_held) → r ≡ no_runs
no-runs r e h = let z = all_none r.list 8 e h in λ i. record { list = z i }

-- ---- the code's loops

pub count_small : (h : Held) → count_held h ≤ 128
unfolding count_held
count_small h = sum-le (held h) 128 (held-lt h)

-- a run that has the marks of no held frame has none
pub empty-count : (h j : Held) → j ≡ none_held → (r : Bool) → r ≡ same_held h j → r ≡ true → count_held h ≡ 0
empty-count h j e r s t =
    let empty : h ≡ none_held = same-held-true h j (sym s ∙ t) ∙ e in
    none-count h (λ f l. ap (λ (x : Held). held x f) empty ∙ held-zero f)

pub sum_more : (l : ℕ → ℕ) (i n x : ℕ) → n ≡ sum l i → x ≡ l i → n + x ≡ sum l (i + 1)
unfolding sum
sum_more l i n x a b = rw (add-one i) (rw (a, b))

-- ---- a push

-- a run of none changes nothing
pub pushed-empty : (r : Runs) (run : Held) → count_held run ≡ 0 → pushed r run ≡ r
unfolding pushed
pushed-empty r run e = rw (e, le-leb 0 (lengths_of r (best no_longer (lengths_of r) 8)) (omega arith))

pub pushed_none : (r : Runs) → pushed r none_held ≡ r
pushed_none r = pushed-empty r none_held (none-count none_held (λ f d. held-zero f))

-- ---- it is `push` of the row

-- what stands in each place when the first j runs after place c have moved up
shift-row : (c : ℕ) (r : Runs) → length r.list ≡ 8 → (j : ℕ) → c + j < 8 → (i : ℕ)
    → (row (shift_to c r j) i ≡ (row r i when ltb i c else (row r (i + 1) when ltb i (c + j) else row r i))) × (length (shift_to c r j).list ≡ 8)
unfolding shift_to
shift-row c r e zero l i =
    let z : c + 0 ≡ c = omega arith in
    (rw z (by_cases (ltb i c) (λ t. rw t) (λ t. rw t)), e)
shift-row c r e (suc j) l i =
    let ih = shift-row c r e j (omega arith) i in
    let nx = (shift-row c r e j (omega arith) (c + j + 1)).0 in
    let past : row (shift_to c r j) (c + j + 1) ≡ row r (c + j + 1) = nx ∙ rw (le-ltb (c + j + 1) c (omega arith), le-ltb (c + j + 1) (c + j) (omega arith)) in
    let at = with_row (c + j) (row (shift_to c r j) (c + j + 1)) (shift_to c r j) (omega (arith, ih.1)) i in (
      at ∙ by_cases (eqb (c + j) i)
          (λ t. let z : c + j ≡ i = eqb-true (c + j) i t in
          rw (t, past, le-ltb i c (omega arith), lt-ltb i (c + suc j) (omega arith)) (ap (row r) (omega arith)))
          (λ t. let d = eqb-false (c + j) i t in
          rw t (ih.0 ∙ by_cases (ltb i c) (λ u. rw u) (λ u. by_cases (ltb i (c + j))
          (λ v. let k : i < c + j = ltb-true i (c + j) v in rw (u, v, lt-ltb i (c + suc j) (omega arith)))
          (λ v. let k : c + j ≤ i = ltb-false i (c + j) v in rw (u, v, le-ltb i (c + suc j) (omega arith)))))),
      length-set (shift_to c r j).list (c + j) (row (shift_to c r j) (c + j + 1)) ∙ ih.1,
    )

moved_row : (c : ℕ) (run : Held) (r : Runs) → length r.list ≡ 8 → c < 8 → (i : ℕ) → i < 8 → row (moved_runs c run r) i ≡ moved_up 8 c run (row r) i
unfolding moved_runs moved_up
moved_row c run r e l i d =
    let s = shift-row c r e (7 - c) (omega arith) i in
    let w : c + (7 - c) ≡ 7 = omega arith in
    with_row 7 run (shift_to c r (7 - c)) (omega (arith, s.1)) i
    ∙ by_cases (eqb 7 i)
    (λ t. let z : 7 ≡ i = eqb-true 7 i t in rw (t, le-ltb i c (omega arith), le-ltb (i + 1) 8 (omega arith)))
    (λ t. let y = eqb-false 7 i t in
    rw t (s.0 ∙ by_cases (ltb i c) (λ u. rw u) (λ u. rw (u, w, lt-ltb i 7 (omega arith), lt-ltb (i + 1) 8 (omega arith)))))

pub pushed_row : (r : Runs) (run : Held) → length r.list ≡ 8 → (i : ℕ) → i < 8 → row (pushed r run) i ≡ push count_held 8 (row r) run i
unfolding pushed push
pushed_row r run e i d =
    let c : ℕ = best no_longer (lengths_of r) 8 in
    by_cases (leb (count_held run) (lengths_of r c))
    (λ t. rw t)
    (λ t. rw t (moved_row c run r e (best-low no_longer (lengths_of r) 8 (omega arith)) i d))

pub pushed-length : (r : Runs) (run : Held) → length r.list ≡ 8 → length (pushed r run).list ≡ 8
unfolding pushed moved_runs
pushed-length r run e =
    let c : ℕ = best no_longer (lengths_of r) 8 in
    let low = best-low no_longer (lengths_of r) 8 (omega arith) in
    when-cases (λ (q : Runs). length q.list ≡ 8) (leb (count_held run) (lengths_of r c)) (λ _. e)
    (λ _. length-set (shift_to c r (7 - c)).list 7 run ∙ (shift-row c r e (7 - c) (omega (arith, low)) 0).1)

-- two with equal rows are equal
same-list : (l m : List Held) (n : ℕ) → length l ≡ n → length m ≡ n → ((i : ℕ) → i < n → get_or l i none_held ≡ get_or m i none_held) → l ≡ m
same-list [] [] n a b h = refl
same-list [] (y ∷ m) n a b h = absurd (omega (arith, a, b))
same-list (x ∷ l) [] n a b h = absurd (omega (arith, a, b))
same-list (x ∷ l) (y ∷ m) zero a b h = absurd (omega arith)
same-list (x ∷ l) (y ∷ m) (suc n) a b h = rw (h 0 (omega arith), same-list l m n (omega (arith, a)) (omega (arith, b)) (λ i d. h (suc i) (omega arith)))

pub same_runs : (r q : Runs) → length r.list ≡ 8 → length q.list ≡ 8 → ((i : ℕ) → i < 8 → row r i ≡ row q i) → r ≡ q
same_runs r q a b h = let z = same-list r.list q.list 8 a b h in λ i. record { list = z i }
