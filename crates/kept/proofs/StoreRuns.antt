-- The kept frames through the store's folds that take no frame; words of 64 bits; rows that agree in their 8 places.
use mathlib.Core.Path.{◌≡◌, refl, sym, ap, ◌∙◌}
use mathlib.Core.Logic.{◌⊎◌, inl, inr, ⊎_elim}
use mathlib.Core.Bool.{Bool}
use Prim.Native.Nat.{ℕ, zero, suc, ◌+◌, ◌-◌, ◌^◌, ◌≤◌, ◌<◌}
use native.Mathlib.Omega.{arith}
use lib.Dec.{eqb, ltb, leb}
use lib.Seq.{get_or-set_other}
use borrow.Author.Tests.{ltb-true}
use Rattle.basics.specs.Ranges.{sum}
use Rattle.basics.specs.Rows.{best, no_longer, moved_up, push, Walk, walk_to, walked}
use Rattle.basics.proofs.TestLaws.{by_cases, when-cases}
use Rattle.interface.specs.Slots.{Slots, starts_area}
use Rattle.run_choice.specs.Runs.{run_places}
use Rattle.frames.specs.declared.Held.{Held}
use Rattle.frames.specs.Frames.{held, mark, none_held, count_held, least_held}
use Rattle.words.proofs.SumLaws.{sum_same, sum-none}
use Rattle.frames.proofs.FrameLaws.{held-lt, held-zero, mark-low, mark-high}
use Rattle.marks.proofs.NamedLaws.{by-entry}
use Rattle.table.specs.Store.{Store, entry, front_of, Filed, put, take, fill, store_byte, move, free_to, move_to}
use Rattle.kept.specs.Spare.{Row, Rows, kept_in, kept_at, Spare, Words, spares, gather, row_rewound, left_of, grant_to}
use Rattle.kept.proofs.GrantLaws.{next-found}
use Rattle.kept.proofs.RewindLaws.{free-entry}

-- ---- rows that agree in their places

pub kept_same : (rows rows' : Rows) → ((s i : ℕ) → s < 4 → i < run_places → rows s i ≡ rows' s i) → (f : ℕ) → kept_at rows f ≡ kept_at rows' f
unfolding kept_at kept_in
kept_same rows rows' e f =
    sum_same (λ s. sum (λ i. held (rows s i) f) run_places) (λ s. sum (λ i. held (rows' s i) f) run_places) 4
    (λ s l. sum_same (λ i. held (rows s i) f) (λ i. held (rows' s i) f) run_places (λ i d. ap (λ (h : Held). held h f) (e s i l d)))

pub spare-rows : (size n : ℕ) (st : Store) (rows rows' : Rows) → ((s i : ℕ) → s < 4 → i < run_places → rows s i ≡ rows' s i) → Spare size n st rows
    → Spare size n st rows'
spare-rows size n st rows rows' e S =
    let same = kept_same rows rows' e in
    record {
      once = λ f l. omega (arith, S.once f l, same f);
      of_pool = λ f a b. sym (same f) ∙ S.of_pool f a b;
      blank = λ f l k. S.blank f l (omega (arith, same f));
    }

-- no run keeps a frame
pub none_kept : (size n : ℕ) (st : Store) (rows : Rows) → ((s i : ℕ) → s < 4 → i < run_places → rows s i ≡ none_held) → Spare size n st rows
unfolding kept_at kept_in
none_kept size n st rows e =
    let none : (f : ℕ) → kept_at rows f ≡ 0 = λ f. sum-none (λ s. sum (λ i. held (rows s i) f) run_places) 4
    (λ s l. sum-none (λ i. held (rows s i) f) run_places (λ i d. ap (λ (h : Held). held h f) (e s i l d) ∙ held-zero f)) in
    record {
      once = λ f l. omega (arith, none f, held-lt st.marks f);
      of_pool = λ f a b. none f;
      blank = λ f l k. absurd (omega (arith, none f));
    }

-- ---- folds that take no frame

pub frees-from : (size first : ℕ) (st : Store) (n k g : ℕ) → entry (free_to size first st n) k ≡ suc g → (j : ℕ) × (entry st j ≡ suc g)
unfolding free_to
frees-from size first st zero k g e = (k, e)
frees-from size first st (suc n) k g e =
    ⊎_elim
    (λ z. frees-from size first st n k g (sym z ∙ e))
    (λ z. absurd (omega (arith, z, e)))
    (free-entry size (first + n) (free_to size first st n) k)

pub moves-marks : (first : ℕ) (st : Store) (n : ℕ) → (move_to first st n).marks ≡ st.marks
unfolding move_to move
moves-marks first st zero = refl
moves-marks first st (suc n) = moves-marks first st n

pub byte-marks : (size k o b : ℕ) (st : Store) → (store_byte size k o b st).marks ≡ st.marks
unfolding store_byte fill
byte-marks size k o b st = when-cases (λ (r : Store). r.marks ≡ st.marks) (eqb (entry st k) 0) (λ _. refl) (λ _. refl)

-- ---- two words of 64 bits

abbrev TwoWords : Held → Type 0
TwoWords h = (h.low < 2 ^ 64) × (h.high < 2 ^ 64)

pub mark-words : (h : Held) (f b : ℕ) → b < 2 → f < 128 → TwoWords h → TwoWords (mark h f b)
mark-words h f b two l w = (mark-low h f b two l w.0, mark-high h f b two l w.1)

pub left-words : (run : Held) (j : ℕ) → j ≤ count_held run → TwoWords run → TwoWords (left_of run j)
unfolding left_of
left-words run zero h w = w
left-words run (suc j) h w = mark-words (left_of run j) (least_held (left_of run j)) 0 (omega arith) (next-found run j h).0 (left-words run j (omega arith) w)

-- a property of all things in a row outlasts a push and a walk
module _ {A : Type 0} (P : A → Type 0) (size : A → ℕ) (n : ℕ) where
  abbrev All : (ℕ → A) → Type 0
  All row = (i : ℕ) → i < n → P (row i)

  moved_all : (c : ℕ) (v : A) (row : ℕ → A) → P v → All row → All (moved_up n c v row)
  unfolding moved_up
  moved_all c v row p all i l =
      by_cases (ltb i c) (λ x. rw x (all i l)) (λ x. by_cases (ltb (i + 1) n) (λ y. rw (x, y) (all (i + 1) (ltb-true _ _ y))) (λ y. rw (x, y) p))

  push-all : (row : ℕ → A) (v : A) → P v → All row → All (push size n row v)
  unfolding push
  push-all row v p all i l =
      when-cases (λ (r : ℕ → A). P (r i)) (leb (size v) (size (row (best no_longer (λ i. size (row i)) n)))) (λ _. all i l)
      (λ _. moved_all (best no_longer (λ i. size (row i)) n) v row p all i l)

  module _ (none : A) (starts : ℕ → Bool) (add : ℕ → A → A) (row : ℕ → A) (empty : P none) (more : (i : ℕ) (a : A) → P a → P (add i a)) (all : All row) where
    walk-all : (m : ℕ) → All (walk_to size n none starts add row m).row × P (walk_to size n none starts add row m).current
    unfolding walk_to
    walk-all zero = (all, empty)
    walk-all (suc m) =
        let ih = walk-all m in
        let w : Walk A = walk_to size n none starts add row m in
        by_cases (starts m)
        (λ e. rw e (push-all w.row w.current ih.1 ih.0, more m none empty))
        (λ e. rw e (ih.0, more m w.current ih.1))

    pub walked_all : (m : ℕ) → All (walked size n none starts add row m)
    unfolding walked
    walked_all m = let w = walk-all m in push-all (walk_to size n none starts add row m).row (walk_to size n none starts add row m).current w.1 w.0

-- an entry names a frame below 128
frame-low : (size n : ℕ) (st : Store) → Filed size n st → (k : ℕ) → entry st k - 1 < 128
frame-low size n st F k = by-entry (entry st k - 1 < 128) (entry st k) (λ e. omega arith) (λ f e. omega (arith, F.names.within k f e, F.few))

pub rewound-words : (size n : ℕ) (st : Store) → Filed size n st → (s : ℕ) (f : Slots) (row : Row) → Words row → Words (row_rewound st s f row)
unfolding row_rewound
rewound-words size n st F s f row W =
    let all = walked_all TwoWords count_held run_places none_held (starts_area f) (gather st s f) row (omega arith, omega arith) grow
    (λ i l. (W.low i l, W.high i l)) 64 in
    record { low = λ i l. (all i l).0; high = λ i l. (all i l).1 }
  where
    grow : (i : ℕ) (a : Held) → TwoWords a → TwoWords (gather st s f i a)
    grow i a w =
        by_cases (spares st s f i)
        (λ e. rw e (mark-words a (entry st (front_of s i) - 1) 1 (omega arith) (frame-low size n st F (front_of s i)) w))
        (λ e. rw e w)

-- entries outside the granted ones stay
pub grant-entry : (size first : ℕ) (run : Held) (st : Store) (m j : ℕ) → (j < first) ⊎ (first + m ≤ j) → entry (grant_to size first run st m) j ≡ entry st j
unfolding grant_to take put
grant-entry size first run st zero j o = refl
grant-entry size first run st (suc m) j o =
    get_or-set_other (grant_to size first run st m).table (first + m) j (least_held (left_of run m) + 1) 0 (⊎_elim (λ l e. omega arith) (λ l e. omega arith) o)
    ∙ grant-entry size first run st m j (⊎_elim (λ l. inl l) (λ l. inr (omega arith)) o)
