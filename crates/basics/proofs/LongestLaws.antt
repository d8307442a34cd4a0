-- Pushing one by one is keeping the longest of all; and a walk that counts is such a pushing.
use Prim.Native.Nat.{ℕ, zero, suc, ◌+◌, ◌-◌, ◌≤◌, ◌<◌}
use mathlib.Core.Path.{◌≡◌, refl, sym, ap, ◌∙◌}
use mathlib.Core.Logic.{◌⊎◌, inl, inr, ⊎_elim}
use mathlib.Core.Bool.{Bool, true, false}
use native.Mathlib.Omega.{arith}
use native.Mathlib.Decide.{ℕ_discrete, dec_lt}
use lib.Dec.{leb, ltb, eqb}
use borrow.Author.Tests.{lt-ltb, le-ltb, ltb-true, ltb-false, leb-true, leb-false, eqb-true, eqb-false, eq-eqb, ne_eqb}
use Rattle.basics.specs.Ranges.{one, count}
use Rattle.basics.specs.Rows.{best, no_longer, moved_up, push, Walk, walk_to, walked}
use Rattle.basics.specs.Longest.{push_all, by_age, GivesWay, Longest, KeepsLongest, taken_of}
use Rattle.basics.proofs.TestLaws.{by_cases, when-cases}
use Rattle.basics.proofs.CountLaws.{count-zero}
use Rattle.basics.proofs.RowLaws.{best-low, shortest-least, push-none}

-- of the shortest the newest is chosen: a newer one is longer
pub shortest-newest : (l : ℕ → ℕ) (n i : ℕ) → best no_longer l n < i → i < n → l (best no_longer l n) < l i
unfolding best
shortest-newest l zero i d h = absurd (omega arith)
shortest-newest l (suc n) i d h =
    by_cases (leb (l n) (l (best no_longer l n)))
    (λ e. let m : n < i = rw e at d in absurd (omega arith))
    (λ e. let m : l (best no_longer l n) < l n = leb-false _ _ e in
    rw e (by_cases (eqb i n) (λ t. rw (eqb-true i n t) m) (λ t. shortest-newest l n i (rw e at d) (omega (arith, eqb-false i n t)))))

-- a row moved up: those below c stay, the others are the next ones, and v is last
module _ {ℓ} {A : Type ℓ} (n c : ℕ) (v : A) (row : ℕ → A) where
  moved-cases {ℓ'} : (P : A → Type ℓ') (j : ℕ) → (j < c → P (row j)) → (c ≤ j → j + 1 < n → P (row (j + 1))) → (c ≤ j → n ≤ j + 1 → P v)
      → P (moved_up n c v row j)
  unfolding moved_up
  moved-cases P j low next last =
      when-cases P (ltb j c) (λ x. low (ltb-true j c x))
      (λ x. when-cases P (ltb (j + 1) n) (λ y. next (ltb-false j c x) (ltb-true (j + 1) n y)) (λ y. last (ltb-false j c x) (ltb-false (j + 1) n y)))

  moved-low : (j : ℕ) → j < c → moved_up n c v row j ≡ row j
  unfolding moved_up
  moved-low j d = rw (lt-ltb j c d)

  moved-next : (j : ℕ) → c ≤ j → j + 1 < n → moved_up n c v row j ≡ row (j + 1)
  unfolding moved_up
  moved-next j d e = rw (le-ltb j c d, lt-ltb (j + 1) n e)

  moved-last : (j : ℕ) → c ≤ j → n ≤ j + 1 → moved_up n c v row j ≡ v
  unfolding moved_up
  moved-last j d e = rw (le-ltb j c d, le-ltb (j + 1) n e)

-- ---- one thing more

module _ {ℓ} {A : Type ℓ} (size : A → ℕ) (all : ℕ → A) where
  -- one that is no longer gives way to an older one
  no_longer_gives_way : (k j : ℕ) → size (all k) ≤ size (all j) → j < k → GivesWay size all k j
  no_longer_gives_way k j h d =
      by_cases (ltb (size (all k)) (size (all j))) (λ t. inl (ltb-true _ _ t)) (λ t. inr (omega (arith, h, ltb-false (size (all k)) (size (all j)) t), d))

  -- the one that gives way is no longer
  way-le : (k j : ℕ) → GivesWay size all k j → size (all k) ≤ size (all j)
  way-le k j w = ⊎_elim (λ d. omega (arith, d)) (λ d. omega (arith, d.0)) w

  module _ (n m : ℕ) (some : 0 < n) (row : ℕ → A) (L : Longest size all m row n) where
    -- the shortest, of equals the newest
    abbrev c : ℕ
    c = best no_longer (λ i. size (row i)) n

    c-low : c < n
    c-low = best-low no_longer (λ i. size (row i)) n some

    sized : (j : ℕ) → j < n → size (row j) ≡ size (all (L.place j))
    sized j d = ap size (L.from j d)

    least : (j : ℕ) → j < n → size (all (L.place c)) ≤ size (all (L.place j))
    least j d = omega (arith, sized c c-low, sized j d, shortest-least (λ i. size (row i)) n j d)

    -- it is no longer than the shortest: the row stays
    stays : size (all m) ≤ size (row c) → Longest size all (suc m) row n
    stays h = record {
      place = L.place;
      from = L.from;
      below = λ j d. omega (arith, L.below j d);
      order = L.order;
      rest = λ k d none j e.
          by_cases (eqb k m)
          (λ t. rw (eqb-true k m t) (no_longer_gives_way m (L.place j) (omega (arith, h, sized c c-low, least j e)) (L.below j e)))
          (λ t. L.rest k (omega (arith, eqb-false k m t)) none j e);
    }

    -- it is longer: the shortest goes, and it comes last
    abbrev places : ℕ → ℕ
    places = moved_up n c m L.place

    moved-from : (j : ℕ) → j < n → moved_up n c (all m) row j ≡ all (places j)
    unfolding moved_up
    moved-from j d =
        by_cases (ltb j c) (λ x. rw x (L.from j d))
        (λ x. by_cases (ltb (j + 1) n) (λ y. rw (x, y) (L.from (j + 1) (ltb-true (j + 1) n y))) (λ y. rw (x, y)))

    moved-below : (j : ℕ) → j < n → places j < suc m
    moved-below j d =
        moved-cases n c m L.place (λ (x : ℕ). x < suc m) j (λ _. omega (arith, L.below j d)) (λ _ e. omega (arith, L.below (j + 1) e)) (λ _ _. omega arith)

    moved_order : (i j : ℕ) → i < j → j < n → places i < places j
    moved_order i j d e =
        moved-cases n c m L.place (λ (y : ℕ). places i < y) j
        (λ h. rw (moved-low n c m L.place i (omega arith)) (L.order i j d e))
        (λ h l. moved-cases n c m L.place (λ (x : ℕ). x < L.place (j + 1)) i (λ _. L.order i (j + 1) (omega arith) l)
        (λ _ _. L.order (i + 1) (j + 1) (omega arith) l) (λ _ z. absurd (omega arith)))
        (λ h l. moved-cases n c m L.place (λ (x : ℕ). x < m) i (λ _. L.below i (omega arith))
        (λ _ z. L.below (i + 1) z) (λ _ z. absurd (omega arith)))

    -- one that is in no place now is the shortest that went, or was in none before
    module _ (longer : size (row c) < size (all m)) (k : ℕ) (d : k < suc m) (none : (j : ℕ) → j < n → places j ≡ k → ⊥) where
      earlier : k < m
      earlier =
          by_cases (eqb k m)
          (λ t. absurd (none (n - 1) (omega arith) (moved-last n c m L.place (n - 1) (omega (arith, c-low)) (omega arith) ∙ sym (eqb-true k m t))))
          (λ t. omega (arith, eqb-false k m t))

      none_before : (k ≡ L.place c → ⊥) → (j : ℕ) → j < n → L.place j ≡ k → ⊥
      none_before other j l e = go (dec_lt j c) (ℕ_discrete j c)
        where
          go : Dec (j < c) → Dec (j ≡ c) → ⊥
          go (yes x) y = none j l (moved-low n c m L.place j x ∙ e)
          go (no x) (yes y) = other (sym e ∙ ap L.place y)
          go (no x) (no y) =
              let same : j - 1 + 1 ≡ j = omega arith in
              none (j - 1) (omega arith) (moved-next n c m L.place (j - 1) (omega arith) (omega arith) ∙ ap L.place same ∙ e)

      gone : k ≡ L.place c → (j : ℕ) → j < n → GivesWay size all k (places j)
      gone e j l =
          rw e
          (moved-cases n c m L.place (GivesWay size all (L.place c)) j
          (λ h. no_longer_gives_way (L.place c) (L.place j) (least j l) (L.order j c h c-low))
          (λ h y. inl (omega (arith, sized c c-low, sized (j + 1) y, shortest-newest (λ i. size (row i)) n (j + 1) (omega arith) y)))
          (λ _ _. inl (omega (arith, longer, sized c c-low))))

      never-in : (k ≡ L.place c → ⊥) → (j : ℕ) → j < n → GivesWay size all k (places j)
      never-in other j l =
          let old = L.rest k earlier (none_before other) in
          moved-cases n c m L.place (GivesWay size all k) j (λ _. old j l) (λ _ y. old (j + 1) y)
          (λ _ _. inl (omega (arith, way-le k (L.place c) (old c c-low), sized c c-low, longer)))

    enters : size (row c) < size (all m) → Longest size all (suc m) (moved_up n c (all m) row) n
    enters h = record {
      place = places;
      from = moved-from;
      below = moved-below;
      order = moved_order;
      rest = λ k d none j e. by_cases (eqb k (L.place c))
          (λ t. gone h k d none (eqb-true k (L.place c) t) j e)
          (λ t. never-in h k d none (eqb-false k (L.place c) t) j e);
    }

    pub longest-push : Longest size all (suc m) (push size n row (all m)) n
    unfolding push
    longest-push =
        when-cases (λ (r : ℕ → A). Longest size all (suc m) r n) (leb (size (all m)) (size (row c)))
        (λ e. stays (leb-true _ _ e)) (λ e. enters (leb-false _ _ e))

-- ---- all of them

-- one by one, the longest of all are kept
pub keeps-longest {ℓ} : {A : Type ℓ} (size : A → ℕ) (n : ℕ) → 0 < n → KeepsLongest size n
unfolding push_all
keeps-longest size n some row new zero = record {
  place = λ j. j;
  from = λ j d. rw (lt-ltb j n d);
  below = λ j d. omega arith;
  order = λ i j d e. d;
  rest = λ k d none j e. absurd (none k (omega arith) refl);
}
keeps-longest size n some row new (suc m) =
    let after : by_age n row new (n + m) ≡ new m = let z : n + m - n ≡ m = omega arith in rw (le-ltb (n + m) n (omega arith), z) in
    let next : n + suc m ≡ suc (n + m) = omega arith in
    rw (← after, next) (longest-push size (by_age n row new) n (n + m) some _ (keeps-longest size n some row new m))

-- a new one of length 0 may be left out
pub push-all-none {ℓ} : {A : Type ℓ} (size : A → ℕ) (n : ℕ) (row new : ℕ → A) → size (new 0) ≡ 0 → (m : ℕ)
    → push_all size n row new (suc m) ≡ push_all size n row (λ t. new (suc t)) m
unfolding push_all
push-all-none size n row new e zero = push-none size n row (new 0) e
push-all-none size n row new e (suc m) = rw (← push-all-none size n row new e m)

-- ---- a walk that counts the items taken of each thing

-- one item more
pub count_next : (p : ℕ → Bool) (m : ℕ) → count p (suc m) ≡ count p m + one (p m)
unfolding count
count_next p m = refl

pub count-up : (p : ℕ → Bool) (m n : ℕ) → m ≤ n → count p m ≤ count p n
count-up p m zero h = let z : m ≡ 0 = omega arith in rw z (omega arith)
count-up p m (suc n) h =
    by_cases (eqb m (suc n)) (λ e. rw (eqb-true m (suc n) e) (omega arith))
    (λ e. omega (arith, count_next p n, count-up p m n (omega (arith, eqb-false m (suc n) e))))

module _ (starts taken : ℕ → Bool) where
  -- nothing of a thing that has not started
  taken_none : (t m : ℕ) → count starts m < t → taken_of starts taken t m ≡ 0
  taken_none t m h =
      count-zero _ m (λ i l. rw (ne_eqb (count starts (suc i)) t (λ e. omega (arith, count-up starts (suc i) m l))))

  -- an item of another thing
  taken-other : (t m : ℕ) → (count starts (suc m) ≡ t → ⊥) → taken_of starts taken t (suc m) ≡ taken_of starts taken t m
  taken-other t m h = count_next _ m ∙ rw (ne_eqb (count starts (suc m)) t h) (omega arith)

  -- an item of the thing at hand
  taken_own : (t m : ℕ) → count starts (suc m) ≡ t → taken_of starts taken t (suc m) ≡ taken_of starts taken t m + one (taken m)
  taken_own t m e = count_next _ m ∙ rw (eq-eqb (count starts (suc m)) t e)

  -- nothing more of a thing once the next has started
  taken-done : (t m k : ℕ) → t < count starts (suc m) → m ≤ k → taken_of starts taken t k ≡ taken_of starts taken t m
  taken-done t m zero h l = let z : m ≡ 0 = omega arith in rw z
  taken-done t m (suc k) h l =
      by_cases (eqb m (suc k)) (λ e. rw (eqb-true m (suc k) e))
      (λ e. let below : m ≤ k = omega (arith, eqb-false m (suc k) e) in
      taken-other t k (λ d. omega (arith, count-up starts (suc m) (suc k) (omega arith))) ∙ taken-done t m k h below)

  module _ (n : ℕ) (row : ℕ → ℕ) (top : ℕ) where
    abbrev walk : ℕ → Walk ℕ
    walk m = walk_to (λ x. x) n 0 starts (λ i x. x + one (taken i)) row m

    abbrev things : ℕ → ℕ
    things t = taken_of starts taken t top

    -- the things before the one at hand are pushed
    record Pushed (m : ℕ) : Type 0 where
      row_is : (walk m).row ≡ push_all (λ x. x) n row things (count starts m)
      current-is : (walk m).current ≡ taken_of starts taken (count starts m) m

    pushed_start : (m : ℕ) → m < top → Pushed m → starts m ≡ true → Pushed (suc m)
    unfolding walk_to push_all
    pushed_start m h ih e =
        let next : count starts (suc m) ≡ suc (count starts m) = count_next starts m ∙ rw e (omega arith) in
        let whole : (walk m).current ≡ things (count starts m) =
        ih.current-is ∙ sym (taken-done (count starts m) m top (omega (arith, next)) (omega arith)) in
        let new : taken_of starts taken (suc (count starts m)) (suc m) ≡ one (taken m) =
        taken_own (suc (count starts m)) m next ∙ rw (taken_none (suc (count starts m)) m (omega arith)) (omega arith) in
        record {
          row_is = rw (e, next, ih.row_is, whole);
          current-is = rw (e, next, new) (omega arith);
        }

    pushed-on : (m : ℕ) → m < top → Pushed m → starts m ≡ false → Pushed (suc m)
    unfolding walk_to
    pushed-on m h ih e =
        let same : count starts (suc m) ≡ count starts m = count_next starts m ∙ rw e (omega arith) in
        record {
          row_is = rw (e, same) ih.row_is;
          current-is = rw (e, ih.current-is, same) (sym (taken_own (count starts m) m same));
        }

    pushed : (m : ℕ) → m ≤ top → Pushed m
    unfolding walk_to push_all count
    pushed zero h = record { row_is = refl; current-is = refl }
    pushed (suc m) h =
        by_cases (starts m) (pushed_start m (omega arith) (pushed m (omega arith))) (pushed-on m (omega arith) (pushed m (omega arith)))

    -- a walk is a pushing of its things one by one
    pub walked-pushes : walked (λ x. x) n 0 starts (λ i x. x + one (taken i)) row top ≡ push_all (λ x. x) n row things (suc (count starts top))
    unfolding walked push_all
    walked-pushes = let p = pushed top (omega arith) in rw (p.row_is, p.current-is)
