-- Fronts become backs: what each entry holds after one move, and after those of all pages of a sandbox.
use mathlib.Core.Path.{◌≡◌, refl, sym, ap, ◌∙◌, subst}
use mathlib.Core.Logic.{⊎_elim}
use mathlib.Core.Option.{none}
use Prim.Native.Nat.{ℕ, zero, suc, ◌+◌, ◌≤◌, ◌<◌}
use native.Mathlib.Numerals.{add-one}
use native.Mathlib.Omega.{arith}
use lib.ListN.{get_or, set, length-set}
use lib.Seq.{get_or-set_same, get_or-set_other}
use Rattle.frames.specs.declared.Held.{Held}
use Rattle.frames.specs.Frames.{mark}
use Rattle.frames.proofs.FrameLaws.{mark-held, mark-mark}
use Rattle.marks.specs.Named.{Named}
use Rattle.marks.proofs.NamedLaws.{same_or, by-entry, fits-none, fits-some, owner, named-same, named_put}
use Rattle.table.specs.Store.{Store, entry, page_in, contents, Tidy, move, move_to}
use Rattle.table.proofs.StoreLaws.{none-entry}
use Rattle.table.proofs.FreeLaws.{get_or-clear}

-- ---- one entry

module _ {C : ℕ → Type 0} (size n : ℕ) (s : Store) (t : Tidy C size n s) (k j : ℕ) (apart : k ≡ j → ⊥) (place : j < 512) (empty : entry s j ≡ 0) where
  moved_to : entry (move k j s) j ≡ entry s k
  unfolding move
  moved_to = get_or-set_same (set s.table k 0) j (entry s k) 0 (omega (arith, length-set s.table k 0, t.filed.entries))

  moved_other : (i : ℕ) → (i ≡ j → ⊥) → entry (move k j s) i ≡ get_or (set s.table k 0) i 0
  unfolding move
  moved_other i m = get_or-set_other (set s.table k 0) j i (entry s k) 0 m

  names-move : Named n s.marks (entry (move k j s))
  names-move = by-entry (Named n s.marks (entry (move k j s))) (entry s k) none-there some-there
    where
      none-there : entry s k ≡ 0 → Named n s.marks (entry (move k j s))
      none-there e = named-same n s.marks (entry s) (entry (move k j s)) all t.filed.names
        where
          all : (i : ℕ) → entry s i ≡ entry (move k j s) i
          all i =
              ⊎_elim (λ m. ap (entry s) m ∙ empty ∙ sym e ∙ sym moved_to ∙ ap (entry (move k j s)) (sym m))
              (λ m. ⊎_elim (λ r. ap (entry s) r ∙ e ∙ sym (ap (λ (x : ℕ). get_or (set s.table k 0) x 0) r ∙ get_or-clear s.table k) ∙ sym (moved_other i m))
              (λ r. sym (moved_other i m ∙ get_or-set_other s.table k i 0 0 r)) (same_or i k)) (same_or i j)

      some-there : (f : ℕ) → entry s k ≡ suc f → Named n s.marks (entry (move k j s))
      some-there f e =
          let mid : ℕ → ℕ = λ i. get_or (set s.table k 0) i 0 in
          let gone : (i : ℕ) → mid i ≡ suc f → i ≡ j =
          λ i w. ⊎_elim (λ m. let z = sym (get_or-clear s.table k) ∙ ap mid (sym m) ∙ w in absurd (omega arith))
          (λ m. absurd (m (t.filed.names.once i k f (sym (get_or-set_other s.table k i 0 0 m) ∙ w) e))) (same_or i k) in
          let free-j : mid j ≡ 0 = get_or-set_other s.table k j 0 0 (λ m. apart (sym m)) ∙ empty in
          let first : Named n (mark s.marks f 0) mid =
          named_put n s.marks (entry s) mid k 0 f 0 t.filed.few t.filed.names (owner n s.marks (entry s) t.filed.names k f e)
          (fits-none f) (get_or-clear s.table k)
          (λ i m. get_or-set_other s.table k i 0 0 m) in
          let second : Named n (mark (mark s.marks f 0) f 1) (entry (move k j s)) =
          named_put n (mark s.marks f 0) mid (entry (move k j s)) j (suc f) f 1 t.filed.few first
          (record { low = t.filed.names.within k f e; others = gone; mine = λ g w. absurd (omega arith) })
          (fits-some f) (moved_to ∙ e) moved_other in
          subst (λ (h : Held). Named n h (entry (move k j s)))
          (mark-mark s.marks f 0 1 (omega arith) ∙ ap (mark s.marks f) (sym (t.filed.names.marked k f e)) ∙ mark-held s.marks f) second

  pub move-tidy : Tidy C size n (move k j s)
  unfolding move
  move-tidy =
      record {
        filed = record {
          few = t.filed.few;
          pages = t.filed.pages;
          entries = simp length-set t.filed.entries;
          names = names-move;
          low = t.filed.low;
          high = t.filed.high;
        };
        clean = t.clean;
      }

  pub move-to : contents size (move k j s) j ≡ contents size s k
  unfolding contents move
  move-to = ap (page_in size s.pool) moved_to

  pub move-from : contents size (move k j s) k ≡ none
  unfolding contents move
  move-from = ap (page_in size s.pool) (moved_other k apart ∙ get_or-clear s.table k)

  pub move-other : (i : ℕ) → (i ≡ k → ⊥) → (i ≡ j → ⊥) → contents size (move k j s) i ≡ contents size s i
  unfolding contents move
  move-other i a b = ap (page_in size s.pool) (moved_other i b ∙ get_or-set_other s.table k i 0 0 a)

-- ---- the pages of a sandbox

-- r is s after its first i fronts went to their backs; the rest is every entry that is neither, and later are all past the i-th back
pub record Moved (C : ℕ → Type 0) (size n first : ℕ) (s : Store) (i : ℕ) (r : Store) : Type 0 where
  pub tidy : Tidy C size n r
  pub backs : (k : ℕ) → k < i → contents size r (first + k + 64) ≡ contents size s (first + k)
  pub fronts : (k : ℕ) → k < i → contents size r (first + k) ≡ none
  pub rest : (k : ℕ) → (k < first + i → k < first) → (first + 64 ≤ k → first + i + 64 ≤ k) → contents size r k ≡ contents size s k
  pub later : (k : ℕ) → first + i + 64 ≤ k → contents size r k ≡ contents size s k

module _ {C : ℕ → Type 0} (size n first : ℕ) (s : Store) (t : Tidy C size n s) (place : first + 128 ≤ 512)
    (empty : (i : ℕ) → i < 64 → contents size s (first + i + 64) ≡ none) where
  move_step : (i : ℕ) (r : Store) → i < 64 → Moved C size n first s i r → Moved C size n first s (suc i) (move (first + i) (first + i + 64) r)
  move_step i r l m =
      let k : ℕ = first + i in
      let j : ℕ = first + i + 64 in
      let apart : k ≡ j → ⊥ = omega arith in
      let low : j < 512 = omega arith in
      let free-j : entry r j ≡ 0 = none-entry size r j (m.later j (omega arith) ∙ empty i l) in
      let here : contents size r k ≡ contents size s k = m.rest k (λ q. absurd (omega arith)) (λ q. absurd (omega arith)) in
      let other : (x : ℕ) → (x ≡ k → ⊥) → (x ≡ j → ⊥) → contents size (move k j r) x ≡ contents size r x = move-other size n r m.tidy k j apart low free-j in
      record {
        tidy = move-tidy size n r m.tidy k j apart low free-j;
        backs = λ x q. ⊎_elim
            (λ e. rw e (move-to size n r m.tidy k j apart low free-j ∙ here))
            (λ e. other (first + x + 64) (omega arith) (λ w. e (omega arith)) ∙ m.backs x (omega arith)) (same_or x i);
        fronts = λ x q. ⊎_elim
            (λ e. rw e (move-from size n r m.tidy k j apart low free-j))
            (λ e. other (first + x) (λ w. e (omega arith)) (omega arith) ∙ m.fronts x (omega arith)) (same_or x i);
        rest = λ x a b. other x (λ w. let z = a (omega arith) in omega arith) (λ w. let z = b (omega arith) in omega arith)
            ∙ m.rest x (λ w. a (omega arith)) (λ w. let z = b w in omega arith);
        later = λ x a. other x (omega arith) (omega arith) ∙ m.later x (omega arith);
      }

  pub moved : (i : ℕ) → i ≤ 64 → Moved C size n first s i (move_to first s i)
  unfolding move_to
  moved zero l = record { tidy = t; backs = λ k q. absurd (omega arith); fronts = λ k q. absurd (omega arith); rest = λ k a b. refl; later = λ k a. refl }
  moved (suc i) l = move_step i (move_to first s i) l (moved i (omega arith))

-- a turn of the loop
pub move-more : (first i : ℕ) (s r q : Store) → r ≡ move_to first s i → q ≡ move (first + i) (first + i + 64) r → q ≡ move_to first s (i + 1)
unfolding move_to
move-more first i s r q a b = b ∙ rw (add-one i) (ap (move (first + i) (first + i + 64)) a)
