-- A run of entries gives up its pages: what the run and what every other entry holds then; and what a loop over it carries along.
use mathlib.Core.Path.{◌≡◌, refl, sym, ap, ◌∙◌}
use mathlib.Core.Logic.{◌⊎◌, inl, inr, ⊎_elim}
use mathlib.Core.Bool.{Bool, true}
use mathlib.Core.Option.{none}
use mathlib.Core.List.{List}
use Prim.Native.Nat.{ℕ, zero, suc, ◌+◌, ◌*◌, ◌≤◌, ◌<◌}
use native.Mathlib.Nat.{le_trans, le_of_eq, suc-mul, add-zero, add-suc}
use native.Mathlib.Numerals.{add-one}
use native.Mathlib.Omega.{arith}
use lib.Dec.{eqb}
use lib.ListN.{length, get_or, set, length-set, get_or-eq_default}
use lib.Seq.{get_or-set_same, get_or-set_other, set_out}
use borrow.Author.Tests.{eqb-true}
use Rattle.basics.specs.Ranges.{every}
use Rattle.basics.proofs.LoopLaws.{every-at}
use Rattle.frames.proofs.FrameLaws.{lt-or-ge}
use Rattle.pages.specs.Parts.{zeros, set_frame}
use Rattle.pages.proofs.PartLaws.{length-zeros, length-set_frame}
use Rattle.marks.proofs.NamedLaws.{same_or, by-entry}
use Rattle.table.specs.Store.{Store, entry, contents, Tidy, Ranged, put, free, free_to}
use Rattle.table.proofs.StoreLaws.{free-none, free-some, free-tidy, free-same, free_other}
use Rattle.table.proofs.FiledLaws.{zero-times}

-- ---- the contents after the run

module _ {C : ℕ → Type 0} (size n : ℕ) (first : ℕ) (s : Store) (t : Tidy C size n s) where
  pub free_to-tidy : (i : ℕ) → Tidy C size n (free_to size first s i)
  unfolding free_to
  free_to-tidy zero = t
  free_to-tidy (suc i) = free-tidy size n (free_to size first s i) (free_to-tidy i) (first + i)

  pub free_to-out : (i k : ℕ) → (k < first) ⊎ (first + i ≤ k) → contents size (free_to size first s i) k ≡ contents size s k
  unfolding free_to
  free_to-out zero k o = refl
  free_to-out (suc i) k o =
      free_other size n (free_to size first s i) (free_to-tidy i) (first + i) k (⊎_elim (λ l m. omega arith) (λ l m. omega arith) o)
      ∙ free_to-out i k (⊎_elim (λ l. inl l) (λ l. inr (omega arith)) o)

  pub free_to-in : (i k : ℕ) → first ≤ k → k < first + i → contents size (free_to size first s i) k ≡ none
  unfolding free_to
  free_to-in zero k a b = absurd (omega arith)
  free_to-in (suc i) k a b =
      ⊎_elim
      (λ m. rw m (free-same size n (free_to size first s i) (free_to-tidy i) (first + i)))
      (λ m. free_other size n (free_to size first s i) (free_to-tidy i) (first + i) k m ∙ free_to-in i k a (omega arith)) (same_or k (first + i))

-- ---- what the loop carries along

-- r has as many bytes and entries as s, and its entries lie in the pool
pub record Kept (size : ℕ) (s r : Store) : Type 0 where
  pub pool : length r.pool ≡ length s.pool
  pub table : length r.table ≡ length s.table
  pub ranged : Ranged size r.pool r.table

pub unchanged-kept : (size : ℕ) (s : Store) → Ranged size s.pool s.table → Kept size s s
unchanged-kept size s g = record { pool = refl; table = refl; ranged = g }

-- the frame that an entry names lies in the pool
pub room_of : (size : ℕ) (s : Store) → Ranged size s.pool s.table → (k f : ℕ) → entry s k ≡ suc f → f * size + size ≤ length s.pool
room_of size s g k f e = le_trans (le_of_eq (sym (suc-mul f size))) (rw e at (g.room k))

-- an entry that is cleared reads 0, past the end too
pub get_or-clear : (l : List ℕ) (k : ℕ) → get_or (set l k 0) k 0 ≡ 0
get_or-clear l k =
    ⊎_elim (λ m. get_or-set_same l k 0 0 m) (λ m. ap (λ (x : List ℕ). get_or x k 0) (set_out l k 0 m) ∙ get_or-eq_default l 0 m) (lt-or-ge k (length l))

put-kept : (size k : ℕ) (s : Store) → Ranged size s.pool s.table → (f : ℕ) → entry s k ≡ suc f → Kept size s (put size s k 0 f 0 (zeros size))
unfolding put
put-kept size k s g f e =
    let same : length (set_frame size s.pool f (zeros size)) ≡ length s.pool =
    length-set_frame size s.pool f (zeros size) (length-zeros size) (room_of size s g k f e) in
    let at : (j : ℕ) → j ≡ k → get_or (set s.table k 0) j 0 ≡ 0 = λ j m. ap (λ (x : ℕ). get_or (set s.table k 0) x 0) m ∙ get_or-clear s.table k in
    record {
      pool = same;
      table = simp length-set;
      ranged = record {
        entries = simp length-set g.entries;
        few = λ j. ⊎_elim (λ m. let z = at j m in omega arith) (λ m. rw (get_or-set_other s.table k j 0 0 m) (g.few j)) (same_or j k);
        room = λ j. ⊎_elim (λ m. let z = at j m in rw (z, same) (zero-times size (length s.pool)))
            (λ m. rw (get_or-set_other s.table k j 0 0 m, same) (g.room j)) (same_or j k);
      };
    }

pub free-kept : (size k : ℕ) (s : Store) → Ranged size s.pool s.table → Kept size s (free size k s)
free-kept size k s g =
    by-entry (Kept size s (free size k s)) (entry s k)
    (λ e. rw (free-none size k s e) (unchanged-kept size s g))
    (λ f e. rw (free-some size k s f e) (put-kept size k s g f e))

pub free-kept-as : (size k : ℕ) (s r : Store) → r ≡ free size k s → Ranged size s.pool s.table → Kept size s r
free-kept-as size k s r e g = rw e (free-kept size k s g)

-- what is carried along twice is carried along
pub kept-twice : (size : ℕ) (s q r : Store) → Kept size s q → Kept size q r → Kept size s r
kept-twice size s q r a b = record { pool = b.pool ∙ a.pool; table = b.table ∙ a.table; ranged = b.ranged }

pub free_to-kept : (size first : ℕ) (s : Store) → Ranged size s.pool s.table → (n : ℕ) → Kept size s (free_to size first s n)
unfolding free_to
free_to-kept size first s g zero = unchanged-kept size s g
free_to-kept size first s g (suc n) =
    let before = free_to-kept size first s g n in
    kept-twice size s (free_to size first s n) _ before (free-kept size (first + n) (free_to size first s n) before.ranged)

pub free_to-kept-as : (size first : ℕ) (s r : Store) (n : ℕ) → r ≡ free_to size first s n → Ranged size s.pool s.table → Kept size s r
free_to-kept-as size first s r n e g = rw e (free_to-kept size first s g n)

-- a turn of the loop
pub free_more : (size first i : ℕ) (s r q : Store) → r ≡ free_to size first s i → q ≡ free size (first + i) r → q ≡ free_to size first s (i + 1)
unfolding free_to
free_more size first i s r q a b = b ∙ rw (add-one i) (ap (free size (first + i)) a)

-- ---- runs joined, and a run without a page

-- a run, and then the one behind it
pub free_to-join : (size first : ℕ) (s : Store) (n m : ℕ) → free_to size (first + n) (free_to size first s n) m ≡ free_to size first s (n + m)
unfolding free_to
free_to-join size first s n zero = ap (free_to size first s) (sym (add-zero n))
free_to-join size first s n (suc m) =
    let place : first + n + m ≡ first + (n + m) = omega arith in
    rw (add-suc n m, place) (ap (free size (first + (n + m))) (free_to-join size first s n m))

-- entries of which a test says that none names a frame
pub empty-at : (table : List ℕ) (first n : ℕ) (r : Bool) → r ≡ every (λ i. eqb (get_or table (first + i) 0) 0) 0 n → r ≡ true
    → (i : ℕ) → i < n → get_or table (first + i) 0 ≡ 0
empty-at table first n r e t i l =
    eqb-true (get_or table (first + i) 0) 0 (every-at (λ i. eqb (get_or table (first + i) 0) 0) 0 n (sym e ∙ t) i (omega arith) (omega arith))

-- entries that hold none stay as they are, and so does all else
pub free_to-none : (size first : ℕ) (s : Store) (n : ℕ) → ((i : ℕ) → i < n → entry s (first + i) ≡ 0) → free_to size first s n ≡ s
unfolding free_to
free_to-none size first s zero h = refl
free_to-none size first s (suc n) h =
    ap (free size (first + n)) (free_to-none size first s n (λ i l. h i (omega arith))) ∙ free-none size (first + n) s (h n (omega arith))
