-- What each operation leaves: every entry but its own, and the bytes and the mark of every frame that its own entries do not name.
use mathlib.Core.Path.{◌≡◌, refl, sym, ap, ◌∙◌}
use mathlib.Core.Logic.{◌⊎◌, inl, inr, ⊎_elim}
use mathlib.Core.List.{List}
use Prim.Native.Nat.{ℕ, zero, suc, ◌+◌, ◌-◌, ◌*◌, ◌≤◌, ◌<◌}
use native.Mathlib.Omega.{arith}
use native.Mathlib.Numerals.{add-one}
use borrow.Author.Tests.{ne_eqb}
use lib.Dec.{eqb}
use lib.ListN.{length, set, length-set}
use lib.Seq.{get_or-set_other}
use Rattle.basics.proofs.TestLaws.{when-cases}
use Rattle.frames.specs.Frames.{held, mark}
use Rattle.frames.proofs.FrameLaws.{held-mark-other}
use Rattle.pages.specs.Parts.{frame, set_frame}
use Rattle.pages.proofs.PartLaws.{length-zeros, length-frame, fits-pool, frame-other, byte-set}
use Rattle.marks.proofs.NamedLaws.{by-entry}
use Rattle.table.specs.Store.{Store, kept, entry, Tidy, put, free, take, fill, store_byte, move, free_to, move_to}
use Rattle.table.proofs.StoreLaws.{free-none, free-some, fill_none, fill-some, take-tidy, take-entry}
use Rattle.table.proofs.FreeLaws.{free_to-tidy}

-- ---- entries

-- what is done to entry k leaves entry j
module _ (size k : ℕ) (s : Store) (j : ℕ) where
  pub free-entry : (j ≡ k → ⊥) → entry (free size k s) j ≡ entry s j
  unfolding free put
  free-entry d = when-cases (λ (r : Store). entry r j ≡ entry s j) (eqb (entry s k) 0) (λ _. refl) (λ _. get_or-set_other s.table k j 0 0 d)

  -- filling leaves all of them
  pub fill-entry : (bytes : List ℕ) → entry (fill size k bytes s) j ≡ entry s j
  unfolding fill
  fill-entry bytes = when-cases (λ (r : Store). entry r j ≡ entry s j) (eqb (entry s k) 0) (λ _. refl) (λ _. refl)

  pub byte-entry : (offset byte : ℕ) → entry (store_byte size k offset byte s) j ≡ entry s j
  unfolding store_byte
  byte-entry offset byte = fill-entry _

  pub take-other-entry : (f : ℕ) (bytes : List ℕ) → (j ≡ k → ⊥) → entry (take size k f bytes s) j ≡ entry s j
  unfolding take put
  take-other-entry f bytes d = get_or-set_other s.table k j (f + 1) 0 d

pub move-entry : (k i : ℕ) (s : Store) (j : ℕ) → (j ≡ k → ⊥) → (j ≡ i → ⊥) → entry (move k i s) j ≡ entry s j
unfolding move
move-entry k i s j d e = get_or-set_other (set s.table k 0) i j (entry s k) 0 e ∙ get_or-set_other s.table k j 0 0 d

-- what is done to a run of entries leaves those outside it
module _ (first : ℕ) (s : Store) (j : ℕ) where
  pub free_to-entry : (size n : ℕ) → (j < first) ⊎ (first + n ≤ j) → entry (free_to size first s n) j ≡ entry s j
  unfolding free_to
  free_to-entry size zero o = refl
  free_to-entry size (suc n) o =
      free-entry size (first + n) (free_to size first s n) j (⊎_elim (λ l e. omega arith) (λ l e. omega arith) o)
      ∙ free_to-entry size n (⊎_elim (λ l. inl l) (λ l. inr (omega arith)) o)

  pub move_to-entry : (n : ℕ) → n ≤ 64 → (j < first) ⊎ (first + 128 ≤ j) → entry (move_to first s n) j ≡ entry s j
  unfolding move_to
  move_to-entry zero h o = refl
  move_to-entry (suc n) h o =
      move-entry (first + n) (first + n + 64) (move_to first s n) j (⊎_elim (λ l e. omega arith) (λ l e. omega arith) o)
      (⊎_elim (λ l e. omega arith) (λ l e. omega arith) o)
      ∙ move_to-entry n (omega arith) o

-- ---- frames

-- frame f has in r the bytes and the mark that it has in s
pub record Left (size f : ℕ) (s r : Store) : Type 0 where
  pub bytes : frame size r.pool f ≡ frame size s.pool f
  pub marked : held r.marks f ≡ held s.marks f

pub left-same : (size f : ℕ) (s : Store) → Left size f s s
left-same size f s = record { bytes = refl; marked = refl }

pub left-then : (size f : ℕ) (s m r : Store) → Left size f s m → Left size f m r → Left size f s r
left-then size f s m r a b = record { bytes = b.bytes ∙ a.bytes; marked = b.marked ∙ a.marked }

-- moves leave the pool and the marks
pub move_to-pool : (first : ℕ) (s : Store) (n : ℕ) → ((move_to first s n).pool ≡ s.pool) × ((move_to first s n).marks ≡ s.marks)
unfolding move_to move
move_to-pool first s zero = (refl, refl)
move_to-pool first s (suc n) = move_to-pool first s n

module _ {C : ℕ → Type 0} (size n : ℕ) (s : Store) (t : Tidy C size n s) (f : ℕ) where
  put-left : (k e g b : ℕ) (ys : List ℕ) → g < n → b < 2 → length ys ≡ size → (f ≡ g → ⊥) → Left size f s (put size s k e g b ys)
  unfolding put
  put-left k e g b ys low two whole d =
      record {
        bytes = frame-other size s.pool g ys whole (fits-pool size n s.pool g t.filed.pages low) f d;
        marked = held-mark-other s.marks g b f two d;
      }

  -- an entry that does not name f
  module _ (k : ℕ) (apart : entry s k ≡ suc f → ⊥) where
    pub free-left : Left size f s (free size k s)
    free-left =
        by-entry (Left size f s (free size k s)) (entry s k)
        (λ e. rw (free-none size k s e) (left-same size f s))
        (λ g e. rw (free-some size k s g e)
        (put-left k 0 g 0 _ (t.filed.names.within k g e) (omega arith) (length-zeros size) (λ m. apart (e ∙ ap suc (sym m)))))

    pub fill-left : (ys : List ℕ) → ((g : ℕ) → entry s k ≡ suc g → length ys ≡ size) → Left size f s (fill size k ys s)
    fill-left ys whole =
        by-entry (Left size f s (fill size k ys s)) (entry s k)
        (λ e. rw (fill_none size k ys s e) (left-same size f s))
        (λ g e. rw (fill-some size n s t k ys whole g e)
        (put-left k (suc g) g 1 ys (t.filed.names.within k g e) (omega arith) (whole g e) (λ m. apart (e ∙ ap suc (sym m)))))

    pub byte_left : (offset byte : ℕ) → Left size f s (store_byte size k offset byte s)
    unfolding store_byte
    byte_left offset byte =
        fill-left (set (frame size s.pool (entry s k - 1)) offset byte)
        (λ g e. let m : entry s k - 1 ≡ g = omega arith in
        length-set (frame size s.pool (entry s k - 1)) offset byte
        ∙ rw m (length-frame size s.pool g (fits-pool size n s.pool g t.filed.pages (t.filed.names.within k g e))))

  pub take_left : (k g : ℕ) (ys : List ℕ) → g < n → length ys ≡ size → (f ≡ g → ⊥) → Left size f s (take size k g ys s)
  unfolding take
  take_left k g ys low whole d = put-left k (g + 1) g 1 ys low (omega arith) whole d

-- a run of entries of which none names f
module _ {C : ℕ → Type 0} (size n : ℕ) (s : Store) (t : Tidy C size n s) (f first : ℕ) where
  pub free_to-left : (i : ℕ) → ((x : ℕ) → x < i → entry s (first + x) ≡ suc f → ⊥) → Left size f s (free_to size first s i)
  unfolding free_to
  free_to-left zero d = left-same size f s
  free_to-left (suc i) d =
      left-then size f s (free_to size first s i) _ (free_to-left i (λ x l. d x (omega arith)))
      (free-left size n (free_to size first s i) (free_to-tidy size n first s t i) f (first + i)
      (λ e. d i (omega arith) (sym (free_to-entry first s (first + i) size i (inr (omega arith))) ∙ e)))

-- ---- a byte stored

module _ {C : ℕ → Type 0} (size n : ℕ) (s : Store) (t : Tidy C size n s) (k o b : ℕ) (low : o < size) where
  -- 'A write changes one byte inside one frame's 256 bytes of the pool'
  pub byte-alone : (f : ℕ) → entry s k ≡ suc f → store_byte size k o b s ≡ kept s.marks (set s.pool (f * size + o) b) s.table
  unfolding store_byte fill
  byte-alone f e =
      let m : entry s k - 1 ≡ f = omega arith in
      rw (ne_eqb (entry s k) 0 (omega arith), m)
      (ap (λ (pool : List ℕ). kept s.marks pool s.table)
      (byte-set size s.pool f o b low (fits-pool size n s.pool f t.filed.pages (t.filed.names.within k f e))))

-- a byte of a page that took frame f with the bytes ys: one mark, one frame, one entry
module _ {C : ℕ → Type 0} (size n : ℕ) (s : Store) (t : Tidy C size n s) (k f : ℕ) (ys : List ℕ)
    (place : k < 512) (empty : entry s k ≡ 0) (below : f < n) (idle : held s.marks f ≡ 0) (whole : length ys ≡ size) where
  mid : Tidy C size n (take size k f ys s)
  mid = take-tidy size n s t k f ys place empty below idle whole

  names : entry (take size k f ys s) k ≡ suc f
  names = take-entry size n s t k f ys place empty below idle whole

  pub byte-taken : (o b : ℕ) → o < size
      → store_byte size k o b (take size k f ys s) ≡ kept (mark s.marks f 1) (set (set_frame size s.pool f ys) (f * size + o) b) (set s.table k (suc f))
  unfolding take put
  byte-taken o b low =
      byte-alone size n (take size k f ys s) mid k o b low f names
      ∙ ap (λ (e : ℕ). kept (mark s.marks f 1) (set (set_frame size s.pool f ys) (f * size + o) b) (set s.table k e)) (add-one f)

  pub byte-taken-left : (g o b : ℕ) → (g ≡ f → ⊥) → Left size g s (store_byte size k o b (take size k f ys s))
  byte-taken-left g o b d =
      left-then size g s (take size k f ys s) _ (take_left size n s t g k f ys below whole d)
      (byte_left size n (take size k f ys s) mid g k (λ e. d (omega (arith, names))) o b)
