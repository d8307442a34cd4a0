-- What the code finds at the entries of one page, and what it does there, in the terms of the store.
use mathlib.Core.Path.{◌≡◌, refl, sym, ap, ◌∙◌}
use mathlib.Core.Bool.{Bool, true, false}
use mathlib.Core.List.{List}
use Prim.Native.Nat.{ℕ, zero, suc, ◌-◌, ◌*◌, ◌≤◌, ◌<◌}
use native.Mathlib.Omega.{arith}
use borrow.Author.Tests.{ne_eqb}
use lib.ListN.{length, get_or, set}
use Rattle.basics.specs.Choice.{◌when◌else◌}
use Rattle.frames.specs.declared.Held.{Held}
use Rattle.frames.specs.Frames.{mark}
use Rattle.pages.specs.Parts.{frame, set_frame, zeros}
use Rattle.table.specs.Store.{Store, kept, entry, page_in, contents, page_from, under_front, Ranged}
use Rattle.table.specs.Store.{put, free, fill, store_byte}
use Rattle.table.proofs.FiledLaws.{zero-times}

-- the bytes of the frame that an entry names, which names one
pub page-there : (size : ℕ) (pool bytes : List ℕ) (e : ℕ) → (e ≡ 0 → ⊥) → frame size pool (e - 1) ≡ page_from bytes (page_in size pool e)
page-there size pool bytes zero d = absurd (d refl)
page-there size pool bytes (suc f) d = let m : suc f - 1 ≡ f = omega arith in ap (frame size pool) m

-- ---- the back entry of a committed page, and none of one that is not

module _ (size : ℕ) (pool table : List ℕ) (g : Ranged size pool table) (k : ℕ) where
  pub few-if : (committed : Bool) → (get_or table k 0 when committed else 0) ≤ 128
  few-if true = g.few k
  few-if false = omega arith

  pub room-if : (committed : Bool) → (get_or table k 0 when committed else 0) * size ≤ length pool
  room-if true = g.room k
  room-if false = zero-times size (length pool)

pub under-if : (size : ℕ) (s : Store) (k : ℕ) (bytes : List ℕ) (committed : Bool)
    → page_from bytes (page_in size s.pool (entry s k when committed else 0)) ≡ under_front committed bytes (contents size s k)
unfolding contents
under-if size s k bytes true = refl
under-if size s k bytes false = refl

-- ---- what a page reads, with the front entry k and the back entry j

module _ (size : ℕ) (s : Store) (k j : ℕ) (bytes : List ℕ) (committed : Bool) (front under : ℕ)
    (is_front : front ≡ entry s k) (is-under : under ≡ (entry s j when committed else 0)) where
  -- what it reads, by its entries
  abbrev pub read_bytes : List ℕ
  read_bytes = page_from (under_front committed bytes (contents size s j)) (contents size s k)

  pub reads-front : (front ≡ 0 → ⊥) → frame size s.pool (front - 1) ≡ read_bytes
  unfolding contents
  reads-front d = rw (← is_front) (page-there size s.pool (under_front committed bytes (contents size s j)) front d)

  reads-beneath : front ≡ 0 → page_from bytes (page_in size s.pool under) ≡ read_bytes
  unfolding contents
  reads-beneath e = rw (← is_front, e, is-under) (under-if size s j bytes committed)

  pub reads-back : front ≡ 0 → (under ≡ 0 → ⊥) → frame size s.pool (under - 1) ≡ read_bytes
  reads-back e d = page-there size s.pool bytes under d ∙ reads-beneath e

  pub reads-backing : front ≡ 0 → under ≡ 0 → bytes ≡ read_bytes
  reads-backing e z = ap (λ (x : ℕ). page_from bytes (page_in size s.pool x)) (sym z) ∙ reads-beneath e

-- ---- an entry that names a frame gives it up

pub free-some : (size k : ℕ) (s : Store) (f : ℕ) (marks : Held) (pool : List ℕ) → (entry s k ≡ 0 → ⊥) → f ≡ entry s k - 1
    → marks ≡ mark s.marks f 0 → pool ≡ set_frame size s.pool f (zeros size) → kept marks pool (set s.table k 0) ≡ free size k s
unfolding free put
free-some size k s f marks pool d named m p = rw (ne_eqb (entry s k) 0 d, ← named, m, p)

-- ---- a byte of its frame is stored

pub store-some : (size k offset byte : ℕ) (s : Store) (front f : ℕ) (pool : List ℕ) → front ≡ entry s k → (front ≡ 0 → ⊥) → f ≡ front - 1
    → pool ≡ set_frame size s.pool f (set (frame size s.pool f) offset byte) → kept s.marks pool s.table ≡ store_byte size k offset byte s
unfolding store_byte fill
store-some size k offset byte s front f pool is_front d named p = rw (← is_front, ne_eqb front 0 d, ← named, p)

-- ---- its frame is filled

pub fill-some : (size k : ℕ) (bytes : List ℕ) (s : Store) (front : ℕ) (pool : List ℕ) → front ≡ entry s k → 0 < front
    → pool ≡ set_frame size s.pool (front - 1) bytes → kept s.marks pool s.table ≡ fill size k bytes s
unfolding fill
fill-some size k bytes s front pool is_front some p = rw (← is_front, ne_eqb front 0 (omega arith), p)
