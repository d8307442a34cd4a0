-- Frames that are zero are granted without touching a byte.
use mathlib.Core.Path.{◌≡◌, refl, sym, ap, ◌∙◌}
use mathlib.Core.Logic.{⊎_elim}
use mathlib.Core.List.{List}
use Prim.Native.Nat.{ℕ, zero, suc, ◌+◌, ◌*◌, ◌≤◌, ◌<◌}
use native.Mathlib.Numerals.{add-one}
use native.Mathlib.Omega.{arith}
use lib.ListN.{length, set}
use Rattle.frames.specs.declared.Held.{Held}
use Rattle.frames.specs.Frames.{held, mark, count_held, least_held}
use Rattle.frames.proofs.FrameLaws.{held-lt}
use Rattle.pages.specs.Parts.{frame, set_frame, zeros}
use Rattle.pages.proofs.PartLaws.{length-zeros, fits-pool, length-set_frame, frame_same, frame-other, pool-ext}
use Rattle.marks.proofs.NamedLaws.{same_or}
use Rattle.table.specs.Store.{Store, kept, put, take}
use Rattle.kept.specs.Spare.{left_of, grant_to, adopt_to}
use Rattle.kept.proofs.GrantLaws.{next-found, left_le}

-- a frame that gets the bytes that it has
set_same : (size n : ℕ) (xs : List ℕ) (f : ℕ) (ys : List ℕ) → 0 < size → length xs ≡ n * size → f < n → length ys ≡ size → frame size xs f ≡ ys
    → set_frame size xs f ys ≡ xs
set_same size n xs f ys some e l w h =
    let room = fits-pool size n xs f e l in
    pool-ext size n (set_frame size xs f ys) xs some (length-set_frame size xs f ys w room ∙ e) e
    (λ g d. ⊎_elim (λ z. ap (frame size (set_frame size xs f ys)) z ∙ frame_same size xs f ys w room ∙ sym h ∙ ap (frame size xs) (sym z))
    (λ z. frame-other size xs f ys w room g z) (same_or g f))

module _ (size n first : ℕ) (run : Held) (st : Store) (some : 0 < size) (pages : length st.pool ≡ n * size)
    (blank : (f : ℕ) → f < 128 → held run f ≡ 1 → (f < n) × (frame size st.pool f ≡ zeros size)) where
  pub adopted : (j : ℕ) → j ≤ count_held run → (adopt_to first run st j ≡ grant_to size first run st j) × ((grant_to size first run st j).pool ≡ st.pool)
  unfolding adopt_to grant_to take put
  adopted zero l = (refl, refl)
  adopted (suc j) l =
      let ih = adopted j (omega arith) in
      let f : ℕ = least_held (left_of run j) in
      let found = next-found run j l in
      let mine : held run f ≡ 1 = omega (arith, found.1, left_le run j f, held-lt run f) in
      let b = blank f found.0 mine in
      let s : Store = grant_to size first run st j in
      let same : set_frame size s.pool f (zeros size) ≡ s.pool =
      set_same size n s.pool f (zeros size) some (ap length ih.1 ∙ pages) b.0 (length-zeros size)
      (ap (λ (xs : List ℕ). frame size xs f) ih.1 ∙ b.1) in (
        ap (λ (x : Store). kept (mark x.marks f 1) x.pool (set x.table (first + j) (f + 1))) ih.0
            ∙ ap (λ (xs : List ℕ). kept (mark s.marks f 1) xs (set s.table (first + j) (f + 1))) (sym same),
        same ∙ ih.1,
      )

-- ---- the code's loop

pub adopt-more : (first : ℕ) (run : Held) (h held' : Held) (pool t t' : List ℕ) (st : Store) (rest : Held) (i : ℕ) → rest ≡ left_of run i
    → kept h pool t ≡ adopt_to first run st i
    → held' ≡ mark h (least_held rest) 1 → t' ≡ set t (first + i) (least_held rest + 1) → kept held' pool t' ≡ adopt_to first run st (i + 1)
unfolding adopt_to
adopt-more first run h held' pool t t' st rest i a b c d =
    let f : ℕ = least_held (left_of run i) in
    rw (add-one i) (rw (c, d, a) (ap (λ (x : Store). kept (mark x.marks f 1) x.pool (set x.table (first + i) (f + 1))) b))

pub left-more : (run rest next : Held) (i : ℕ) → rest ≡ left_of run i → next ≡ mark rest (least_held rest) 0 → next ≡ left_of run (i + 1)
unfolding left_of
left-more run rest next i a b = b ∙ rw (add-one i) (rw a)

pub least-low : (run rest : Held) (i n : ℕ) → rest ≡ left_of run i → i < n → n ≤ count_held run → least_held rest < 128
least-low run rest i n a l h = rw a (next-found run i (omega arith)).0
