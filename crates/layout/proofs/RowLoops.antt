-- Loops over a row of n: what stands after k turns, how a turn keeps it, and what stands at the end.
use Prim.Native.Nat.{ℕ, suc, ◌+◌, ◌-◌, ◌*◌, ◌≤◌, ◌<◌}
use mathlib.Core.Path.{◌≡◌, refl, sym, ap, ◌∙◌}
use mathlib.Core.Bool.{Bool, true, ◌&&◌}
use mathlib.Core.List.{List, [], ◌∷◌, ◌++◌, append_assoc, append-nil}
use native.Mathlib.Omega.{arith}
use native.Mathlib.Numerals.{add-one}
use native.Mathlib.Nat.{zero-mul, suc-mul}
use lib.ListN.{length, get_or, take, drop, set, length-append, length-drop, drop_of_length-le}
use lib.Seq.{take_at, drop_at, drop-drop, drop-cons, set_at}
use Rattle.basics.specs.Ranges.{every}
use Rattle.basics.proofs.LoopLaws.{every-last}
use Rattle.pages.proofs.PartLaws.{fits-pool}
use Rattle.layout.specs.Rows.{joined, firsts}
use Rattle.layout.proofs.RowLaws.{length-joined, length-firsts}

-- ---- writing parts of w bytes

-- the first k parts are written over what stood there
abbrev pub Written : (ℕ → List ℕ) → ℕ → ℕ → List ℕ → List ℕ → ℕ → Type 0
Written f w n out₀ out k = (k ≤ n) × (length out ≡ n * w) × (length out₀ ≡ n * w) × (out ≡ joined f k ++ drop (k * w) out₀)

module _ (f : ℕ → List ℕ) (w n : ℕ) (out₀ : List ℕ) where
  pub written_none : length out₀ ≡ n * w → Written f w n out₀ out₀ 0
  unfolding joined
  written_none e = (omega arith, e, e, rw (zero-mul w) refl)

  laid_next : ((k : ℕ) → length (f k) ≡ w) → (out ys : List ℕ) (k : ℕ) → out ≡ joined f k ++ drop (k * w) out₀ → ys ≡ f k
      → take (k * w) out ++ (ys ++ drop (k * w + w - k * w) (drop (k * w) out)) ≡ joined f (k + 1) ++ drop ((k + 1) * w) out₀
  unfolding joined
  laid_next each out ys k h y =
      let width : k * w + w - k * w ≡ w = omega arith in
      let so_far = length-joined f w each k in
      let rest = drop (k * w) out₀ in
      rw (width, h, y, add-one k, suc-mul k w, take_at (joined f k) rest (k * w) so_far, drop_at (joined f k) rest (k * w) so_far, drop-drop w (k * w) out₀)
      (sym (append_assoc (joined f k) (f k) (drop (k * w + w) out₀)))

  -- the next part, lent on, has come back as ys
  pub written_next : ((k : ℕ) → length (f k) ≡ w) → (out ys : List ℕ) (k : ℕ) → Written f w n out₀ out k → k < n → ys ≡ f k
      → Written f w n out₀ (take (k * w) out ++ (ys ++ drop (k * w + w - k * w) (drop (k * w) out))) (k + 1)
  written_next each out ys k inv more y =
      let laid = laid_next each out ys k inv.3 y in
      let room : (k + 1) * w ≤ length out₀ = rw (add-one k, suc-mul k w) (fits-pool w n out₀ k inv.2 more) in
      let long : length (joined f (k + 1) ++ drop ((k + 1) * w) out₀) ≡ length out₀
      = length-append (joined f (k + 1)) (drop ((k + 1) * w) out₀)
      ∙ rw (length-joined f w each (k + 1), length-drop ((k + 1) * w) out₀) (omega (arith, room)) in
      (omega arith, ap length laid ∙ long ∙ inv.2, inv.2, laid)

  pub written_all : (out : List ℕ) (k : ℕ) → Written f w n out₀ out k → n ≤ k → out ≡ joined f n
  written_all out k inv stop =
      let last : k ≡ n = omega (arith, inv.0) in
      inv.3 ∙ rw (last, drop_of_length-le out₀ {i = n * w} (omega (arith, inv.2))) (append-nil (joined f n))

-- ---- filling an array

-- the first k elements are stored over those of l₀
abbrev pub Filled {ℓ} : {A : Type ℓ} → (ℕ → A) → ℕ → List A → List A → ℕ → Type ℓ
Filled f n l₀ l k = (k ≤ n) × (l ≡ firsts f k ++ drop k l₀)

module _ {A : Type 0} (f : ℕ → A) (n : ℕ) (l₀ : List A) where
  pub filled_none : (l : List A) → l ≡ l₀ → Filled f n l₀ l 0
  unfolding firsts
  filled_none l e = (omega arith, e)

  pub filled_next : (d : A) (l : List A) (k : ℕ) (v : A) → n ≤ length l₀ → Filled f n l₀ l k → k < n → v ≡ f k → Filled f n l₀ (set l k v) (k + 1)
  unfolding firsts
  filled_next d l k v long inv more y = (
    omega arith,
    rw (inv.1, y, add-one k, drop-cons l₀ k d (omega arith), set_at (firsts f k) (get_or l₀ k d) (drop (suc k) l₀) (f k) k (length-firsts f k))
        (sym (append_assoc (firsts f k) (f k ∷ []) (drop (suc k) l₀))),
  )

  pub filled-all : (l : List A) (k : ℕ) → length l₀ ≡ n → Filled f n l₀ l k → n ≤ k → l ≡ firsts f n
  filled-all l k long inv stop =
      let last : k ≡ n = omega (arith, inv.0) in
      inv.1 ∙ rw (last, drop_of_length-le l₀ {i = n} (omega arith)) (append-nil (firsts f n))

-- ---- testing

-- the first k are tested
abbrev pub Tested : (ℕ → Bool) → ℕ → Bool → ℕ → Type 0
Tested P n all k = (k ≤ n) × (all ≡ every P 0 k)

module _ (P : ℕ → Bool) (n : ℕ) where
  pub tested-none : Tested P n true 0
  unfolding every
  tested-none = (omega arith, refl)

  pub tested-next : (all b : Bool) (k : ℕ) → Tested P n all k → k < n → b ≡ P k → Tested P n (all && b) (k + 1)
  tested-next all b k inv more y = (omega arith, rw (inv.1, y) (sym (every-last P k)))

  pub tested-all : (all : Bool) (k : ℕ) → Tested P n all k → n ≤ k → all ≡ every P 0 n
  tested-all all k inv stop = let last : k ≡ n = omega (arith, inv.0) in rw last at inv.1
