-- The best of the places that were passed, one more at each turn.
use Prim.Native.Nat.{ℕ, ◌+◌, ◌<◌}
use native.Mathlib.Numerals.{add-one}
use mathlib.Core.Path.{◌≡◌, refl}
use mathlib.Core.Bool.{Bool, true, false}
use native.Mathlib.Omega.{arith}
use Rattle.basics.specs.Rows.{best}

-- of the first i places, the best with its length is found
pub record BestOf (better : ℕ → ℕ → Bool) (l : ℕ → ℕ) (i place length : ℕ) : Type 0 where
  pub best : place ≡ best better l i
  pub its : length ≡ l place

module _ (better : ℕ → ℕ → Bool) (l : ℕ → ℕ) where
  pub best-first : (n : ℕ) → n ≡ l 0 → BestOf better l 0 0 n
  unfolding best
  best-first n e = record { best = refl; its = e }

  pub best-taken : (i n place length : ℕ) → n ≡ l i → BestOf better l i place length → better n length ≡ true → BestOf better l (i + 1) i n
  unfolding best
  best-taken i n place length e b t =
      let same : better (l i) (l (best better l i)) ≡ better n length = rw (e, b.its, b.best) in
      record { best = rw (add-one i, same, t); its = e }

  pub best-stays : (i n place length : ℕ) → n ≡ l i → BestOf better l i place length → better n length ≡ false → BestOf better l (i + 1) place length
  unfolding best
  best-stays i n place length e b t =
      let same : better (l i) (l (best better l i)) ≡ better n length = rw (e, b.its, b.best) in
      record { best = rw (add-one i, same, t) b.best; its = b.its }
