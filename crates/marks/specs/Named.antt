-- The frames that entries name. The entries of a table are a function, each by its place: 'An entry is 0 for none, else a frame number plus one'.
use Rattle.std.specs.Prelude.{◌≡◌, ℕ, zero, suc, ◌<◌}
use Rattle.basics.specs.Ranges.{sum}
use Rattle.frames.specs.Frames.{held}
use Rattle.frames.specs.declared.Held.{Held}

-- 'entries name frames of the pool, no frame twice; the held marks are those frames', of a pool of n frames
pub record Named (n : ℕ) (h : Held) (p : ℕ → ℕ) : Type 0 where
  pub within : (k f : ℕ) → p k ≡ suc f → f < n
  pub once : (k j f : ℕ) → p k ≡ suc f → p j ≡ suc f → k ≡ j
  pub marked : (k f : ℕ) → p k ≡ suc f → held h f ≡ 1
  pub named : (f : ℕ) → f < 128 → held h f ≡ 1 → (k : ℕ) × (p k ≡ suc f)

-- 1 for an entry that names a frame, 0 for one that names none
abbrev pub used : ℕ → ℕ
used zero = 0
used (suc f) = 1

-- how many of the first m entries name a frame
unfoldable pub used_below : (ℕ → ℕ) → ℕ → ℕ
used_below p m = sum (λ k. used (p k)) m
