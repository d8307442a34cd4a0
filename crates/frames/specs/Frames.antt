-- The frames that two words mark as held, how many they are, and the smallest of them.
use Rattle.std.specs.Prelude.{ℕ, ◌-◌, ◌≤◌, ◌<◌, ◌≡◌, Bool, ◌&&◌, ltb, eqb}
use Rattle.basics.specs.Choice.{◌when◌else◌}
use Rattle.std.specs.Int.Bits.{bit_and, bit_or}
use Rattle.basics.specs.Ranges.{sum, lowest}
use Rattle.words.specs.Word.{bit, put_bit}
use Rattle.frames.specs.declared.Held.{Held}

-- 'Held frames are marked one bit a frame': 1 where frame f is held, 0 where it is not
unfoldable pub held : Held → ℕ → ℕ
held h f = bit h.low f when ltb f 64 else bit h.high (f - 64)

-- h with the mark b for frame f: 1 for held, 0 for not held
unfoldable pub mark : Held → ℕ → ℕ → Held
mark h f b = record { low = put_bit h.low f b; high = h.high } when ltb f 64 else record { low = h.low; high = put_bit h.high (f - 64) b }

-- 'no held frame'
abbrev pub none_held : Held
none_held = record { low = 0; high = 0 }

-- two have the same marks: both words are equal
abbrev pub same_held : Held → Held → Bool
same_held h j = eqb h.low j.low && eqb h.high j.high

-- 'counts the marks': how many of the 128 frames are held
unfoldable pub count_held : Held → ℕ
count_held h = sum (held h) 128

-- the smallest held frame; 128 where none is held
unfoldable pub least_held : Held → ℕ
least_held h = lowest (λ f. eqb (held h f) 1) 0 128

-- the frames that either marks
unfoldable pub both_held : Held → Held → Held
both_held h j = record { low = bit_or h.low j.low; high = bit_or h.high j.high }

-- no frame is marked by both
unfoldable pub apart_held : Held → Held → Bool
apart_held h j = eqb (bit_and h.low j.low) 0 && eqb (bit_and h.high j.high) 0

-- no frame past a pool of n frames is held
pub record Within (h : Held) (n : ℕ) : Type 0 where
  pub few : n ≤ 128
  pub none : (f : ℕ) → n ≤ f → f < 128 → held h f ≡ 0
