-- A word as its binary digits.
use Rattle.std.specs.Prelude.{ℕ, ◌+◌, ◌-◌, ◌*◌, ◌/◌, ◌%◌, ◌^◌}

-- "two words of 64 bits"
abbrev pub word_bits : ℕ
word_bits = 64

-- the bit of w at place k, 0 or 1
unfoldable pub bit : ℕ → ℕ → ℕ
bit w k = w / 2 ^ k % 2

-- w with the bit b at place k
unfoldable pub put_bit : ℕ → ℕ → ℕ → ℕ
put_bit w k b = w - bit w k * 2 ^ k + b * 2 ^ k
