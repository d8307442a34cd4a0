-- Entries in groups of eight, which are looked at together.
use Prim.Native.Nat.{ℕ, ◌+◌, ◌*◌, ◌/◌, ◌≤◌, ◌<◌}
use native.Mathlib.Omega.{arith}

-- the entries of k groups
abbrev pub of_groups : ℕ → ℕ
of_groups k = k * 8

-- whole groups are no more entries than there are, nor are those before one and its own
pub groups-in : (n k : ℕ) → k ≤ n / 8 → of_groups k ≤ n
groups-in n k l = omega arith

pub group-in : (n k : ℕ) → k < n / 8 → of_groups k + 8 ≤ n
group-in n k l = omega arith

pub all-groups : (n : ℕ) → of_groups (n / 8) ≤ n
all-groups n = groups-in n (n / 8) (omega arith)
