-- The greatest place of a word whose bit is not set, by the leading zeros of the complement.
use mathlib.Core.Path.{◌≡◌, sym, ap, ◌∙◌, subst}
use mathlib.Core.Logic.{⊎_elim}
use Prim.Native.Nat.{ℕ, suc, ◌+◌, ◌-◌, ◌/◌, ◌%◌, ◌^◌, ◌≤◌, ◌<◌}
use native.Mathlib.Nat.{mod-lt, lt_of_lt_of_le, not-le_of_lt, le_trans}
use native.Mathlib.Omega.{arith}
use lib.Pow.{pow_pos, pow_mono, high, ones_split, ones_lt}
use lib.Bits.{bit_and, and_mask}
use lib.Count.{count_leading_zeros, leading_top}
use Rattle.words.specs.Word.{bit}
use Rattle.free_frames.specs.Greatest.{greatest}
use Rattle.std.specs.Prelude.{Some, None}
use Rattle.words.proofs.WordLaws.{bit-top, bit-above}
use Rattle.words.proofs.OperatorLaws.{bit_not, bit-mod}
use Rattle.frames.proofs.FrameLaws.{lt-or-ge}
use Rattle.free_frames.proofs.GreatestLaws.{greatest-none, greatest-is}

-- the n low bits set
mask : (n : ℕ) → n ≤ 64 → 0xffff_ffff_ffff_ffff / 2 ^ (64 - n) ≡ 2 ^ n - 1
mask n h =
    ap (λ (x : ℕ). (2 ^ x - 1) / 2 ^ (64 - n)) {x = 64} {y = n + (64 - n)} (omega arith) ∙ ap (λ (x : ℕ). x / 2 ^ (64 - n)) (ones_split n (64 - n))
    ∙ high (2 ^ n - 1) (64 - n) (ones_lt (64 - n))

-- the n low bits of the complement
abbrev free_of : ℕ → ℕ → ℕ
free_of w n = bit_and (0xffff_ffff_ffff_ffff - w) (0xffff_ffff_ffff_ffff / 2 ^ (64 - n))

module _ (w n : ℕ) (hw : w < 2 ^ 64) (hn : n ≤ 64) where
  is-mod : free_of w n ≡ (0xffff_ffff_ffff_ffff - w) % 2 ^ n
  is-mod = ap (bit_and (0xffff_ffff_ffff_ffff - w)) (mask n hn) ∙ and_mask (0xffff_ffff_ffff_ffff - w) n

  below : free_of w n < 2 ^ n
  below = subst (λ (x : ℕ). x < 2 ^ n) (sym is-mod) (mod-lt (0xffff_ffff_ffff_ffff - w) (pow_pos n))

  digit : (k : ℕ) → k < n → bit (free_of w n) k ≡ 1 - bit w k
  digit k l = ap (λ (x : ℕ). bit x k) is-mod ∙ bit-mod n (0xffff_ffff_ffff_ffff - w) k l ∙ bit_not 64 w k hw (omega arith)

  pub unset-none : free_of w n ≡ 0 → greatest (bit w) n ≡ None
  unset-none e =
      greatest-none (bit w) n
      (λ k l z. let d : 0 ≡ 1 - bit w k = sym (bit-above 0 0 k (omega arith) (omega arith)) ∙ ap (λ (x : ℕ). bit x k) (sym e) ∙ digit k l in omega arith)

  module _ (some : free_of w n ≡ 0 → ⊥) where
    first : (j : ℕ) × (count_leading_zeros 64 (free_of w n) + suc j ≡ 64) × (2 ^ j ≤ free_of w n) × (free_of w n < 2 ^ suc j)
    first = leading_top 64 (free_of w n) (omega arith) (lt_of_lt_of_le below (pow_mono hn))

    pub zeros-le : count_leading_zeros 64 (free_of w n) ≤ 63
    zeros-le = omega (arith, first.1)

    pub unset-is : Some (record { 0 = 63 - count_leading_zeros 64 (free_of w n) }) ≡ greatest (bit w) n
    unset-is =
        let j : ℕ = first.0 in
        let at : 63 - count_leading_zeros 64 (free_of w n) ≡ j = omega (arith, first.1) in
        let low : j < n = ⊎_elim (λ p. p) (λ p. absurd (not-le_of_lt below (le_trans (pow_mono p) first.2))) (lt-or-ge j n) in
        let unset : bit w j ≡ 0 = omega (arith, digit j low, bit-top j (free_of w n) first.2 first.3) in
        ap (λ (x : ℕ). Some (record { 0 = x })) at
        ∙ sym (greatest-is (bit w) n j low unset
        (λ k a b e. let d : 0 ≡ 1 - bit w k = sym (bit-above (suc j) (free_of w n) k first.3 a) ∙ digit k b in omega arith))
