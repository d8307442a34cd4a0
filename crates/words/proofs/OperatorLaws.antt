-- The machine's operators on a word, by its bits.
use mathlib.Core.Path.{◌≡◌, refl, sym, ap, ap₂, ◌∙◌, subst}
use Prim.Native.Nat.{ℕ, zero, suc, ◌+◌, ◌-◌, ◌*◌, ◌/◌, ◌%◌, ◌^◌, ◌<◌, min}
use native.Mathlib.Nat.{pow-suc, not-suc-le-zero}
use native.Mathlib.Omega.{arith}
use lib.Arith.{lt-one}
use lib.Pow.{pow_pos, pow-lt, field, mod-mod-pow, shl_exact}
use lib.Bits.{bit_and, bit_or, and_step, or_add_and, and_high}
use Rattle.words.specs.Word.{bit, put_bit}
use Rattle.words.proofs.WordLaws.{bit-zero, bit-suc, bit_le, half_lt}

and_one : (w k : ℕ) → bit_and w (2 ^ k) ≡ bit w k * 2 ^ k
unfolding bit
and_one w k = ap (bit_and w) p ∙ and_high w 1 k
  where
    p : 2 ^ k ≡ 2 ^ (1 + k) - 2 ^ k
    p = let e : 2 ^ (1 + k) ≡ 2 ^ k * 2 = ap (λ (n : ℕ). 2 ^ n) (omega arith) ∙ pow-suc 2 k in omega arith

-- 1 << k
pub one_shl : (k : ℕ) → k < 64 → 1 * 2 ^ k % 2 ^ 64 ≡ 2 ^ k
one_shl k h = shl_exact 1 k 64 (omega arith) (omega arith) ∙ omega arith

pub or-is-put : (w k : ℕ) → bit_or w (2 ^ k) ≡ put_bit w k 1
unfolding put_bit
or-is-put w k = omega (arith, or_add_and w (2 ^ k), and_one w k, bit_le w k)

min-not : (x y : ℕ) → x < 2 → y < 2 → min x (1 - y) + min x y ≡ x
min-not x y hx hy = omega arith

by-halves : (a p q m l : ℕ) → p + q ≡ a / 2 → m + l ≡ a % 2 → (p * 2 + m) + (q * 2 + l) ≡ a
by-halves a p q m l h k = omega arith

-- what a has of b's complement in n bits, and of b
and-not : (n a b : ℕ) → a < 2 ^ n → b < 2 ^ n → bit_and a ((2 ^ n - 1) - b) + bit_and a b ≡ a
and-not zero a b ha hb = subst (λ (x : ℕ). bit_and x (0 - b) + bit_and x b ≡ x) (sym (lt-one ha)) refl
and-not (suc n) a b ha hb =
    let e : 2 ^ suc n ≡ 2 ^ n * 2 = pow-suc 2 n in
    let c : ℕ = (2 ^ suc n - 1) - b in
    let half : c / 2 ≡ (2 ^ n - 1) - b / 2 = omega arith in
    let odd : c % 2 ≡ 1 - b % 2 = omega arith in
    ap₂ (λ (x y : ℕ). x + y)
    (and_step a c ∙ ap₂ (λ (x y : ℕ). bit_and (a / 2) x * 2 + min (a % 2) y) half odd)
    (and_step a b)
    ∙ by-halves a _ _ _ _ (and-not n (a / 2) (b / 2) (half_lt a n ha) (half_lt b n hb)) (min-not (a % 2) (b % 2) (omega arith) (omega arith))

pub and-is-put : (n w k : ℕ) → w < 2 ^ n → k < n → bit_and w ((2 ^ n - 1) - 2 ^ k) ≡ put_bit w k 0
unfolding put_bit
and-is-put n w k hw hk = omega (arith, and-not n w (2 ^ k) hw (pow-lt hk), and_one w k, bit_le w k)

-- the bits of the complement in n bits
pub bit_not : (n w k : ℕ) → w < 2 ^ n → k < n → bit ((2 ^ n - 1) - w) k ≡ 1 - bit w k
bit_not zero w k hw hk = absurd (not-suc-le-zero hk)
bit_not (suc n) w zero hw hk =
    let e : 2 ^ suc n ≡ 2 ^ n * 2 = pow-suc 2 n in
    bit-zero ((2 ^ suc n - 1) - w) ∙ omega (arith, bit-zero w, pow_pos n)
bit_not (suc n) w (suc k) hw hk =
    let e : 2 ^ suc n ≡ 2 ^ n * 2 = pow-suc 2 n in
    let half : ((2 ^ suc n - 1) - w) / 2 ≡ (2 ^ n - 1) - w / 2 = omega arith in
    bit-suc ((2 ^ suc n - 1) - w) k ∙ ap (λ (x : ℕ). bit x k) half ∙ bit_not n (w / 2) k (half_lt w n hw) (omega arith)
    ∙ ap (λ (x : ℕ). 1 - x) (sym (bit-suc w k))

-- the bits below n of a number cut to n bits
pub bit-mod : (n w k : ℕ) → k < n → bit (w % 2 ^ n) k ≡ bit w k
unfolding bit
bit-mod n w k hk =
    let j : ℕ = n - (k + 1) in
    let e : n ≡ j + 1 + k = omega arith in
    ap (λ (m : ℕ). w % 2 ^ m / 2 ^ k % 2) e ∙ ap (λ (x : ℕ). x % 2) (field w (j + 1) k) ∙ mod-mod-pow (w / 2 ^ k) j 1
