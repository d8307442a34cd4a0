-- Laws of a word's bits, for any number and any place.
use mathlib.Core.Path.{◌≡◌, refl, sym, ap, ap₂, ◌∙◌}
use Prim.Native.Nat.{ℕ, zero, suc, ◌+◌, ◌-◌, ◌*◌, ◌/◌, ◌%◌, ◌^◌, ◌≤◌, ◌<◌}
use native.Mathlib.Nat.{div-div-eq-div-mul, mul_comm, mul_assoc, pow-suc, mod-lt, mod-le, le_trans, mul-le-mul_right}
use native.Mathlib.Nat.{div-mul-le_self, zero-lt-suc, div-eq_of_lt, not-suc-le-zero, lt_of_lt_of_le}
use native.Mathlib.Omega.{arith}
use lib.Arith.{lt-one, digits_div}
use lib.Pow.{pow_mono}
use lib.Count.{ones, ones_step}
use Rattle.basics.specs.Ranges.{sum}
use Rattle.words.specs.Word.{bit, put_bit}
use Rattle.words.proofs.SumLaws.{sum_same, sum_first}

-- ---- a bit, by halves

pub bit-zero : (w : ℕ) → bit w 0 ≡ w % 2
unfolding bit
bit-zero w = omega arith

pub bit-suc : (w k : ℕ) → bit w (suc k) ≡ bit (w / 2) k
unfolding bit
bit-suc w k = ap (λ (x : ℕ). x % 2) (ap (λ (x : ℕ). w / x) (pow-suc 2 k ∙ mul_comm (2 ^ k) 2) ∙ sym (div-div-eq-div-mul w 2 (2 ^ k)))

pub bit-lt : (w k : ℕ) → bit w k < 2
unfolding bit
bit-lt w k = mod-lt (w / 2 ^ k) (zero-lt-suc 1)

pub bit_le : (w k : ℕ) → bit w k * 2 ^ k ≤ w
unfolding bit
bit_le w k = le_trans (mul-le-mul_right (2 ^ k) (mod-le (w / 2 ^ k) 2)) (div-mul-le_self w (2 ^ k))

pub half_lt : (w n : ℕ) → w < 2 ^ suc n → w / 2 < 2 ^ n
half_lt w n h = let e : 2 ^ suc n ≡ 2 ^ n * 2 = pow-suc 2 n in omega arith

-- ---- a bit that is put, by halves

pub put-zero : (w b : ℕ) → put_bit w 0 b ≡ w / 2 * 2 + b
unfolding put_bit bit
put-zero w b = omega arith

pub put-suc : (w k b : ℕ) → put_bit w (suc k) b ≡ put_bit (w / 2) k b * 2 + w % 2
unfolding put_bit
put-suc w k b =
    let x : ℕ = bit (w / 2) k * 2 ^ k in
    let y : ℕ = b * 2 ^ k in
    let ex : bit w (suc k) * 2 ^ suc k ≡ x * 2 = ap₂ (λ (m n : ℕ). m * n) (bit-suc w k) (pow-suc 2 k) ∙ sym (mul_assoc (bit (w / 2) k) (2 ^ k) 2) in
    let ey : b * 2 ^ suc k ≡ y * 2 = ap (λ (n : ℕ). b * n) (pow-suc 2 k) ∙ sym (mul_assoc b (2 ^ k) 2) in
    ap₂ (λ (m n : ℕ). w - m + n) ex ey ∙ omega (arith, bit_le (w / 2) k)

put-half : (w k b : ℕ) → put_bit w (suc k) b / 2 ≡ put_bit (w / 2) k b
put-half w k b = omega (arith, put-suc w k b)

put-odd : (w k b : ℕ) → put_bit w (suc k) b % 2 ≡ w % 2
put-odd w k b = omega (arith, put-suc w k b)

put-zero-half : (w b : ℕ) → b < 2 → put_bit w 0 b / 2 ≡ w / 2
put-zero-half w b h = omega (arith, put-zero w b)

put-zero-odd : (w b : ℕ) → b < 2 → put_bit w 0 b % 2 ≡ b
put-zero-odd w b h = omega (arith, put-zero w b)

-- ---- what stands at each place after a bit was put

pub bit-put-same : (w k b : ℕ) → b < 2 → bit (put_bit w k b) k ≡ b
bit-put-same w zero b h = bit-zero (put_bit w 0 b) ∙ put-zero-odd w b h
bit-put-same w (suc k) b h = bit-suc (put_bit w (suc k) b) k ∙ ap (λ (x : ℕ). bit x k) (put-half w k b) ∙ bit-put-same (w / 2) k b h

pub bit-put-other : (w k b g : ℕ) → b < 2 → (g ≡ k → ⊥) → bit (put_bit w k b) g ≡ bit w g
bit-put-other w zero b zero h n = absurd (n refl)
bit-put-other w zero b (suc g) h n = bit-suc (put_bit w 0 b) g ∙ ap (λ (x : ℕ). bit x g) (put-zero-half w b h) ∙ sym (bit-suc w g)
bit-put-other w (suc k) b zero h n = bit-zero (put_bit w (suc k) b) ∙ put-odd w k b ∙ sym (bit-zero w)
bit-put-other w (suc k) b (suc g) h n =
    bit-suc (put_bit w (suc k) b) g ∙ ap (λ (x : ℕ). bit x g) (put-half w k b) ∙ bit-put-other (w / 2) k b g h (λ e. n (ap suc e))
    ∙ sym (bit-suc w g)

pub put-put : (w k a b : ℕ) → a < 2 → put_bit (put_bit w k a) k b ≡ put_bit w k b
unfolding put_bit
put-put w k a b h =
    let same : bit (put_bit w k a) k ≡ a = bit-put-same w k a h in
    let e : bit (put_bit w k a) k * 2 ^ k ≡ a * 2 ^ k = ap (λ (x : ℕ). x * 2 ^ k) same in
    omega arith

pub put-bit : (w k : ℕ) → put_bit w k (bit w k) ≡ w
unfolding put_bit
put-bit w k = omega (arith, bit_le w k)

-- a word of n bits stays one
pub put-lt : (n w k b : ℕ) → b < 2 → k < n → w < 2 ^ n → put_bit w k b < 2 ^ n
put-lt zero w k b hb hk hw = absurd (not-suc-le-zero hk)
put-lt (suc n) w zero b hb hk hw = let e : 2 ^ suc n ≡ 2 ^ n * 2 = pow-suc 2 n in omega (arith, put-zero w b, half_lt w n hw)
put-lt (suc n) w (suc k) b hb hk hw =
    let e : 2 ^ suc n ≡ 2 ^ n * 2 = pow-suc 2 n in
    omega (arith, put-suc w k b, put-lt n (w / 2) k b hb (omega arith) (half_lt w n hw))

-- ---- the count of the bits that are set

pub ones-put : (w k b : ℕ) → b < 2 → ones (put_bit w k b) + bit w k ≡ ones w + b
ones-put w zero b h =
    ap₂ (λ (x y : ℕ). x + y)
    (ones_step (put_bit w 0 b) ∙ ap₂ (λ (x y : ℕ). x + ones y) (put-zero-odd w b h) (put-zero-half w b h))
    (bit-zero w)
    ∙ omega (arith, ones_step w)
ones-put w (suc k) b h =
    ap₂ (λ (x y : ℕ). x + y)
    (ones_step (put_bit w (suc k) b) ∙ ap₂ (λ (x y : ℕ). x + ones y) (put-odd w k b) (put-half w k b))
    (bit-suc w k)
    ∙ omega (arith, ones_step w, ones-put (w / 2) k b h)

pub ones-sum : (n w : ℕ) → w < 2 ^ n → ones w ≡ sum (bit w) n
unfolding ones sum
ones-sum zero w h = ap ones (lt-one h)
ones-sum (suc n) w h =
    ones_step w
    ∙ ap₂ (λ (x y : ℕ). x + y) (sym (bit-zero w)) (ones-sum n (w / 2) (half_lt w n h) ∙ sum_same _ _ n (λ k l. sym (bit-suc w k)))
    ∙ sym (sum_first (bit w) n)

-- ---- a word is its bits

pub word-ext : (n w v : ℕ) → w < 2 ^ n → v < 2 ^ n → ((k : ℕ) → k < n → bit w k ≡ bit v k) → w ≡ v
word-ext zero w v hw hv h = lt-one hw ∙ sym (lt-one hv)
word-ext (suc n) w v hw hv h =
    let low : w % 2 ≡ v % 2 = sym (bit-zero w) ∙ h 0 (omega arith) ∙ bit-zero v in
    let high : w / 2 ≡ v / 2 = word-ext n (w / 2) (v / 2) (half_lt w n hw) (half_lt v n hv)
    (λ k l. sym (bit-suc w k) ∙ h (suc k) (omega arith) ∙ bit-suc v k) in
    omega arith

-- the highest bit that is set, and the places above it
pub bit-top : (j c : ℕ) → 2 ^ j ≤ c → c < 2 ^ suc j → bit c j ≡ 1
unfolding bit
bit-top j c lo hi =
    let e : 2 ^ suc j ≡ 2 ^ j * 2 = pow-suc 2 j in
    let cut : c ≡ 1 * 2 ^ j + (c - 2 ^ j) = omega arith in
    ap (λ (x : ℕ). x % 2) (ap (λ (x : ℕ). x / 2 ^ j) cut ∙ digits_div 1 (omega arith))

pub bit-above : (n c g : ℕ) → c < 2 ^ n → n ≤ g → bit c g ≡ 0
unfolding bit
bit-above n c g h l = ap (λ (x : ℕ). x % 2) (div-eq_of_lt (lt_of_lt_of_le h (pow_mono l)))
