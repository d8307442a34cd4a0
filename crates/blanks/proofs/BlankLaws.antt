-- Laws of five blanks: four bytes make the number of four blanks exactly where each is a blank.
use Prim.Native.Nat.{ℕ, ◌+◌, ◌*◌, ◌<◌}
use mathlib.Core.Path.{◌≡◌, refl}
use mathlib.Core.Bool.{true, ◌&&◌}
use mathlib.Core.List.{List, [], ◌∷◌}
use native.Mathlib.Omega.{arith}
use lib.ListN.{get_or}
use lib.Dec.{eqb}
use mir.Syntax.{w8, w32}
use mir.Val.{Fits}
use Rattle.std.specs.Int.{from_le_bytes}
use borrow.Author.Tests.{eqb-true, eq-eqb}
use Rattle.basics.specs.Ranges.{every}
use Rattle.basics.proofs.TestLaws.{both_ways, and_both, and-of}
use Rattle.columns.specs.Reading.{blanks}

-- four bytes as one number, and a fifth
five-equal : (a b c d e : ℕ) → a < 256 → b < 256 → c < 256 → d < 256
    → (eqb (a + b * 256 + (c + d * 256) * 65536) 538976288 && eqb e 32)
    ≡ (eqb a 32 && (eqb b 32 && (eqb c 32 && (eqb d 32 && (eqb e 32 && true)))))
five-equal a b c d e ha hb hc hd =
    both_ways
    (eqb (a + b * 256 + (c + d * 256) * 65536) 538976288 && eqb e 32)
    (eqb a 32 && (eqb b 32 && (eqb c 32 && (eqb d 32 && (eqb e 32 && true)))))
    (λ t.
    let p = and_both (eqb (a + b * 256 + (c + d * 256) * 65536) 538976288) (eqb e 32) t in
    let sum = eqb-true (a + b * 256 + (c + d * 256) * 65536) 538976288 p.0 in
    and-of (eq-eqb a 32 (omega (arith, sum)))
    (and-of (eq-eqb b 32 (omega (arith, sum)))
    (and-of (eq-eqb c 32 (omega (arith, sum))) (and-of (eq-eqb d 32 (omega (arith, sum))) (and-of p.1 refl)))))
    (λ t.
    let p = and_both (eqb a 32) (eqb b 32 && (eqb c 32 && (eqb d 32 && (eqb e 32 && true)))) t in
    let q = and_both (eqb b 32) (eqb c 32 && (eqb d 32 && (eqb e 32 && true))) p.1 in
    let r = and_both (eqb c 32) (eqb d 32 && (eqb e 32 && true)) q.1 in
    let s = and_both (eqb d 32) (eqb e 32 && true) r.1 in
    let a32 = eqb-true a 32 p.0 in
    let b32 = eqb-true b 32 q.0 in
    let c32 = eqb-true c 32 r.0 in
    let d32 = eqb-true d 32 s.0 in
    and-of (eq-eqb (a + b * 256 + (c + d * 256) * 65536) 538976288 (omega (arith, a32, b32, c32, d32))) (and_both (eqb e 32) true s.1).0)

-- four bytes as one number, the first the lowest
four-bytes : (a b c d : ℕ) → from_le_bytes w32 (a ∷ b ∷ c ∷ d ∷ []) ≡ a + b * 256 + (c + d * 256) * 65536
four-bytes a b c d = omega arith

pub five-blanks : (text : List ℕ) (at : ℕ) → ((i : ℕ) → Fits w8 (get_or text i 0)) → let byte : ℕ → ℕ = λ i. get_or text i 0 in
    (eqb (from_le_bytes w32 (byte at ∷ byte (at + 1) ∷ byte (at + 2) ∷ byte (at + 3) ∷ [])) 538976288 && eqb (byte (at + 4)) 32) ≡ blanks text at 5
unfolding every
five-blanks text at fits =
    let byte : ℕ → ℕ = λ i. get_or text i 0 in
    let small : (i : ℕ) → byte i < 256 = λ i. omega (arith, (fits i).fits) in
    let two : at + 1 + 1 ≡ at + 2 = omega arith in
    let three : at + 2 + 1 ≡ at + 3 = omega arith in
    let four : at + 3 + 1 ≡ at + 4 = omega arith in
    rw (two, three, four, four-bytes (byte at) (byte (at + 1)) (byte (at + 2)) (byte (at + 3)))
    (five-equal (byte at) (byte (at + 1)) (byte (at + 2)) (byte (at + 3)) (byte (at + 4)) (small at) (small (at + 1)) (small (at + 2)) (small (at + 3)))
