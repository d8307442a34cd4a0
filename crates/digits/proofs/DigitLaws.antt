-- Laws of digits read: each column from the first digit on has one; what is no digit, or too much, stays so to the end.
use Prim.Native.Nat.{ℕ, zero, suc, ◌+◌, ◌-◌, ◌*◌, ◌/◌, ◌<◌, ◌≤◌}
use Rattle.std.proofs.Common.{◌≡◌, ltb, List, get_or, sym, ◌∙◌, arith, ltb-true, ltb-false, le-ltb, lt-ltb, ne_eqb, inl, inr}
use Rattle.basics.proofs.TestLaws.{by_cases}
use Rattle.std.specs.Prelude.{Some, None}
use Rattle.columns.specs.Fields.{with_digit, with_column, columns_read, field_of}
use Rattle.columns.specs.Reading.{as_field}
use Rattle.std.specs.Char.{IsAsciiDigit, IsNotAsciiDigit}
use Rattle.columns.proofs.FieldLaws.{number_same, digit-said}

-- a byte that is no digit, and one that is
pub no-digit : (n byte : ℕ) → IsNotAsciiDigit byte → None ≡ with_digit (Some n) byte
unfolding with_digit
no-digit n byte (inl l) = rw (lt-ltb byte 48 l)
no-digit n byte (inr l) = by_cases (ltb byte 48) (λ t. rw t) (λ t. rw (t, lt-ltb 57 byte l))

pub one-digit : (n byte m : ℕ) → IsAsciiDigit byte → m ≡ n * 10 + (byte - 48) → as_field m ≡ with_digit (Some n) byte
unfolding with_digit
one-digit n byte m h e = rw (le-ltb byte 48 (omega (arith, h)), le-ltb 57 byte (omega (arith, h)), e)

-- what is bad stays so to the last column
bad-stays : (part : List ℕ) (k more : ℕ) → columns_read part k ≡ None → columns_read part (more + k) ≡ None
unfolding columns_read with_column
bad-stays part k zero e = let z : 0 + k ≡ k = omega arith in rw z e
bad-stays part k (suc more) e =
    let z : suc more + k ≡ suc (more + k) = omega arith in
    rw (z, bad-stays part k more e)

pub bad-field : (part : List ℕ) (k : ℕ) → k ≤ 5 → columns_read part k ≡ None → None ≡ field_of part
unfolding field_of with_digit
bad-field part k h e =
    let z : 5 - k + k ≡ 5 = omega arith in
    rw (← z, bad-stays part k (5 - k) e)

-- a leading zero
pub zero_field : (part : List ℕ) (k : ℕ) → k < 5 → columns_read part k ≡ Some 0 → get_or part k 0 ≡ 48 → None ≡ field_of part
unfolding columns_read with_column
zero_field part k h e b = bad-field part (suc k) (omega arith) (rw (e, b))

-- a column behind the first digit, or with it, is read as a digit
column-digit : (n byte : ℕ) → (n ≡ 0 → byte ≡ 32 → ⊥) → (n ≡ 0 → byte ≡ 48 → ⊥) → with_column (Some n) byte ≡ with_digit (Some n) byte
unfolding with_column
column-digit n byte blank nought =
    by_cases (ltb 0 n) (λ t. rw t)
    (λ t. let z : n ≡ 0 = omega (arith, ltb-false 0 n t) in rw (t, ne_eqb byte 32 (blank z), ne_eqb byte 48 (nought z)))

-- a column read behind the first digit, or with it, of which no digit has been read as 0 before
module _ (part : List ℕ) (first i n : ℕ) (said : columns_read part i ≡ Some n) (begun : n ≡ 0 → i ≡ first)
    (blank : get_or part first 0 ≡ 32 → ⊥) (nought : get_or part first 0 ≡ 48 → ⊥) where
  next-column : columns_read part (suc i) ≡ with_digit (Some n) (get_or part i 0)
  unfolding columns_read
  next-column = rw said (column-digit n (get_or part i 0) (λ z b. blank (rw (begun z) at b)) (λ z b. nought (rw (begun z) at b)))

  last-column : i ≡ 5 → field_of part ≡ with_digit (Some n) (get_or part i 0)
  unfolding field_of
  last-column z = rw (← z, said)

  pub next-none : i < 6 → None ≡ with_digit (Some n) (get_or part i 0) → None ≡ field_of part
  next-none h e =
      by_cases (ltb i 5)
      (λ t. bad-field part (suc i) (ltb-true i 5 t) (next-column ∙ sym e))
      (λ t. e ∙ sym (last-column (omega (arith, h, ltb-false i 5 t))))

  pub next-said : (m : ℕ) → Some m ≡ with_digit (Some n) (get_or part i 0) → columns_read part (suc i) ≡ Some m
  next-said m e = next-column ∙ sym e

  pub last-said : (m : ℕ) → Some m ≡ with_digit (Some n) (get_or part i 0) → i ≡ 5 → field_of part ≡ Some m
  last-said m e z = last-column z ∙ sym e

  pub next-begun : (m : ℕ) → Some m ≡ with_digit (Some n) (get_or part i 0) → m ≡ 0 → ⊥
  next-begun m e z =
      let r = digit-said (Some n) (get_or part i 0) m (sym e) in
      let none : n ≡ 0 = omega (arith, number_same n (m / 10) r.rest) in
      let here : get_or part i 0 ≡ 48 = omega (arith, r.here) in
      nought (rw (begun none) at here)
