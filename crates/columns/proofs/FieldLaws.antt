-- Laws of a field, of its columns and of their digits: what is printed is read (..-says), and what is read was so printed (..-said).
use Prim.Native.Nat.{ℕ, zero, suc, ◌+◌, ◌-◌, ◌*◌, ◌/◌, ◌^◌, ◌≤◌, ◌<◌}
use mathlib.Core.Path.{◌≡◌, refl, sym, ap, ◌∙◌}
use mathlib.Core.Bool.{Bool, true, false}
use mathlib.Core.List.{List, [], ◌∷◌, ◌++◌, append_assoc}
use native.Mathlib.Omega.{arith}
use lib.ListN.{length, get_or, take}
use lib.Seq.{take-suc, take_all, get_or_at}
use lib.Dec.{eqb, ltb}
use borrow.Author.Tests.{eqb-true, eqb-false, ltb-true, ltb-false, le-ltb, ne_eqb}
use Rattle.basics.specs.Choice.{◌when◌else◌}
use Rattle.basics.proofs.TestLaws.{by_cases}
use Rattle.std.specs.Prelude.{Option, Some, None}
use Rattle.columns.specs.Prints.{last_digit, column, columns, printed_field}
use Rattle.columns.specs.Fields.{with_digit, with_column, columns_read, field_of}
use Rattle.columns.proofs.PrintLaws.{length-columns}

-- what was read before a column, and what stands in it, where the number is then n
pub record Read (shown : ℕ → ℕ) (before : Option ℕ) (byte n : ℕ) : Type 0 where
  pub rest : before ≡ Some (n / 10)
  pub here : byte ≡ shown n
  pub small : n ≤ 65535

never {ℓ} : {R : Type ℓ} (n : ℕ) → None ≡ Some n → R
never n e = let z : ◌≡◌ {A = ℕ} 0 1 = cc in absurd (omega arith)

pub number_same : (n m : ℕ) → Some n ≡ Some m → n ≡ m
number_same n m e = cc

-- a line of a table that was passed by
not-bad : (c : Bool) (other : Option ℕ) (n : ℕ) → (None when c else other) ≡ Some n → (c ≡ false) × (other ≡ Some n)
not-bad true other n e = never n e
not-bad false other n e = (refl, e)

digit-stands : (before n byte : ℕ) → 48 ≤ byte → byte ≤ 57 → before * 10 + (byte - 48) ≤ 65535 → before * 10 + (byte - 48) ≡ n
    → Read last_digit (Some before) byte n
digit-stands before n byte low high small e = record { rest = ap Some (omega arith); here = omega arith; small = omega arith }

pub digit-said : (before : Option ℕ) (byte n : ℕ) → with_digit before byte ≡ Some n → Read last_digit before byte n
unfolding with_digit
digit-said None byte n e = never n e
digit-said (Some before) byte n e =
    let more : ℕ = before * 10 + (byte - 48) in
    let low = not-bad (ltb byte 48) (None when ltb 57 byte else None when ltb 65535 more else Some more) n e in
    let high = not-bad (ltb 57 byte) (None when ltb 65535 more else Some more) n low.1 in
    let small = not-bad (ltb 65535 more) (Some more) n high.1 in
    digit-stands before n byte (ltb-false byte 48 low.0) (ltb-false 57 byte high.0) (ltb-false 65535 more small.0) (number_same more n small.1)

pub digit-says : (n : ℕ) → n ≤ 65535 → with_digit (Some (n / 10)) (last_digit n) ≡ Some n
unfolding with_digit
digit-says n h =
    let e : n / 10 * 10 + (last_digit n - 48) ≡ n = omega arith in
    rw (le-ltb (last_digit n) 48 (omega arith), le-ltb 57 (last_digit n) (omega arith), e, le-ltb 65535 n h)

pub column-shown : (n : ℕ) → 0 < n → column n ≡ last_digit n
column-shown n h = rw (ne_eqb n 0 (λ e. omega arith))

-- a digit read in a column that is not the last, and not as a leading zero
shown-digit : (before : Option ℕ) (byte n : ℕ) → 0 < n → Read last_digit before byte n → Read column before byte n
shown-digit before byte n h r = record { rest = r.rest; here = r.here ∙ sym (column-shown n h); small = r.small }

first_said : (byte n : ℕ) → (Some 0 when eqb byte 32 else None when eqb byte 48 else with_digit (Some 0) byte) ≡ Some n → Read column (Some 0) byte n
first_said byte n e =
    by_cases (eqb byte 32)
    (λ t. blank t (number_same 0 n (rw t at e)))
    (λ t. digit (not-bad (eqb byte 48) (with_digit (Some 0) byte) n (rw t at e)))
  where
    blank : eqb byte 32 ≡ true → 0 ≡ n → Read column (Some 0) byte n
    blank t z = rw (← z) (record { rest = refl; here = eqb-true byte 32 t; small = omega arith })

    digit : (eqb byte 48 ≡ false) × (with_digit (Some 0) byte ≡ Some n) → Read column (Some 0) byte n
    digit p =
        let r = digit-said (Some 0) byte n p.1 in
        let positive : 0 < n = omega (arith, eqb-false byte 48 p.0, r.here) in
        shown-digit (Some 0) byte n positive r

pub column-said : (before : Option ℕ) (byte n : ℕ) → with_column before byte ≡ Some n → Read column before byte n
unfolding with_column
column-said None byte n e = never n e
column-said (Some before) byte n e =
    by_cases (ltb 0 before)
    (λ t. let r = digit-said (Some before) byte n (rw t at e) in
    let positive : 0 < n = omega (arith, ltb-true 0 before t, number_same before (n / 10) r.rest) in
    shown-digit (Some before) byte n positive r)
    (λ t. let z : before ≡ 0 = omega (arith, ltb-false 0 before t) in rw z (first_said byte n (rw (t, z) at e)))

-- what is printed is read
pub column-says : (n : ℕ) → n ≤ 65535 → with_column (Some (n / 10)) (column n) ≡ Some n
unfolding with_column
column-says n h = by_cases (eqb n 0) (λ t. rw (eqb-true n 0 t)) (λ t. digit (omega (arith, eqb-false n 0 t)))
  where
    digit : 0 < n → with_column (Some (n / 10)) (column n) ≡ Some n
    digit positive =
        rw (column-shown n positive)
        (by_cases (ltb 0 (n / 10)) (λ t. rw t (digit-says n h))
        (λ t. rw (t, ne_eqb (last_digit n) 32 (λ e. omega arith), ne_eqb (last_digit n) 48 (λ e. omega (arith, ltb-false 0 (n / 10) t))) (digit-says n h)))

-- columns from left to right
pub columns-said : (part : List ℕ) (k n : ℕ) → k ≤ length part → columns_read part k ≡ Some n → take k part ≡ columns k n
unfolding columns_read columns
columns-said part zero n h e = refl
columns-said part (suc k) n h e =
    let r = column-said (columns_read part k) (get_or part k 0) n e in
    rw (take-suc part k 0 (omega arith), columns-said part k (n / 10) (omega arith) r.rest, r.here)

pub columns-says : (k n : ℕ) (more : List ℕ) → n < 10 ^ k → n ≤ 65535 → columns_read (columns k n ++ more) k ≡ Some n
unfolding columns_read columns
columns-says zero n more h small = ap Some (omega arith)
columns-says (suc k) n more h small =
    let joined : columns (suc k) n ++ more ≡ columns k (n / 10) ++ (column n ∷ more) = append_assoc (columns k (n / 10)) (column n ∷ []) more in
    let before = ap (λ (part : List ℕ). columns_read part k) joined ∙ columns-says k (n / 10) (column n ∷ more) (omega arith) (omega arith) in
    let here = ap (λ (part : List ℕ). get_or part k 0) joined ∙ get_or_at (columns k (n / 10)) (column n) more 0 k (length-columns k (n / 10)) in
    ap (λ (read : Option ℕ). with_column read (get_or (columns (suc k) n ++ more) k 0)) before
    ∙ ap (λ (byte : ℕ). with_column (Some (n / 10)) byte) here
    ∙ column-says n small

-- a field says a number only as it is printed
pub field-said : (part : List ℕ) (n : ℕ) → length part ≡ 6 → field_of part ≡ Some n → part ≡ printed_field n
unfolding field_of printed_field
field-said part n h e =
    let r = digit-said (columns_read part 5) (get_or part 5 0) n e in
    sym (take_all 6 part (omega arith)) ∙ rw (take-suc part 5 0 (omega arith), columns-said part 5 (n / 10) (omega arith) r.rest, r.here)

pub field-small : (part : List ℕ) (n : ℕ) → field_of part ≡ Some n → n ≤ 65535
unfolding field_of
field-small part n e = (digit-said (columns_read part 5) (get_or part 5 0) n e).small

-- and what is printed is what it says
pub field-says : (n : ℕ) → n ≤ 65535 → field_of (printed_field n) ≡ Some n
unfolding field_of printed_field
field-says n h =
    rw (
      columns-says 5 (n / 10) (last_digit n ∷ []) (omega arith) (omega arith),
      get_or_at (columns 5 (n / 10)) (last_digit n) [] 0 5 (length-columns 5 (n / 10)),
    )
    (digit-says n h)
