-- Digits from the first column that is no blank: the loop keeps the number that the columns so far say.
use Prim.Native.Nat.{ℕ, suc, ◌+◌, ◌-◌, ◌<◌}
use Rattle.std.proofs.Common.{◌≡◌, List, length, get_or, take, drop, Some, ap, sym, ◌∙◌, arith, length-take, length-drop, get_or-take, get_or-drop}
use Rattle.columns.specs.Fields.{with_digit}
use Rattle.digits.proofs.DigitLaws.{zero_field, next-none, next-said, last-said, next-begun}
use Rattle.digits.proofs.digits_from.Goals as goal

-- the byte that a turn looks at
within : (part : List ℕ) (first k : ℕ) → length part ≡ 6 → k < length (take (length part - first) (drop first part)) → first + k < 6
within part first k h t =
    let e : length (take (length part - first) (drop first part)) ≡ length part - first = simp (length-take, length-drop) (omega arith) in
    omega (arith, h, t, e)

byte-at : (part : List ℕ) (first k : ℕ) → length part ≡ 6 → first + k < 6
    → get_or (take (length part - first) (drop first part)) k 0 ≡ get_or part (first + k) 0
byte-at part first k h l = let inside : k < length part - first = omega arith in rw (get_or-take, get_or-drop)

pub returns-then-part-first-eq48 : goal.returns-then-part-first-eq48
returns-then-part-first-eq48 c = zero_field c.args.part.now c.args.first c.requires.part_len.2 c.requires.first_value.0 c.if-part-first-eq48.true

pub returns-in_err-n : goal.returns-in_err-n
returns-in_err-n c =
    let part : List ℕ = c.args.part.now in
    let first : ℕ = c.args.first in
    let k : ℕ = c.loop-byte.byte-index in
    let n : ℕ = c.loop-byte.n in
    let was = c.loop-byte.invariant in
    let whole = c.requires.part_len.0 in
    let inside : first + k < 6 = within part first k whole c.loop-byte-test.true in
    let read = sym c.in_err-n.was ∙ c.with_digit.ensures ∙ ap (λ byte. with_digit (Some n) byte) (byte-at part first k whole inside) in
    c.from_residual.ensures
    ∙ next-none part first (first + k) n (was.before (omega arith)) (λ z. omega (arith, was.begun z)) c.requires.first_value.1
    c.if-part-first-eq48.false inside read

pub loop-byte-preserved : goal.loop-byte-preserved
loop-byte-preserved c =
    let part : List ℕ = c.args.part.now in
    let first : ℕ = c.args.first in
    let k : ℕ = c.loop-byte.byte-index in
    let n : ℕ = c.loop-byte.n in
    let m : ℕ = c.in_ok-n.n in
    let was = c.loop-byte.invariant in
    let whole = c.requires.part_len.0 in
    let inside : first + k < 6 = within part first k whole c.loop-byte-test.true in
    let read = sym c.in_ok-n.was ∙ c.with_digit.ensures ∙ ap (λ byte. with_digit (Some n) byte) (byte-at part first k whole inside) in
    let said = was.before (omega arith) in
    let begun : n ≡ 0 → first + k ≡ first = λ z. omega (arith, was.begun z) in
    let blank = c.requires.first_value.1 in
    let nought = c.if-part-first-eq48.false in
    let next : first + (k + 1) ≡ suc (first + k) = omega arith in record {
      before = λ _. rw next (next-said part first (first + k) n said begun blank nought m read);
      whole = λ z. last-said part first (first + k) n said begun blank nought m read (omega arith);
      begun = λ z. absurd (next-begun part first (first + k) n said begun blank nought m read z);
    }
