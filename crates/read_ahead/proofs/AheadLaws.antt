-- Laws of a roll's lines read ahead: there are eight numbers for each, each line can be taken from its place, and a line put behind those there is one more.
use Prim.Native.Nat.{ℕ, zero, suc, ◌+◌, ◌*◌, ◌<◌}
use mathlib.Core.Path.{◌≡◌, refl, sym, ap, ◌∙◌}
use mathlib.Core.List.{List, ◌++◌, append_assoc}
use native.Mathlib.Numerals.{add-one}
use native.Mathlib.Omega.{arith}
use lib.ListN.{length, take, drop, length-append}
use lib.Seq.{take_at, drop-drop, drop-append-add}
use lib.Dec.{ltb}
use borrow.Author.Tests.{ltb-true, ltb-false}
use Rattle.basics.proofs.TestLaws.{by_cases}
use Rattle.lines.specs.Lines.{line_at}
use Rattle.line_numbers.specs.Numbers.{numbers_of, line_in}
use Rattle.line_numbers.proofs.NumbersLaws.{length-numbers, numbers-back}
use Rattle.read_ahead.specs.ReadAhead.{numbers_in}

pub length-ahead : (roll : List ℕ) (n : ℕ) → length (numbers_in roll n) ≡ n * 8
unfolding numbers_in
length-ahead roll zero = refl
length-ahead roll (suc n) = simp (length-append, length-numbers, length-ahead roll n) (omega arith)

-- each line can be taken from its place
pub line-ahead : (roll rest : List ℕ) (n k : ℕ) → k < n → line_in (numbers_in roll n ++ rest) k ≡ line_at roll k
unfolding numbers_in
line-ahead roll rest zero k h = absurd (omega arith)
line-ahead roll rest (suc n) k h =
    ap (λ ns. line_in ns k) (append_assoc (numbers_in roll n) _ rest)
    ∙ by_cases (ltb k n) (λ e. line-ahead roll (numbers_of (line_at roll n) ++ rest) n k (ltb-true k n e)) (λ e.
    let same : k ≡ n = omega (arith, ltb-false k n e) in
    rw same (numbers-back (numbers_in roll n) rest n (line_at roll n) (length-ahead roll n)))

-- before the first line all is as it was
pub ahead_none : (roll before : List ℕ) → before ≡ numbers_in roll 0 ++ drop (0 * 8) before
unfolding numbers_in
ahead_none roll before = refl

-- and the next line put at its place is one line more
pub ahead_more : (roll before ns after : List ℕ) (k : ℕ) → ns ≡ numbers_in roll k ++ drop (k * 8) before
    → after ≡ take (k * 8) ns ++ (numbers_of (line_at roll k) ++ drop (k * 8 + 8) ns) → after ≡ numbers_in roll (k + 1) ++ drop ((k + 1) * 8) before
unfolding numbers_in
ahead_more roll before ns after k e said =
    let front = numbers_in roll k in
    let line = numbers_of (line_at roll k) in
    let rest = drop (k * 8) before in
    let long : length front ≡ k * 8 = length-ahead roll k in
    let first : take (k * 8) ns ≡ front = ap (take (k * 8)) e ∙ take_at front rest (k * 8) long in
    let place : k * 8 + 8 ≡ length front + 8 = omega (arith, long) in
    let end : k * 8 + 8 ≡ (k + 1) * 8 = omega arith in
    let last : drop (k * 8 + 8) ns ≡ drop ((k + 1) * 8) before
    = ap (drop (k * 8 + 8)) e ∙ rw place (drop-append-add front rest 8) ∙ drop-drop 8 (k * 8) before ∙ ap (λ n. drop n before) end in
    said ∙ rw (first, last) (sym (append_assoc front line (drop ((k + 1) * 8) before)))
    ∙ ap (λ m. numbers_in roll m ++ drop ((k + 1) * 8) before) (sym (add-one k))
