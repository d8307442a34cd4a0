-- Laws of what is printed: its length, and that it tells its numbers, by induction over columns and over numbers.
use Prim.Native.Nat.{ℕ, zero, suc, ◌+◌, ◌-◌, ◌*◌, ◌/◌, ◌%◌, ◌^◌, ◌≤◌, ◌<◌}
use mathlib.Core.Path.{◌≡◌, refl, sym, ap, ◌∙◌}
use mathlib.Core.List.{List, [], ◌∷◌, ◌++◌}
use native.Mathlib.Omega.{arith}
use lib.ListN.{length, take, drop, length-append}
use lib.Seq.{take_at, drop_at}
use lib.Dec.{eqb}
use borrow.Author.Tests.{eqb-true}
use Rattle.basics.proofs.TestLaws.{by_cases}
use Rattle.interface.specs.declared.request.Request.{Request}
use Rattle.columns.specs.Prints.{last_digit, column, columns, printed_field, printed_line, UpTo, numbers_of, printed_request, printed_reply}

pub length-columns : (k n : ℕ) → length (columns k n) ≡ k
unfolding columns
length-columns zero n = refl
length-columns (suc k) n = simp (length-append, length-columns k (n / 10)) (omega arith)

pub length-field : (n : ℕ) → length (printed_field n) ≡ 6
unfolding printed_field
length-field n = simp (length-append, length-columns 5 (n / 10))

pub length-line : (numbers : List ℕ) → length (printed_line numbers) ≡ length numbers * 6 + 1
unfolding printed_line
length-line [] = refl
length-line (n ∷ more) = simp (length-append, length-field n, length-line more) (omega arith)

pub length-reply : (line number value : ℕ) → length (printed_reply line number value) ≡ 19
unfolding printed_reply
length-reply line number value = length-line (line ∷ number ∷ value ∷ [])

pub length-request : (q : Request) → length (printed_request q) ≡ 43
unfolding printed_request
length-request q = length-line (numbers_of q)

-- the number that columns spell, a blank counted as 0, after those of the number before
abbrev spelled : ℕ → List ℕ → ℕ
spelled before [] = before
spelled before (byte ∷ more) = spelled (before * 10 + (byte - 48)) more

spelled-append : (before : ℕ) (a b : List ℕ) → spelled before (a ++ b) ≡ spelled (spelled before a) b
spelled-append before [] b = refl
spelled-append before (byte ∷ a) b = spelled-append (before * 10 + (byte - 48)) a b

column-digit : (n : ℕ) → column n - 48 ≡ n % 10
column-digit n = by_cases (eqb n 0) (λ e. rw (e, eqb-true n 0 e)) (λ e. rw e (omega arith))

spelled-columns : (k n : ℕ) → n < 10 ^ k → spelled 0 (columns k n) ≡ n
unfolding columns
spelled-columns zero n h = omega arith
spelled-columns (suc k) n h =
    rw (spelled-append 0 (columns k (n / 10)) (column n ∷ []), spelled-columns k (n / 10) (omega arith), column-digit n) (omega arith)

spelled-field : (n : ℕ) → n ≤ 999999 → spelled 0 (printed_field n) ≡ n
unfolding printed_field
spelled-field n h =
    rw (spelled-append 0 (columns 5 (n / 10)) (last_digit n ∷ []), spelled-columns 5 (n / 10) (omega arith)) (omega arith)

-- a number that is not too wide is told by its print
pub field-tells : (n m : ℕ) → n ≤ 999999 → m ≤ 999999 → printed_field n ≡ printed_field m → n ≡ m
field-tells n m h k e = sym (spelled-field n h) ∙ ap (spelled 0) e ∙ spelled-field m k

-- and so are the numbers of a line
pub line-tells : (a b : List ℕ) → length a ≡ length b → UpTo 999999 a → UpTo 999999 b → printed_line a ≡ printed_line b → a ≡ b
unfolding printed_line
line-tells [] [] h p q e = refl
line-tells [] (m ∷ b) h p q e = absurd (omega arith)
line-tells (n ∷ a) [] h p q e = absurd (omega arith)
line-tells (n ∷ a) (m ∷ b) h p q e =
    let first : printed_field n ≡ printed_field m
    = sym (take_at (printed_field n) (printed_line a) 6 (length-field n)) ∙ ap (take 6) e ∙ take_at (printed_field m) (printed_line b) 6 (length-field m) in
    let rest : printed_line a ≡ printed_line b
    = sym (drop_at (printed_field n) (printed_line a) 6 (length-field n)) ∙ ap (drop 6) e ∙ drop_at (printed_field m) (printed_line b) 6 (length-field m) in
    rw (field-tells n m p.0 q.0 first, line-tells a b (omega arith) p.1 q.1 rest)
