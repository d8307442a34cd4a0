-- Laws of a line: it has one accepted form, the print of its request; and of a roll's lines.
use Prim.Native.Nat.{ℕ, zero, suc, ◌+◌, ◌-◌, ◌*◌, ◌/◌, ◌≤◌, ◌<◌}
use mathlib.Core.Path.{◌≡◌, refl, sym, ap, ◌∙◌}
use mathlib.Core.Bool.{true, false, ◌&&◌}
use mathlib.Core.List.{List, [], ◌∷◌, ◌++◌}
use native.Mathlib.Omega.{arith}
use lib.ListN.{length, get_or, take, drop, length-take, length-drop, take-append-drop}
use lib.Seq.{take_at, drop-drop, get_or-drop, drop-append-add, get_or-append-add, length-take-le}
use lib.Dec.{eqb}
use borrow.Author.Tests.{eqb-true, eq-eqb, ne_eqb}
use Rattle.basics.specs.Ranges.{every}
use Rattle.basics.proofs.TestLaws.{by_cases, never, and_both, and-of}
use Rattle.basics.proofs.LoopLaws.{every-at, every_of}
use Rattle.interface.specs.declared.request.Request.{Request}
use Rattle.std.specs.Prelude.{Option, Some, None}
use Rattle.lines.specs.declared.Line.TheVariants.{Call, Malformed}
use Rattle.columns.specs.Prints.{printed_field, printed_line, UpTo, numbers_of, printed_request}
use Rattle.columns.specs.Fields.{is_number, number_in}
use Rattle.lines.specs.Lines.{field_at, has_number, numeral_at, well_formed, request_in, parsed, bytes_at, line_at, lines_of}
use Rattle.columns.proofs.PrintLaws.{length-field, length-request}
use Rattle.columns.proofs.FieldLaws.{field-said, field-small, field-says}

-- ---- what is read was so printed

-- the numbers f 0 to f (n - 1)
abbrev listed : (ℕ → ℕ) → ℕ → List ℕ
listed f zero = []
listed f (suc n) = f 0 ∷ listed (λ k. f (suc k)) n

feed-alone : (line : List ℕ) → length line ≡ 1 → get_or line 0 0 ≡ 10 → line ≡ 10 ∷ []
feed-alone [] h e = absurd (omega arith)
feed-alone (byte ∷ []) h e = ap (λ x. x ∷ []) e
feed-alone (byte ∷ other ∷ more) h e = absurd (omega arith)

fields-printed : (n : ℕ) (line : List ℕ) (f : ℕ → ℕ) → length line ≡ n * 6 + 1 → get_or line (n * 6) 0 ≡ 10
    → ((k : ℕ) → k < n → field_at line k ≡ Some (f k)) → line ≡ printed_line (listed f n)
unfolding printed_line field_at
fields-printed zero line f h e fields = feed-alone line h e
fields-printed (suc n) line f h e fields =
    let first : take 6 line ≡ printed_field (f 0) = field-said (take 6 line) (f 0) (length-take-le 6 line (omega arith)) (fields 0 (omega arith)) in
    let length_rest : length (drop 6 line) ≡ n * 6 + 1 = simp length-drop (omega arith) in
    let place : (k : ℕ) → 6 + k * 6 ≡ suc k * 6 = λ k. omega arith in
    let rest : drop 6 line ≡ printed_line (listed (λ k. f (suc k)) n)
    = fields-printed n (drop 6 line) (λ k. f (suc k)) length_rest (get_or-drop 6 line (n * 6) 0 ∙ rw (place n) e)
    (λ k l. rw (drop-drop (k * 6) 6 line, place k) (fields (suc k) (omega arith))) in
    sym (take-append-drop 6 line) ∙ rw (first, rest)

number-known : (f : Option ℕ) → is_number f ≡ true → f ≡ Some (number_in f)
number-known (Some n) h = refl
number-known None h = never false h refl

small-listed : (n : ℕ) (f : ℕ → ℕ) → ((k : ℕ) → k < n → f k ≤ 65535) → UpTo 65535 (listed f n)
small-listed zero f h = tt
small-listed (suc n) f h = (h 0 (omega arith), small-listed n (λ k. f (suc k)) (λ k l. h (suc k) (omega arith)))

module _ (line : List ℕ) (formed : well_formed line ≡ true) where
  formed-parts : (eqb (length line) 43 ≡ true) × ((eqb (get_or line 42 0) 10 && every (has_number line) 0 7) ≡ true)
  unfolding well_formed
  formed-parts = and_both (eqb (length line) 43) (eqb (get_or line 42 0) 10 && every (has_number line) 0 7) formed

  formed-end : (eqb (get_or line 42 0) 10 ≡ true) × (every (has_number line) 0 7 ≡ true)
  formed-end = and_both (eqb (get_or line 42 0) 10) (every (has_number line) 0 7) formed-parts.1

  pub formed-field : (k : ℕ) → k < 7 → field_at line k ≡ Some (numeral_at line k)
  formed-field k h = number-known (field_at line k) (every-at (has_number line) 0 7 formed-end.1 k (omega arith) (omega arith))

  formed-print : line ≡ printed_request (request_in line)
  unfolding printed_request
  formed-print =
      fields-printed 7 line (numeral_at line) (eqb-true (length line) 43 formed-parts.0) (eqb-true (get_or line 42 0) 10 formed-end.0) formed-field

  formed-small : UpTo 65535 (numbers_of (request_in line))
  unfolding field_at
  formed-small = small-listed 7 (numeral_at line) (λ k h. field-small (take 6 (drop (k * 6) line)) (numeral_at line k) (formed-field k h))

call_same : (p q : Request) → Call p ≡ Call q → p ≡ q
call_same p q e = cc

never-call {ℓ} : {R : Type ℓ} (q : Request) → Malformed ≡ Call q → R
never-call q e = let z : ◌≡◌ {A = ℕ} 0 1 = cc in absurd (omega arith)

-- a line that is read as a request is the print of that request, whose numbers a field can say
pub request-printed : (line : List ℕ) (q : Request) → parsed line ≡ Call q → (line ≡ printed_request q) × UpTo 65535 (numbers_of q)
unfolding parsed
request-printed line q e =
    by_cases (well_formed line)
    (λ t. let known : request_in line ≡ q = call_same (request_in line) q (rw t at e) in rw (← known) (formed-print line t, formed-small line t))
    (λ t. never-call q (rw t at e))

-- ---- what is printed is read

-- the fields of a printed line
pub printed-field : (numbers : List ℕ) (k : ℕ) → UpTo 65535 numbers → k < length numbers → field_at (printed_line numbers) k ≡ Some (get_or numbers k 0)
unfolding printed_line field_at
printed-field [] k small h = absurd (omega arith)
printed-field (n ∷ more) zero small h = rw (take_at (printed_field n) (printed_line more) 6 (length-field n)) (field-says n small.0)
printed-field (n ∷ more) (suc k) small h =
    let place : suc k * 6 ≡ length (printed_field n) + k * 6 = omega (arith, length-field n) in
    rw (place, drop-append-add (printed_field n) (printed_line more) (k * 6)) (printed-field more k small.1 (omega arith))

-- its line feed
printed-feed : (numbers : List ℕ) → get_or (printed_line numbers) (length numbers * 6) 0 ≡ 10
unfolding printed_line
printed-feed [] = refl
printed-feed (n ∷ more) =
    let place : suc (length more) * 6 ≡ length (printed_field n) + length more * 6 = omega (arith, length-field n) in
    rw (place, get_or-append-add (printed_field n) (printed_line more) (length more * 6) 0) (printed-feed more)

module _ (q : Request) (small : UpTo 65535 (numbers_of q)) where
  request-field : (k : ℕ) → k < 7 → field_at (printed_request q) k ≡ Some (get_or (numbers_of q) k 0)
  unfolding printed_request
  request-field k h = printed-field (numbers_of q) k small h

  request-number : (k : ℕ) → k < 7 → numeral_at (printed_request q) k ≡ get_or (numbers_of q) k 0
  request-number k h = ap number_in (request-field k h)

  request-formed : well_formed (printed_request q) ≡ true
  unfolding well_formed printed_request
  request-formed =
      and-of (eq-eqb (length (printed_request q)) 43 (length-request q))
      (and-of (eq-eqb (get_or (printed_request q) 42 0) 10 (printed-feed (numbers_of q)))
      (every_of (has_number (printed_request q)) 0 7 (λ k _ h. ap is_number (request-field k (omega arith)))))

  -- the print of a request is read as that request
  pub request-read : parsed (printed_request q) ≡ Call q
  unfolding parsed
  request-read =
      rw request-formed
      (λ i.
      Call
      (record {
        code = request-number 0 (omega arith) i;
        sandbox = request-number 1 (omega arith) i;
        p1 = request-number 2 (omega arith) i;
        p2 = request-number 3 (omega arith) i;
        p3 = request-number 4 (omega arith) i;
        p4 = request-number 5 (omega arith) i;
        p5 = request-number 6 (omega arith) i;
      }))

-- ---- a roll's lines

-- "A short last line is malformed."
pub short-line : (line : List ℕ) → length line < 43 → parsed line ≡ Malformed
unfolding parsed well_formed
short-line line h = rw (ne_eqb (length line) 43 (λ e. omega arith))

pub past-line : (roll : List ℕ) (k : ℕ) → length roll / 43 ≤ k → line_at roll k ≡ Malformed
unfolding line_at
past-line roll k h = short-line (bytes_at roll k) (simp (length-take, length-drop) (omega arith))

-- a line, and those that follow it: "the next 43 bytes follow"
module _ (line more : List ℕ) (whole : length line ≡ 43) where
  pub first-line : line_at (line ++ more) 0 ≡ parsed line
  unfolding line_at
  first-line = rw (take_at line more 43 whole)

  pub later-line : (k : ℕ) → line_at (line ++ more) (suc k) ≡ line_at more k
  unfolding line_at
  later-line k =
      let place : suc k * 43 ≡ length line + k * 43 = omega arith in
      rw (place, drop-append-add line more (k * 43))

-- the lines counted are those that begin in the roll, but for those after the 65,535th
pub line-counted : (bytes k : ℕ) → k < lines_of bytes → (k * 43 < bytes) × (k < 65535)
unfolding lines_of
line-counted bytes k h = omega arith

pub counts-line : (bytes k : ℕ) → k * 43 < bytes → k < 65535 → k < lines_of bytes
unfolding lines_of
counts-line bytes k h l = omega arith
