-- The text of a roll is read as the roll, and no other text is.
use Prim.Native.Nat.{ℕ, zero, suc, ◌*◌, ◌≤◌}
use mathlib.Core.Path.{◌≡◌, refl, sym, ap, ap₂, ◌∙◌}
use mathlib.Core.List.{List, [], ◌∷◌, ◌++◌, append_assoc}
use native.Mathlib.Omega.{arith}
use lib.ListN.{length, take, drop, length-append, length-drop, take-append-drop}
use lib.Seq.{length-take-le}
use Rattle.interface.specs.declared.request.Request.{Request}
use Rattle.lines.specs.declared.Line.{Line}
use Rattle.lines.specs.declared.Line.TheVariants.{Call, Malformed}
use Rattle.columns.specs.Prints.{printed_request}
use Rattle.lines.specs.Lines.{parsed, line_at}
use Rattle.columns.proofs.PrintLaws.{length-request}
use Rattle.lines.proofs.LineLaws.{request-read, request-printed, first-line, later-line}
use Rattle.roll.specs.Play.{lines_in, requests}
use Rattle.archive.specs.Text.{printed_roll, Sayable}

-- the lines of a text whose first line is split off
lines_cons : (line more : List ℕ) → length line ≡ 43 → (n : ℕ) → lines_in (line ++ more) (suc n) ≡ parsed line ∷ lines_in more n
unfolding lines_in
lines_cons line more h zero = ap (λ x. x ∷ []) (first-line line more h)
lines_cons line more h (suc n) = ap₂ (λ (x : List Line) (y : Line). x ++ (y ∷ [])) (lines_cons line more h n) (later-line line more h n)

-- whatever bytes follow
pub roll-read : (l : List Request) (rest : List ℕ) → Sayable l → requests (lines_in (printed_roll l ++ rest) (length l)) ≡ l
unfolding printed_roll requests lines_in
roll-read [] rest h = refl
roll-read (q ∷ l) rest h =
    let more : List ℕ = printed_roll l ++ rest in
    let joined : printed_roll (q ∷ l) ++ rest ≡ printed_request q ++ more = append_assoc (printed_request q) (printed_roll l) rest in
    ap (λ (text : List ℕ). requests (lines_in text (suc (length l)))) joined
    ∙ ap requests (lines_cons (printed_request q) more (length-request q) (length l))
    ∙ ap (λ (line : Line). requests (line ∷ lines_in more (length l))) (request-read q h.0)
    ∙ ap (λ (m : List Request). q ∷ m) (roll-read l rest h.1)

-- no more requests than lines
fewer : (lines : List Line) → length (requests lines) ≤ length lines
unfolding requests
fewer [] = omega arith
fewer (Call q ∷ lines) = omega (arith, fewer lines)
fewer (Malformed ∷ lines) = omega (arith, fewer lines)

lines-length : (roll : List ℕ) (n : ℕ) → length (lines_in roll n) ≡ n
unfolding lines_in
lines-length roll zero = refl
lines-length roll (suc n) = length-append (lines_in roll n) (line_at roll n ∷ []) ∙ omega (arith, lines-length roll n)

head-same : (q p : Request) (l m : List Request) → q ∷ l ≡ p ∷ m → (q ≡ p) × (l ≡ m)
head-same q p l m e = (cc, cc)

nothing : (text : List ℕ) → length text ≡ 0 → text ≡ []
nothing [] h = refl
nothing (x ∷ text) h = absurd (omega arith)

-- the request that a line gives
by-line : (x : Line) (q : Request) (l : List Request) (more : List ℕ) → requests (x ∷ lines_in more (length l)) ≡ q ∷ l
    → (x ≡ Call q) × (requests (lines_in more (length l)) ≡ l)
unfolding requests
by-line (Call p) q l more y = let s = head-same p q _ l y in (ap Call s.0, s.1)
by-line Malformed q l more y =
    absurd (omega (arith, fewer (lines_in more (length l)), lines-length more (length l), ap (λ (m : List Request). length m) y))

pub roll-one : (l : List Request) (text : List ℕ) → length text ≡ length l * 43 → requests (lines_in text (length l)) ≡ l → text ≡ printed_roll l
unfolding printed_roll
roll-one [] text h e = nothing text h
roll-one (q ∷ l) text h e =
    let line : List ℕ = take 43 text in
    let more : List ℕ = drop 43 text in
    let whole : length line ≡ 43 = length-take-le 43 text (omega arith) in
    let lines : requests (parsed line ∷ lines_in more (length l)) ≡ q ∷ l
    = ap requests (sym (lines_cons line more whole (length l))) ∙ ap (λ x. requests (lines_in x (suc (length l)))) (take-append-drop 43 text) ∙ e in
    let rest : length more ≡ length l * 43 = simp length-drop (omega arith) in
    let both = by-line (parsed line) q l more lines in
    sym (take-append-drop 43 text) ∙ ap₂ ◌++◌ (request-printed line q both.0).0 (roll-one l more rest both.1)
