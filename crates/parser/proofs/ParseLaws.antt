-- Laws of a line that is parsed: it says a request where nothing of it is missing.
use Prim.Native.Nat.{ℕ, ◌<◌}
use mathlib.Core.Path.{◌≡◌}
use mathlib.Core.List.{List}
use native.Mathlib.Omega.{arith}
use lib.ListN.{length, get_or}
use borrow.Author.Tests.{eq-eqb, ne_eqb}
use Rattle.std.specs.Prelude.{Option, Some, None}
use Rattle.basics.specs.Choice.{◌when◌else◌}
use Rattle.basics.specs.Ranges.{every}
use Rattle.basics.proofs.TestLaws.{by_cases}
use Rattle.interface.specs.declared.request.Request.{Request}
use Rattle.lines.specs.declared.Line.{Line}
use Rattle.lines.specs.declared.Line.TheVariants.{Call, Malformed}
use Rattle.lines.specs.Lines.{field_at, well_formed, request_in, parsed}
use Rattle.lines.proofs.LineLaws.{formed-field}

-- the request that a line says, or none
abbrev pub said : List ℕ → Option Request
said line = Some (request_in line) when well_formed line else None

-- a line of 43 bytes says a request where it has its line feed and each field a number
pub request-said : (line : List ℕ) → length line ≡ 43 → get_or line 42 0 ≡ 10 → let says = field_at line in
    (code sandbox p1 p2 p3 p4 p5 : ℕ) → Some code ≡ says 0 → Some sandbox ≡ says 1 → Some p1 ≡ says 2 → Some p2 ≡ says 3 → Some p3 ≡ says 4
    → Some p4 ≡ says 5 → Some p5 ≡ says 6
    → Some (record { code = code; sandbox = sandbox; p1 = p1; p2 = p2; p3 = p3; p4 = p4; p5 = p5 }) ≡ said line
unfolding well_formed every
request-said line h feed code sandbox p1 p2 p3 p4 p5 e0 e1 e2 e3 e4 e5 e6 =
    rw (eq-eqb (length line) 43 h, eq-eqb (get_or line 42 0) 10 feed, ← e0, ← e1, ← e2, ← e3, ← e4, ← e5, ← e6)

-- and none where one of them is missing
pub other_length : (line : List ℕ) → (length line ≡ 43 → ⊥) → None ≡ said line
unfolding well_formed
other_length line h = rw (ne_eqb (length line) 43 h)

pub feed-missing : (line : List ℕ) → length line ≡ 43 → (get_or line 42 0 ≡ 10 → ⊥) → None ≡ said line
unfolding well_formed
feed-missing line h other = rw (eq-eqb (length line) 43 h, ne_eqb (get_or line 42 0) 10 other)

pub field-missing : (line : List ℕ) (k : ℕ) → k < 7 → None ≡ field_at line k → None ≡ said line
field-missing line k h bad =
    by_cases (well_formed line)
    (λ t. let z : ◌≡◌ {A = ℕ} 0 1 = cc (formed-field line t k h) in absurd (omega arith))
    (λ t. rw t)

-- a line says a call where it says a request
abbrev pub as_line : Option Request → Line
as_line (Some q) = Call q
as_line None = Malformed

pub line-said : (line : List ℕ) → as_line (said line) ≡ parsed line
unfolding parsed
line-said line = by_cases (well_formed line) (λ t. rw t) (λ t. rw t)
