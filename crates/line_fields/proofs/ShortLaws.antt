-- A law of a field that has one digit behind five blanks, in its line.
use Prim.Native.Nat.{ℕ, ◌+◌, ◌*◌, ◌<◌}
use mathlib.Core.Path.{◌≡◌, ◌∙◌}
use mathlib.Core.Bool.{true}
use mathlib.Core.List.{List}
use native.Mathlib.Omega.{arith}
use lib.ListN.{get_or, take, drop}
use lib.Seq.{get_or-drop, get_or-take}
use lib.Dec.{eqb}
use borrow.Author.Tests.{eqb-true}
use Rattle.basics.proofs.LoopLaws.{every-at}
use Rattle.std.specs.Prelude.{Some}
use Rattle.columns.specs.Fields.{with_digit}
use Rattle.columns.specs.Reading.{blanks}
use Rattle.columns.proofs.ReadLaws.{short-field}
use Rattle.lines.specs.Lines.{field_at}

pub short-at : (line : List ℕ) (k : ℕ) → blanks line (k * 6) 5 ≡ true → with_digit (Some 0) (get_or line (k * 6 + 5) 0) ≡ field_at line k
unfolding field_at
short-at line k h =
    let part : List ℕ = take 6 (drop (k * 6) line) in
    let at : (i : ℕ) → i < 6 → get_or part i 0 ≡ get_or line (k * 6 + i) 0 = λ i l. rw (get_or-take, get_or-drop) in
    let blank : (i : ℕ) → i < 5 → get_or line (k * 6 + i) 0 ≡ 32
    = λ i l. eqb-true (get_or line (k * 6 + i) 0) 32 (every-at (λ j. eqb (get_or line j 0) 32) (k * 6) 5 h (k * 6 + i) (omega arith) (omega arith)) in
    rw (← at 5 (omega arith)) (short-field part (λ i l. at i (omega arith) ∙ blank i l))
