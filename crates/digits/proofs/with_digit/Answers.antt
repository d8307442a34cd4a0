-- One more digit: where the byte is no digit there is none, and else the number with it is taken where it is not above 65,535.
use Rattle.std.proofs.Common.{◌∙◌, ◌≡◌, ◌+◌, ◌-◌, ◌*◌, arith}
use Rattle.digits.proofs.DigitLaws.{no-digit, one-digit}
use Rattle.digits.proofs.with_digit.Goals as goal

pub returns-then-not-is_ascii_digit : goal.returns-then-not-is_ascii_digit
returns-then-not-is_ascii_digit c = no-digit c.args.n c.args.byte c.if-not-is_ascii_digit.ensures.cases

pub returns : goal.returns
returns c =
    let sum : c.from.result * 10 + c.from-2.result ≡ c.args.n * 10 + (c.args.byte - 48) = omega (arith, c.from.ensures, c.from-2.ensures) in
    c.as_field.ensures ∙ one-digit c.args.n c.args.byte _ c.if-not-is_ascii_digit.ensures.cases sum
