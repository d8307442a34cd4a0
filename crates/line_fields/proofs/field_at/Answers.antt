-- A field: behind five blanks its one digit (`short-at`), and else the part of its six columns read.
use Rattle.std.proofs.Common.{◌≡◌, ◌*◌, sym, ◌∙◌}
use native.Mathlib.Nat.{add-sub_cancel_left}
use Rattle.lines.specs.Lines.{field_at}
use Rattle.line_fields.proofs.ShortLaws.{short-at}
use Rattle.line_fields.proofs.field_at.Goals as goal

pub returns-then-is_ascii_digit : goal.returns-then-is_ascii_digit
returns-then-is_ascii_digit c =
    c.with_digit.ensures ∙ short-at c.args.line.now c.args.k (sym c.five_blanks.ensures ∙ c.if-five_blanks.true)

pub returns-in_err-n : goal.returns-in_err-n
unfolding field_at
returns-in_err-n c =
    let read : c.read_field.result ≡ field_at c.args.line.now c.args.k = rw (c.read_field.ensures, add-sub_cancel_left (c.args.k * 6) 6) in
    c.from_residual.ensures ∙ (sym c.in_err-n.was ∙ read)

pub returns : goal.returns
unfolding field_at
returns c =
    let read : c.read_field.result ≡ field_at c.args.line.now c.args.k = rw (c.read_field.ensures, add-sub_cancel_left (c.args.k * 6) 6) in
    sym c.in_ok-n.was ∙ read
