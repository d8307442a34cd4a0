-- The request that a line says: its length and its line feed are tested, then each field is read, and there is none where a field says no number.
use Rattle.std.proofs.Common.{sym, ◌∙◌, arith}
use Rattle.parser.proofs.ParseLaws.{request-said, other_length, feed-missing, field-missing}
use Rattle.parser.proofs.request_in.Goals as goal
use Rattle.parser.proofs.request_in.Goals.{then-line-ne-BYTES-via-then-line-ne-BYTES, then-line-ne-BYTES-via-else-line-ne-BYTES+then-line-ne10}

pub returns-then-line-ne-BYTES : goal.returns-then-line-ne-BYTES
returns-then-line-ne-BYTES c =
    elim c.then-line-ne-BYTES.branch [
      | then-line-ne-BYTES-via-then-line-ne-BYTES w ↦ other_length c.args.line.now w.if-line-ne-BYTES.true
      | then-line-ne-BYTES-via-else-line-ne-BYTES+then-line-ne10 w ↦ feed-missing c.args.line.now w.if-line-ne-BYTES.false w.if-line-ne10.true
    ]

pub returns-in_err-field_at : goal.returns-in_err-field_at
returns-in_err-field_at c =
    c.from_residual.ensures ∙ field-missing c.args.line.now 0 (omega arith) (sym c.in_err-field_at.was ∙ c.field_at.ensures)

pub returns-in_err-field_at-2 : goal.returns-in_err-field_at-2
returns-in_err-field_at-2 c =
    c.from_residual-in_err-field_at-2.ensures ∙ field-missing c.args.line.now 1 (omega arith) (sym c.in_err-field_at-2.was ∙ c.field_at-2.ensures)

pub returns-in_err-field_at-3 : goal.returns-in_err-field_at-3
returns-in_err-field_at-3 c =
    c.from_residual-in_err-field_at-3.ensures ∙ field-missing c.args.line.now 2 (omega arith) (sym c.in_err-field_at-3.was ∙ c.field_at-3.ensures)

pub returns-in_err-field_at-4 : goal.returns-in_err-field_at-4
returns-in_err-field_at-4 c =
    c.from_residual-in_err-field_at-4.ensures ∙ field-missing c.args.line.now 3 (omega arith) (sym c.in_err-field_at-4.was ∙ c.field_at-4.ensures)

pub returns-in_err-field_at-5 : goal.returns-in_err-field_at-5
returns-in_err-field_at-5 c =
    c.from_residual-in_err-field_at-5.ensures ∙ field-missing c.args.line.now 4 (omega arith) (sym c.in_err-field_at-5.was ∙ c.field_at-5.ensures)

pub returns-in_err-field_at-6 : goal.returns-in_err-field_at-6
returns-in_err-field_at-6 c =
    c.from_residual-in_err-field_at-6.ensures ∙ field-missing c.args.line.now 5 (omega arith) (sym c.in_err-field_at-6.was ∙ c.field_at-6.ensures)

pub returns-in_err-field_at-7 : goal.returns-in_err-field_at-7
returns-in_err-field_at-7 c =
    c.from_residual-in_err-field_at-7.ensures ∙ field-missing c.args.line.now 6 (omega arith) (sym c.in_err-field_at-7.was ∙ c.field_at-7.ensures)

pub returns : goal.returns
returns c =
    request-said c.args.line.now c.if-line-ne-BYTES.false c.if-line-ne10.false _ _ _ _ _ _ _
    (sym c.in_ok-field_at.was ∙ c.field_at.ensures)
    (sym c.in_ok-field_at-2.was ∙ c.field_at-2.ensures)
    (sym c.in_ok-field_at-3.was ∙ c.field_at-3.ensures)
    (sym c.in_ok-field_at-4.was ∙ c.field_at-4.ensures)
    (sym c.in_ok-field_at-5.was ∙ c.field_at-5.ensures)
    (sym c.in_ok-field_at-6.was ∙ c.field_at-6.ensures)
    (sym c.in_ok-field_at-7.was ∙ c.field_at-7.ensures)
