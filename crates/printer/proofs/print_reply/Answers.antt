-- A reply printed: three fields put one behind the other and the line feed are the line of its numbers (`line-printed`).
use Rattle.std.proofs.Common.{[], ◌∷◌, refl, arith}
use Rattle.columns.specs.Prints.{printed_reply}
use Rattle.printer.proofs.PrinterLaws.{line-printed, field-then}
use Rattle.printer.proofs.print_reply.Goals as goal

pub returns : goal.returns
unfolding printed_reply
returns c =
    let left = c.print_at-3.new.out in
    line-printed c.args.out.now left (c.args.line ∷ c.args.number ∷ c.args.value ∷ []) c.requires.out_len
    (field-then c.args.out.now c.print_at.new.out left 0 c.args.line _ (c.args.number ∷ c.args.value ∷ []) refl c.print_at.ensures
    (field-then c.print_at.new.out c.print_at-2.new.out left 1 c.args.number _ (c.args.value ∷ []) refl c.print_at-2.ensures
    (field-then c.print_at-2.new.out c.print_at-3.new.out left 2 c.args.value _ [] refl c.print_at-3.ensures
    refl)))
