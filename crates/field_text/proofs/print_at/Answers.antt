-- A field put into its six columns of the line: what comes back is the line with that part set.
use Rattle.std.proofs.Common.{◌+◌, ◌*◌, ◌∙◌, arith}
use Rattle.pages.proofs.PartLaws.{came-back}
use Rattle.columns.specs.Prints.{printed_field}
use Rattle.columns.proofs.PrintLaws.{length-field}
use Rattle.field_text.proofs.print_at.Goals as goal

pub returns : goal.returns
returns c =
    let a = c.args in
    let at = a.field * 6 in
    rw c.print_field.ensures (came-back a.out.now (printed_field a.n) at (at + 6) (length-field a.n ∙ omega arith))
