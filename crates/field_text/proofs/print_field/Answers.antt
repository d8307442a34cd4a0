-- A field printed over blanks: one digit is stored (`digit-printed`), and more are printed from the last on.
use Rattle.std.proofs.Common.{◌∙◌, arith}
use Rattle.field_text.proofs.FieldTextLaws.{six-blanks, digit-printed}
use Rattle.field_text.proofs.print_field.Goals as goal

pub returns-then-n-lt-RADIX : goal.returns-then-n-lt-RADIX
returns-then-n-lt-RADIX c =
    let blank = c.fill.ensures.after (λ y e. e) ∙ six-blanks _ c.requires.out_len in
    digit-printed c.fill.new.self c.args.n blank c.if-n-lt-RADIX.true

pub print_digits-requires : goal.print_digits-requires
print_digits-requires c = record {
  out_value = c.fill.ensures.after (λ y e. e) ∙ six-blanks _ c.requires.out_len;
  n_nonzero = (omega arith, c.requires.n_bound);
}
