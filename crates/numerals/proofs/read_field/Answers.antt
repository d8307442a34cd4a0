-- A field begins with a blank (`six-field`), and behind each test one column more is known to be one.
use Rattle.std.proofs.Common.{◌∙◌, sym, ap, add-one, arith, ◌≡◌}
use Rattle.columns.specs.Fields.{columns_read, field_of}
use Rattle.columns.proofs.ReadLaws.{start-read, blank-read}
use Rattle.numerals.proofs.NumeralLaws.{six-field}
use Rattle.numerals.proofs.read_field.Goals as goal

pub returns-then-part-ne32 : goal.returns-then-part-ne32
returns-then-part-ne32 c = six-field c.args.part.now c.requires c.if-part-ne32.true

pub loop-first-init : goal.loop-first-init
loop-first-init c = blank-read c.args.part.now 0 (start-read c.args.part.now) c.if-part-ne32.false

pub loop-first-preserved : goal.loop-first-preserved
loop-first-preserved c =
    let k = c.loop-first.first in
    rw (add-one k) (blank-read c.args.part.now k c.loop-first.invariant c.if-part-first-ne32.false)

pub returns : goal.returns
unfolding field_of
returns c =
    let last : c.loop-first.first ≡ 5 = omega arith in
    let passed = ap (λ k. columns_read c.args.part.now k) (sym last) ∙ c.loop-first.invariant in
    rw passed c.with_digit.ensures
