-- Digits printed from the last on over blanks: the columns still to be printed and those that stand make the field at each turn, and blanks stand before them.
use Prim.Native.Nat.{◌≤◌, ◌<◌, ◌+◌, ◌-◌, ◌*◌, ◌/◌, ◌^◌}
use mathlib.Core.Path.{◌≡◌, sym, ap, ◌∙◌}
use mathlib.Core.List.{◌++◌}
use native.Mathlib.Omega.{arith}
use lib.ListN.{length, take, drop}
use lib.Seq.{take_all}
use borrow.Author.Rules.{rules}
use Rattle.columns.specs.Prints.{column, columns, printed_field}
use Rattle.columns.proofs.PrintLaws.{length-columns}
use Rattle.columns.proofs.FieldLaws.{column-shown}
use Rattle.field_text.proofs.FieldTextLaws.{digits-begun, digits-left, column-printed, blanks-left, digits-ended}
use Rattle.field_text.proofs.print_digits.Statement.{statement}
use Rattle.field_text.proofs.print_digits.Tie as tie

abbrev invariant-loop : tie.invariant-loop-rest
invariant-loop out₀ n rest₀ i₀ out rest i =
    (i ≤ 6) × (length out ≡ 6) × (rest < 10 ^ i) × (columns i rest ++ drop i out ≡ printed_field n) × (take i out ≡ columns i 0) × (rest ≤ 999999)

abbrev decreases-loop : tie.decreases-loop-rest
decreases-loop out₀ n rest₀ i₀ out rest i = rest

loop-holds : tie.Need-loop-rest-init invariant-loop decreases-loop
loop-holds c =
    let a = c.args in
    let six = ap length c.requires.0 ∙ length-columns 6 0 in
    (search rules, six, omega arith, digits-begun a.out.now a.n six c.requires.1.0, take_all 6 a.out.now (omega arith) ∙ c.requires.0, search rules)

sub-i : tie.Need-overflow_sub-i invariant-loop decreases-loop
sub-i c =
    let turn = c.loop-rest in
    let left = digits-left turn.rest turn.i c.loop-rest-test.true turn.invariant.2 in
    omega arith

mul-out : tie.Need-overflow_mul-out invariant-loop decreases-loop
mul-out c = search rules

sub_out : tie.Need-overflow_sub-out invariant-loop decreases-loop
sub_out c = search rules

cast-out : tie.Need-overflow_cast-out invariant-loop decreases-loop
cast-out c = search rules

add-out : tie.Need-overflow_add-out invariant-loop decreases-loop
add-out c = search rules

slice-write-out : tie.Need-bounds-out-i invariant-loop decreases-loop
slice-write-out c =
    let turn = c.loop-rest in
    let left = digits-left turn.rest turn.i c.loop-rest-test.true turn.invariant.2 in
    omega arith

loop-less : tie.Need-loop-rest-smaller invariant-loop decreases-loop
loop-less c = search rules

loop-again : tie.Need-loop-rest-preserved invariant-loop decreases-loop
loop-again c =
    let turn = c.loop-rest in
    let left = digits-left turn.rest turn.i c.loop-rest-test.true turn.invariant.2 in
    let one_more : turn.i - 1 + 1 ≡ turn.i = omega arith in
    let here : 48 + (turn.rest - turn.rest / 10 * 10) ≡ column turn.rest = omega arith ∙ sym (column-shown turn.rest c.loop-rest-test.true) in
    let blank : take (turn.i - 1 + 1) turn.out ≡ columns (turn.i - 1 + 1) 0 = rw one_more turn.invariant.4 in (
      search rules,
      search rules,
      left.1,
      rw (here, column-printed turn.out (turn.i - 1) turn.rest (omega arith), one_more) turn.invariant.3,
      blanks-left turn.out (turn.i - 1) _ (omega arith) blank,
      search rules,
    )

same_length : tie.Need-shape_of-out invariant-loop decreases-loop
same_length c = c.loop-rest.invariant.1 ∙ sym (ap length c.requires.0 ∙ length-columns 6 0)

returns : tie.Need-returns invariant-loop decreases-loop
returns c =
    let last = c.loop-rest in
    let done : last.rest ≡ 0 = omega arith in
    digits-ended last.out last.i c.args.n (rw done at last.invariant.3) last.invariant.4

pub print_digits_spec : {M : Type 1} → statement M
print_digits_spec =
    tie.close
    (tie.spec
    invariant-loop
    decreases-loop
    loop-holds
    sub-i
    mul-out
    sub_out
    cast-out
    add-out
    slice-write-out
    loop-less
    loop-again
    same_length
    returns)
