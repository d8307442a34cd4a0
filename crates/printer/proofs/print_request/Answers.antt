-- A request printed: seven fields put one behind the other and the line feed are the line of its numbers (`line-printed`).
use Rattle.std.proofs.Common.{[], ◌∷◌, refl, arith}
use Rattle.columns.specs.Prints.{printed_request}
use Rattle.printer.proofs.PrinterLaws.{line-printed, field-then}
use Rattle.printer.proofs.print_request.Goals as goal

pub print_at-requires-5 : goal.print_at-requires-5
print_at-requires-5 c = record {
  field_in_bounds = omega (arith, c.print_at.auto.out, c.print_at-2.auto.out, c.print_at-3.auto.out, c.print_at-4.auto.out, c.requires);
  n_bound = omega arith;
}

pub print_at-requires-6 : goal.print_at-requires-6
print_at-requires-6 c = record {
  field_in_bounds = omega (arith, c.print_at.auto.out, c.print_at-2.auto.out, c.print_at-3.auto.out, c.print_at-4.auto.out, c.print_at-5.auto.out, c.requires);
  n_bound = omega arith;
}

pub print_at-requires-7 : goal.print_at-requires-7
print_at-requires-7 c = record {
  field_in_bounds = omega (
    arith,
    c.print_at.auto.out,
    c.print_at-2.auto.out,
    c.print_at-3.auto.out,
    c.print_at-4.auto.out,
    c.print_at-5.auto.out,
    c.print_at-6.auto.out,
    c.requires,
  );
  n_bound = omega arith;
}

pub returns : goal.returns
unfolding printed_request
returns c =
    let q = c.args.q in
    let from-p5 = q.p5 ∷ [] in
    let from-p4 = q.p4 ∷ from-p5 in
    let from-p3 = q.p3 ∷ from-p4 in
    let from-p2 = q.p2 ∷ from-p3 in
    let from-p1 = q.p1 ∷ from-p2 in
    let from-sandbox = q.sandbox ∷ from-p1 in
    let left = c.print_at-7.new.out in
    line-printed c.args.out.now left (q.code ∷ from-sandbox) c.requires
    (field-then c.args.out.now c.print_at.new.out left 0 q.code _ from-sandbox c.from.ensures c.print_at.ensures
    (field-then c.print_at.new.out c.print_at-2.new.out left 1 q.sandbox _ from-p1 c.from-2.ensures c.print_at-2.ensures
    (field-then c.print_at-2.new.out c.print_at-3.new.out left 2 q.p1 _ from-p2 c.from-3.ensures c.print_at-3.ensures
    (field-then c.print_at-3.new.out c.print_at-4.new.out left 3 q.p2 _ from-p3 c.from-4.ensures c.print_at-4.ensures
    (field-then c.print_at-4.new.out c.print_at-5.new.out left 4 q.p3 _ from-p4 c.from-5.ensures c.print_at-5.ensures
    (field-then c.print_at-5.new.out c.print_at-6.new.out left 5 q.p4 _ from-p5 c.from-6.ensures c.print_at-6.ensures
    (field-then c.print_at-6.new.out c.print_at-7.new.out left 6 q.p5 _ [] c.from-7.ensures c.print_at-7.ensures
    refl)))))))
