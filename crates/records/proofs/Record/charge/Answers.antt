-- Before a snapshot the mapped pages; afterwards the sum of both counts, which a byte holds.
use Rattle.std.proofs.Common.{◌≡◌, arith}
use borrow.Author.Tests.{not-true, not-false}
use Rattle.interface.specs.Slots.{charge_of}
use Rattle.interface.proofs.ChargeLaws.{mapped-small, uncommitted-small}
use Rattle.areas.specs.Areas.{slots}
use Rattle.records.proofs.Record.charge.Goals as goal

pub returns-then-not-self : goal.returns-then-not-self
unfolding charge_of
returns-then-not-self c = rw (not-true c.args.self.taken c.if-not-self.true) c.mapped_pages.ensures

pub overflow_mul-result : goal.overflow_mul-result
overflow_mul-result c = record { fits = omega (arith, c.mapped_pages-2.ensures, mapped-small (slots c.args.self.snapshot)) }

pub overflow_add-result : goal.overflow_add-result
overflow_add-result c = record {
  fits = omega (
    arith,
    c.mapped_pages-2.ensures,
    c.uncommitted_pages.ensures,
    mapped-small (slots c.args.self.snapshot),
    uncommitted-small (slots c.args.self.present),
  );
}

pub returns : goal.returns
unfolding charge_of
returns c = rw (not-false c.args.self.taken c.if-not-self.false, c.mapped_pages-2.ensures, c.uncommitted_pages.ensures)
