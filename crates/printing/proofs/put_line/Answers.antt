-- A line put: what the test shows, and the line behind it.
use borrow.Author.Tests.{not-true, not-false}
use Rattle.printing.proofs.PutLaws.{put-counted, put-printed}
use Rattle.printing.proofs.put_line.Goals as goal

pub returns-then-not-to : goal.returns-then-not-to
returns-then-not-to c = rw c.next.ensures (put-counted c.args.to c.args.out.now c.args.q (not-true c.args.to.writes c.if-not-to.true))

pub returns : goal.returns
returns c =
    let a = c.args in
    rw c.next-2.ensures (put-printed a.to a.out.now c.print_request.new.out a.q (not-false a.to.writes c.if-not-to.false) c.print_request.ensures)
