-- A line put where a test holds.
use Rattle.printing.proofs.PutLaws.{only-not}
use Rattle.printing.proofs.put_if.Goals as goal

pub returns-then-not-there : goal.returns-then-not-there
returns-then-not-there c = only-not c.args.to c.args.out.now c.args.q c.args.there c.if-not-there.true
