-- `w | 1 << k` puts 1 at place k, and `w & !(1 << k)` puts 0 there.
use borrow.Author.Rules.{rules}
use Rattle.words.proofs.OperatorLaws.{one_shl, or-is-put, and-is-put}
use Rattle.words.proofs.put.Goals as goal

pub returns-then-on : goal.returns-then-on
returns-then-on c = simp (c.if-on.true, one_shl c.args.place c.requires) (or-is-put c.args.word c.args.place)

pub returns-else-on : goal.returns-else-on
returns-else-on c =
    simp (c.if-on.false, one_shl c.args.place c.requires) (and-is-put 64 c.args.word c.args.place c.ranges.word.fits c.requires)
