-- Each entry counts as 1 where it names a frame.
use Rattle.std.proofs.Common.{◌≡◌, ◌∙◌, rules, sum_by}
use Rattle.marks.proofs.EntryLaws.{names, names-summed}
use Rattle.marks.proofs.naming.Goals as goal

pub returns : goal.returns
returns c =
    let e : c.sum.result ≡ sum_by names c.args.entries.now = search rules in
    e ∙ names-summed c.args.entries.now
