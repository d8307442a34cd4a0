-- A law for each way out: a wrong length, or pool and table cleared.
use Rattle.std.proofs.Common.{◌≡◌, length, true, false}
use mathlib.Core.Path.{sym, ◌∙◌}
use Rattle.state.specs.World.{lengths_ok}
use Rattle.state.proofs.StartLaws.{start-refused, start-made}
use Rattle.starting.proofs.start.Goals as goal

pub returns-then-not-lengths_ok-clause-answer_value :
    goal.returns-then-not-lengths_ok-clause-answer_value
returns-then-not-lengths_ok-clause-answer_value c =
    (start-refused c.args.pool.now c.args.table.now c.args.image.now (sym c.lengths_ok.ensures ∙ c.if-not-lengths_ok.true) _ c.fresh-fresh.ensures).0

pub returns-then-not-lengths_ok-clause-world : goal.returns-then-not-lengths_ok-clause-world
returns-then-not-lengths_ok-clause-world c =
    (start-refused c.args.pool.now c.args.table.now c.args.image.now (sym c.lengths_ok.ensures ∙ c.if-not-lengths_ok.true) _ c.fresh-fresh.ensures).1

pub returns-clause-answer_value : goal.returns-clause-answer_value
returns-clause-answer_value c =
    (start-made c.args.pool.now c.args.table.now c.args.image.now (sym c.lengths_ok.ensures ∙ c.if-not-lengths_ok.false) c.fresh-fresh.result _
    c.fresh-fresh.ensures c.start.ensures).0

pub returns-clause-world : goal.returns-clause-world
returns-clause-world c =
    (start-made c.args.pool.now c.args.table.now c.args.image.now (sym c.lengths_ok.ensures ∙ c.if-not-lengths_ok.false) c.fresh-fresh.result _
    c.fresh-fresh.ensures c.start.ensures).1
