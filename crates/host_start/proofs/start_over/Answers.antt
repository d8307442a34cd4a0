-- A start over the bytes of a state is the definition's: without room for a state by one law, with it by another.
use Rattle.std.proofs.Common.{◌≡◌, ◌∙◌}
use Rattle.host_calls.proofs.CallLaws.{start-short, start-long}
use Rattle.host_calls.specs.Calls.{handed}
use Rattle.host_start.proofs.start_over.Goals as goal

pub returns-then-state-ne-STATE-clause-result_value : goal.returns-then-state-ne-STATE-clause-result_value
returns-then-state-ne-STATE-clause-result_value c =
    (start-short c.args.image.now (handed c.args.state.now c.args.pool.now c.args.table.now) c.if-state-ne-STATE.true).0

pub returns-then-state-ne-STATE-clause-left : goal.returns-then-state-ne-STATE-clause-left
returns-then-state-ne-STATE-clause-left c =
    (start-short c.args.image.now (handed c.args.state.now c.args.pool.now c.args.table.now) c.if-state-ne-STATE.true).1

pub returns-clause-result_value : goal.returns-clause-result_value
returns-clause-result_value c =
    let made = c.start-started in
    c.from.ensures ∙ c.number.ensures
    ∙ (start-long c.args.image.now (handed c.args.state.now c.args.pool.now c.args.table.now) made.result.answer made.result.machine made.new.pool
    made.new.table c.encode.new.out c.if-state-ne-STATE.false made.ensures.answer_value made.ensures.world c.encode.ensures).0

pub returns-clause-left : goal.returns-clause-left
returns-clause-left c =
    let made = c.start-started in
    (start-long c.args.image.now (handed c.args.state.now c.args.pool.now c.args.table.now) made.result.answer made.result.machine made.new.pool
    made.new.table c.encode.new.out c.if-state-ne-STATE.false made.ensures.answer_value made.ensures.world c.encode.ensures).1
