-- A call over the bytes of a state, of the numbers that a host hands over, is the definition's: what the test shows, and the answer behind it by the law of
-- that way out.
use Rattle.std.proofs.Common.{rules, sym, ◌∙◌}
use Rattle.layout.specs.Rows.{Bytes}
use Rattle.layout.proofs.LayoutLaws.{state-long}
use Rattle.host_calls.specs.Calls.{handed}
use Rattle.host_calls.proofs.CallLaws.{call-stepped}
use Rattle.gazhuppin.proofs.calls.gazhuppin_call.Goals as goal

pub decode-requires : goal.decode-requires
decode-requires c = state-long c.args.state.now (sym c.is_state.ensures ∙ c.if-not-is_state.false)

pub encode-requires : goal.encode-requires
encode-requires c = state-long c.args.state.now (sym c.is_state.ensures ∙ c.if-not-is_state.false)

pub returns : goal.returns
returns c =
    let bytes : Bytes c.args.state.now = record { at = λ i. search rules } in
    let reply = c.call-reply in
    rw (← c.request-q.ensures)
    (call-stepped c.args.image.now (handed c.args.state.now c.args.pool.now c.args.table.now) c.request-q.result bytes
    (sym c.is_state.ensures ∙ c.if-not-is_state.false) c.decode.result reply.result c.by.result c.encode.new.out reply.new.pool reply.new.table
    c.decode.ensures reply.ensures c.encode.ensures c.by.ensures)
