-- A law for each way out: no frame, an empty last place, no longer than the shortest, or in its place.
use Rattle.std.proofs.Common.{sym, ◌∙◌}
use Rattle.runs.proofs.RowLaws.{pushed-empty}
use Rattle.run_push.proofs.PushLaws.{push-last, push-stays, push-moves}
use Rattle.run_push.proofs.push.Goals as goal

pub returns-then-frames-eq0 : goal.returns-then-frames-eq0
returns-then-frames-eq0 c = sym (pushed-empty _ _ (sym c.count-frames.ensures ∙ c.if-frames-eq0.true))

pub returns-then-is_empty : goal.returns-then-is_empty
returns-then-is_empty c =
    push-last _ _ _ _ _ c.count-frames.ensures c.if-frames-eq0.false c.is_empty.ensures c.if-is_empty.true c.with.ensures

pub returns-then-frames-length : goal.returns-then-frames-length
returns-then-frames-length c =
    push-stays _ _ _ _ _ c.shortest-place.ensures.value c.count-frames.ensures c.length.ensures.value c.if-frames-length.true

pub returns : goal.returns
returns c =
    push-moves _ _ _ _ _ _ c.shortest-place.ensures.value c.count-frames.ensures c.length.ensures.value c.if-frames-length.false c.moved_up.ensures
