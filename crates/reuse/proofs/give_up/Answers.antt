-- Where the share would be exceeded, a frame is kept, so the longest run has one, and its smallest goes.
use Rattle.std.proofs.Common.{arith, ◌≤◌}
use Rattle.frames.specs.Frames.{count_held}
use Rattle.frames.proofs.PairLaws.{least-found}
use Rattle.reuse.proofs.ReuseLaws.{gave-none, gave_one, longest-has, nothing-kept, within-share, above-share}
use Rattle.reuse.proofs.give_up.Goals.{then-most-eq0-via-then-most-eq0, then-most-eq0-via-else-most-eq0+then-used-most}
use Rattle.reuse.proofs.give_up.Goals as goal

pub returns-then-most-eq0 : goal.returns-then-most-eq0
returns-then-most-eq0 c =
    let a = c.args in
    elim c.then-most-eq0.branch [
      | then-most-eq0-via-then-most-eq0 w ↦
          gave-none _ a.runs a.kept (nothing-kept a.share _ _ a.runs c.kept-most.ensures.value c.requires.table_bound w.if-most-eq0.true)
      | then-most-eq0-via-else-most-eq0+then-used-most w ↦
          gave-none _ a.runs a.kept (within-share a.share _ c.kept-most.result a.runs c.kept-most.ensures.value
          (omega (arith, w.if-used-most.true, w.used.ensures.value, w.from.ensures)))
    ]

pub without-requires : goal.without-requires
without-requires c =
    rw c.least.ensures (least-found c.at-run.result (longest-has c.args.runs c.longest-place.result c.kept-most.result c.at-run.result
    c.kept-most.ensures.value c.if-most-eq0.false c.longest-place.ensures.value c.at-run.ensures)).0

pub without-requires-2 : goal.without-requires-2
without-requires-2 c =
    rw c.least.ensures (least-found c.at-run.result (longest-has c.args.runs c.longest-place.result c.kept-most.result c.at-run.result
    c.kept-most.ensures.value c.if-most-eq0.false c.longest-place.ensures.value c.at-run.ensures)).0

pub returns : goal.returns
returns c =
    let a = c.args in
    let some : 1 ≤ count_held c.at-run.result =
    longest-has a.runs c.longest-place.result c.kept-most.result c.at-run.result c.kept-most.ensures.value c.if-most-eq0.false
    c.longest-place.ensures.value c.at-run.ensures in
    rw (c.with.ensures, c.without.ensures, c.without-2.ensures, c.least.ensures)
    (gave_one _ a.runs a.kept c.longest-place.result c.at-run.result
    (above-share a.share _ c.kept-most.result a.runs c.kept-most.ensures.value
    (omega (arith, c.if-used-most.false, c.used.ensures.value, c.from.ensures)))
    c.longest-place.ensures.value c.at-run.ensures some)
