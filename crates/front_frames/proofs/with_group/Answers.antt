-- Where no entry names a frame the run stays.
use Rattle.std.proofs.Common.{sym}
use Rattle.table.proofs.FreeLaws.{empty-at}
use Rattle.front_frames.proofs.EntryLaws.{entries_none}
use Rattle.front_frames.proofs.with_group.Goals as goal

pub returns-then-are_empty : goal.returns-then-are_empty
returns-then-are_empty c =
    let a = c.args in
    sym (entries_none a.table.now a.at a.run 8 (empty-at a.table.now a.at 8 _ c.are_empty.ensures c.if-are_empty.true))
