-- The frame found is one of the pool that neither marks.
use Rattle.reuse.proofs.ReuseLaws.{unheld-found}
use Rattle.reuse.proofs.unheld_frame.Goals as goal

pub returns-clause-result_lt_frames : goal.returns-clause-result_lt_frames
returns-clause-result_lt_frames c =
    rw c.unwrap_or.ensures (unheld-found c.args.named c.args.kept _ c.args.frames c.greatest_free.result _ c.requires.frames_bound
    c.both.ensures c.greatest_free.ensures c.requires.by_index).within

pub returns-clause-unnamed : goal.returns-clause-unnamed
returns-clause-unnamed c =
    rw c.unwrap_or.ensures (unheld-found c.args.named c.args.kept _ c.args.frames c.greatest_free.result _ c.requires.frames_bound
    c.both.ensures c.greatest_free.ensures c.requires.by_index).unnamed

pub returns-clause-unkept : goal.returns-clause-unkept
returns-clause-unkept c =
    rw c.unwrap_or.ensures (unheld-found c.args.named c.args.kept _ c.args.frames c.greatest_free.result _ c.requires.frames_bound
    c.both.ensures c.greatest_free.ensures c.requires.by_index).unkept
