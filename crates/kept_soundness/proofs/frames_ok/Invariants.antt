-- The smallest frames were looked at and pass: whether all kept frames do is whether the rest do.
use Rattle.std.proofs.Common.{◌≡◌, ◌+◌}
use Rattle.basics.specs.Ranges.{every}
use Rattle.frames.specs.Frames.{count_held}
use Rattle.kept.specs.Test.{frame_ok}
use Rattle.kept_soundness.proofs.frames_ok.Given as goal

abbrev pub invariant-loop : goal.invariant-loop
invariant-loop l =
    (l.counter + count_held l.rest ≡ l.end)
    × (every (frame_ok l.fn.frames l.fn.pool l.fn.kept) 0 128 ≡ every (frame_ok l.fn.frames l.fn.pool l.rest) 0 128)
