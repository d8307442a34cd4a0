-- The snapshot that the machine keeps, its archive roll, and what is written where that is asked for.
use Rattle.std.specs.Prelude.{ℕ, ◌*◌, List, length, get_or}
use Rattle.interface.specs.declared.request.Request.{Request}
use Rattle.interface.specs.Refusals.{archive_refusal}
use Rattle.areas.specs.Areas.{slots}
use Rattle.state.specs.World.{World, record_at}
use Rattle.step.specs.Step.{view_at}
use Rattle.content.specs.Content.{copy_read}
use Rattle.plain.specs.Machine.{Pages}
use Rattle.archive.specs.Archive.{archive}
use Rattle.archive.specs.Written.{Written, written_as}

-- the snapshot of sandbox s, and not its present pages
abbrev pub snapshot_of : List ℕ → World → ℕ → Pages
snapshot_of image w s = record {
  slots = slots (record_at w s).snapshot;
  bytes = λ i j. get_or (copy_read image w.store (record_at w s) s i) j 0;
}

-- its roll
abbrev pub archive_of : List ℕ → World → ℕ → List Request
archive_of image w s = archive s (record_at w s).share (snapshot_of image w s) image

-- the first row that applies, of a sandbox and so many bytes of output memory; or 0
unfoldable pub archive_number : List ℕ → World → ℕ → ℕ → ℕ
archive_number image w s room = archive_refusal (view_at image w s) s (length (archive_of image w s) * 43) room

-- the answer, and the output memory that is left
unfoldable pub written : List ℕ → World → ℕ → List ℕ → Written
written image w s out = written_as (archive_number image w s (length out)) (archive_of image w s) out
