-- WHAT A HOST GETS that asks for the archive roll of a sandbox over the state, pool and table in its hands. proofs/HostArchive proves it.
use Rattle.std.specs.Prelude.{ℕ, ◌≤◌, ◌<◌, ◌≡◌, true, List, length}
use Rattle.interface.specs.declared.request.Request.{Request}
use Rattle.interface.specs.Answers.{Answered}
use Rattle.state.specs.World.{record_at}
use Rattle.plain_claims.specs.Lists.{up_to}
use Rattle.roll.specs.Play.{lines_in, requests}
use Rattle.archive.specs.Segments.{AllTaken}
use Rattle.archive.specs.Written.{plain_written}
use Rattle.replay.specs.Snapshot.{archive_of}
use Rattle.replay.specs.Claims.{Rebuilt}
use Rattle.host_calls.specs.Calls.{Handed, world_in, start_number, start_hands, Calls}
use Rattle.host_calls.specs.HostClaims.{given_by}
use Rattle.filing.specs.Filed.{filed}

-- of an archive that is answered 0, where a host that started with h has l in its hands
pub record Replays (image : List ℕ) (h l : Handed) (s : ℕ) (out : List ℕ) : Type 0 where
  -- "The answer is the number of lines": so many lines of the output are read as the roll of the snapshot
  pub read : let w = filed image l s out in requests (lines_in w.out w.answer.value) ≡ archive_of image (world_in l) s
  -- "Played from a fresh state with the same image and pool", every call of the roll is accepted, and the sandbox has the snapshot again, as snapshot and as
  -- present pages
  pub rebuilt : (as' : List Answered) (k : Handed) → Calls image (start_hands image h) (archive_of image (world_in l) s) as' k
      → AllTaken as' × Rebuilt image s (world_in l) (world_in k)
  -- and its archive is then the same, in number, value and every byte of the output
  pub again : (as' : List Answered) (k : Handed) → Calls image (start_hands image h) (archive_of image (world_in l) s) as' k
      → filed image k s out ≡ filed image l s out

-- of a host whose start answered 0, whatever memory it lent and whatever it calls
pub record HostArchive (image : List ℕ) (h : Handed) : Type 0 where
  -- demand 2: number, value and output are the plain machine's, whatever sandbox is named and whatever output is lent
  pub plain : (qs : List Request) (as' : List Answered) (l : Handed) → Calls image (start_hands image h) qs as' l
      → (s : ℕ) (out : List ℕ) → filed image l s out ≡ plain_written (given_by image h) (up_to (given_by image h) qs) s out
  -- a sandbox with a snapshot is never refused its roll where the output has 16,402 times 43 bytes
  pub accepted : (qs : List Request) (as' : List Answered) (l : Handed) → Calls image (start_hands image h) qs as' l
      → (s : ℕ) (out : List ℕ) → s < 4 → (record_at (world_in l) s).taken ≡ true → 705286 ≤ length out → (filed image l s out).answer.number ≡ 0
  pub replays : (qs : List Request) (as' : List Answered) (l : Handed) → Calls image (start_hands image h) qs as' l
      → (s : ℕ) (out : List ℕ) → (filed image l s out).answer.number ≡ 0 → Replays image h l s out

-- a start that answers 0 gives a host all of this
abbrev pub HostFiles : Type 0
HostFiles = (image : List ℕ) (h : Handed) → start_number image h ≡ 0 → HostArchive image h
