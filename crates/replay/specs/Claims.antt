-- THE ARCHIVE. What request A9 asks of the roll of a sandbox's snapshot, of runs of the machine: w is the world after some list, v the world after a run of
-- its roll. proofs/Claims proves every one, of every image and pool that a start accepts.
use Rattle.std.specs.Prelude.{ℕ, ◌*◌, ◌≤◌, ◌<◌, ◌≡◌, true, List, ◌++◌, length}
use Rattle.interface.specs.declared.request.Request.{Request}
use Rattle.interface.specs.Answers.{Answered}
use Rattle.interface.specs.Slots.{is_mapped}
use Rattle.lines.specs.Lines.{lines_of}
use Rattle.areas.specs.Areas.{slots}
use Rattle.state.specs.World.{World, record_at}
use Rattle.content.specs.Content.{page_read, copy_read}
use Rattle.plain.specs.Machine.{Given}
use Rattle.plain_claims.specs.Lists.{up_to}
use Rattle.claims.specs.Demands.{RunFrom}
use Rattle.roll.specs.Play.{lines_in, requests}
use Rattle.archive.specs.Segments.{AllTaken}
use Rattle.archive.specs.Claims.{Alike}
use Rattle.archive.specs.Text.{printed_roll}
use Rattle.archive.specs.Written.{written_as, plain_written}
use Rattle.replay.specs.Snapshot.{snapshot_of, archive_of, written}

-- the world w after some list from a start
pub record After (g : Given) (w : World) : Type 0 where
  pub list : List Request
  pub answers : List Answered
  pub run : RunFrom g list answers w

-- sandbox s then has a snapshot
pub record Snapped (g : Given) (s : ℕ) (w : World) : Type 0 where
  pub after : After g w
  pub row : s < 4
  pub taken : (record_at w s).taken ≡ true

-- demand 2 of the archive: after every list, number, value and output are the plain machine's, whatever sandbox is named and whatever output is lent
abbrev pub WrittenAsPlain : Given → Type 0
WrittenAsPlain g =
    (qs : List Request) (as' : List Answered) (w : World) → RunFrom g qs as' w
    → (s : ℕ) (out : List ℕ) → written g.image w s out ≡ plain_written g (up_to g qs) s out

-- so, of a sandbox with a snapshot, where the output has room: "The answer is the number of lines; output memory past them is untouched"
abbrev pub AcceptedOf : Given → Type 0
AcceptedOf g =
    (s : ℕ) (w : World) → Snapped g s w → (out : List ℕ) → length (archive_of g.image w s) * 43 ≤ length out
    → written g.image w s out ≡ written_as 0 (archive_of g.image w s) out

-- and 16,402 lines, 705,286 bytes, are always room enough
abbrev pub LongestOf : Given → Type 0
LongestOf g = (s : ℕ) (w : World) → Snapped g s w → length (archive_of g.image w s) ≤ 16402

-- ---- replay

-- sandbox s of the world v has the snapshot of sandbox s of the world w, and has it as its present pages too: in mappings with their backing, rights (and
-- marks), and bytes; and it has its share
pub record Rebuilt (image : List ℕ) (s : ℕ) (w v : World) : Type 0 where
  pub taken : (record_at v s).taken ≡ true
  pub share : (record_at v s).share ≡ (record_at w s).share
  pub copy : slots (record_at v s).snapshot ≡ slots (record_at w s).snapshot
  pub present : slots (record_at v s).present ≡ slots (record_at w s).snapshot
  pub copy_bytes : (i : ℕ) → i < 64 → is_mapped (slots (record_at w s).snapshot i) ≡ true
      → copy_read image v.store (record_at v s) s i ≡ copy_read image w.store (record_at w s) s i
  pub bytes : (i : ℕ) → i < 64 → is_mapped (slots (record_at w s).snapshot i) ≡ true
      → page_read image v.store (record_at v s) s i ≡ copy_read image w.store (record_at w s) s i

-- "Played from a fresh state with the same image and pool, the roll gives a sandbox whose snapshot and present pages both equal the written snapshot in
-- mappings, rights and bytes." Every line is accepted.
abbrev pub ReplayOf : Given → Type 0
ReplayOf g =
    (s : ℕ) (w : World) → Snapped g s w → (bs : List Answered) (v : World) → RunFrom g (archive_of g.image w s) bs v
    → AllTaken bs × Rebuilt g.image s w v

-- so the archive roll of the rebuilt sandbox is the same roll, and its text the same, byte for byte
abbrev pub AgainOf : Given → Type 0
AgainOf g =
    (s : ℕ) (w : World) → Snapped g s w → (bs : List Answered) (v : World) → RunFrom g (archive_of g.image w s) bs v
    → (archive_of g.image v s ≡ archive_of g.image w s) × (printed_roll (archive_of g.image v s) ≡ printed_roll (archive_of g.image w s))

-- ---- which snapshots have one roll

-- "Two snapshots under one image give equal rolls only if they agree in these."
abbrev pub OnlyIfOf : List ℕ → ℕ → ℕ → Type 0
OnlyIfOf image frames₁ frames₂ =
    (s₁ s₂ : ℕ) (w₁ w₂ : World)
    → Snapped (record { image = image; frames = frames₁ }) s₁ w₁
    → Snapped (record { image = image; frames = frames₂ }) s₂ w₂
    → archive_of image w₁ s₁ ≡ archive_of image w₂ s₂
    → Alike (snapshot_of image w₁ s₁) (snapshot_of image w₂ s₂)

-- and snapshots that agree in these give equal rolls, of one sandbox with one share
abbrev pub IfAlikeOf : List ℕ → Type 0
IfAlikeOf image =
    (s : ℕ) (w₁ w₂ : World) → (record_at w₁ s).share ≡ (record_at w₂ s).share → Alike (snapshot_of image w₁ s) (snapshot_of image w₂ s)
    → archive_of image w₁ s ≡ archive_of image w₂ s

-- ---- its text

-- "Each line has the only form the reader accepts": the text has as many lines as the roll, is read as the roll, whatever bytes follow, and is the one text of
-- its length that is
pub record Text (roll : List Request) : Type 0 where
  pub whole : lines_of (length (printed_roll roll)) ≡ length roll
  pub read : (rest : List ℕ) → requests (lines_in (printed_roll roll ++ rest) (length roll)) ≡ roll
  pub one : (text : List ℕ) → length text ≡ length roll * 43 → requests (lines_in text (length roll)) ≡ roll → text ≡ printed_roll roll

abbrev pub TextOf : Given → Type 0
TextOf g = (s : ℕ) (w : World) → Snapped g s w → Text (archive_of g.image w s)

-- all of this, of the image and pool of a start that is not refused
pub record Archived (g : Given) : Type 0 where
  pub plain : WrittenAsPlain g
  pub accepted : AcceptedOf g
  pub longest : LongestOf g
  pub replay : ReplayOf g
  pub again : AgainOf g
  pub text : TextOf g
