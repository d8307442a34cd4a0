-- What the replies to a roll are, printed: the plain machine's, or the refusals of a wrong lent length.
use Rattle.std.specs.Prelude.{◌≡◌, true, false, not, List, map, ◌++◌, ℕ, ◌*◌, length, drop}
use Rattle.basics.specs.Choice.{◌when◌else◌}
use Rattle.interface.specs.Answers.{Answered}
use Rattle.interface.specs.Requests.{is_call}
use Rattle.interface.specs.Examples.{refused}
use Rattle.interface.specs.Numbers.{pages_in}
use Rattle.lines.specs.declared.Line.{Line}
use Rattle.lines.specs.declared.Line.TheVariants.{Call, Malformed}
use Rattle.lines.specs.Lines.{lines_of}
use Rattle.state.specs.World.{World, lengths_ok}
use Rattle.state.specs.Start.{started_by}
use Rattle.plain.specs.Machine.{Given, fresh, answers}
use Rattle.roll.specs.Play.{lines_in, requests, replies, printed, Played}

-- "the image and the pool's number of frames"
abbrev pub lent : List ℕ → List ℕ → Given
lent image pool = record { image = image; frames = pages_in (length pool) }

-- a reply for each line, "line number from 1, refusal number or 0, value": the plain machine's to its request ("fed each call's code, sandbox and parameters,
-- with the image and the pool's number of frames"), or refusal 1, "line malformed"
unfoldable pub plain_replies : Given → List ℕ → List ℕ
plain_replies g roll = let lines = lines_in roll (lines_of (length roll)) in printed 1 (replies lines (answers g fresh (requests lines)))

-- "a wrong length, refusal 3 on each line not refused 1 or 2", with value 0
abbrev pub refused_reply : Line → Answered
refused_reply Malformed = refused 1
refused_reply (Call q) = refused (2 when not (is_call q) else 3)

-- the refusal of each line, printed
unfoldable pub refused_replies : List ℕ → List ℕ
refused_replies roll = printed 1 (map refused_reply (lines_in roll (lines_of (length roll))))

-- ---- of a whole roll that is played from what a start leaves, into out

-- where each length is right: out begins with the plain machine's replies, and the rest of it is as it was
abbrev pub RepliesArePlain : Type 0
RepliesArePlain =
    (image roll pool table out₀ out : List ℕ) (v : World)
    → lengths_ok (length pool) (length table) (length image) ≡ true
    → Played image (started_by pool table image) roll (lines_of (length roll)) 1 out₀ out v
    → out ≡ plain_replies (lent image pool) roll ++ drop (lines_of (length roll) * 19) out₀

-- where one is wrong: pool and table are as they were, and out begins with the refusals
abbrev pub RepliesAreRefusals : Type 0
RepliesAreRefusals =
    (image roll pool table out₀ out : List ℕ) (v : World)
    → lengths_ok (length pool) (length table) (length image) ≡ false
    → Played image (started_by pool table image) roll (lines_of (length roll)) 1 out₀ out v
    → (v.store.pool ≡ pool) × ((v.store.table ≡ table) × (out ≡ refused_replies roll ++ drop (lines_of (length roll) * 19) out₀))
