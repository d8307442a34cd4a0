-- What the replies are that the player hands on to be written, of a talk from a start (`Talked`, which `perform` promises).
use Rattle.std.specs.Prelude.{◌≡◌, Bool, true, false, List, ℕ, length}
use Rattle.state.specs.World.{lengths_ok}
use Rattle.state.specs.Start.{started_by}
use Rattle.roll.specs.Replies.{lent, plain_replies, refused_replies}
use Rattle.image_file.specs.declared.Found.TheVariants.{Unreadable}
use Rattle.image_file.specs.Image.{image_bytes}
use Rattle.conversation.specs.Conversation.{roll_of, replies_of, Talked}

-- where each length is right: the plain machine's to all that was read, "with the image and the pool's number of frames"
abbrev pub SaysPlain : Type 0
SaysPlain =
    (image pool₀ table₀ pool table : List ℕ) (written : Bool)
    → lengths_ok (length pool₀) (length table₀) (length image) ≡ true
    → (t : Talked image (started_by pool₀ table₀ image) pool table written)
    → replies_of t.turns ≡ plain_replies (lent image pool₀) (roll_of t.turns)

-- where one is wrong, "refusal 3 on each line not refused 1 or 2", and pool and table are as they were
abbrev pub SaysRefusals : Type 0
SaysRefusals =
    (image pool₀ table₀ pool table : List ℕ) (written : Bool)
    → lengths_ok (length pool₀) (length table₀) (length image) ≡ false
    → (t : Talked image (started_by pool₀ table₀ image) pool table written)
    → (pool ≡ pool₀) × ((table ≡ table₀) × (replies_of t.turns ≡ refused_replies (roll_of t.turns)))

-- so of an image that is there and cannot be read whole, whatever pool and table
abbrev pub UnreadableIsRefused : Type 0
UnreadableIsRefused =
    (image pool₀ table₀ pool table : List ℕ) (written : Bool)
    → length image ≡ image_bytes Unreadable
    → (t : Talked image (started_by pool₀ table₀ image) pool table written)
    → replies_of t.turns ≡ refused_replies (roll_of t.turns)
