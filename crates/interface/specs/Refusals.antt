-- "Turned back": which row of document 01's table applies to a request. Row 1 is the player's, of lines that are no request.
use Rattle.std.specs.Prelude.{ℕ, ◌+◌, Bool, true, false, not, ◌&&◌, ◌||◌, List, [], ◌∷◌, ltb, eqb}
use Rattle.std.proofs.Math.Option.{Option, some, none}
use Rattle.basics.specs.Choice.{◌when◌else◌}
use Rattle.interface.specs.Numbers.{sandbox_count, page_count, any_page, read_write, most_areas}
use Rattle.interface.specs.declared.answer.Refusal.{Refusal}
use Rattle.interface.specs.declared.answer.Refusal.TheVariants.{Malformed, NoSuchCall, Unsound, NotOpen, AlreadyOpen, OutsideLimits}
use Rattle.interface.specs.declared.answer.Refusal.TheVariants.{SnapshotTaken, NoSnapshot, NotMapped, AlreadyMapped, NoGap, NotWritable}
use Rattle.interface.specs.declared.answer.Refusal.TheVariants.{ShareExceeded, TooManyAreas, OutputTooShort}
use Rattle.interface.specs.declared.request.Request.{Request}
use Rattle.interface.specs.Answers.{refusal_number}
use Rattle.interface.specs.Requests.{◌is◌, open_code, map_code, protect_code, read_code, write_code, snapshot_code, is_call, page_of, needs_snapshot}
use Rattle.interface.specs.Slots.{Slots, is_mapped, rights_at, areas, all_are, lowest_gap, charge_of}
use Rattle.interface.specs.Limits.{within}
use Rattle.interface.specs.Outcome.{slots_after, copy_after, share_after}

-- what a refusal is decided from
pub record View : Type 0 where
  -- whether all lent lengths are right and the state is sound; always so of the plain machine, which has neither
  pub sound : Bool
  -- frames of the pool, pages of the image, the shares of all sandboxes together
  pub frames : ℕ
  pub images : ℕ
  pub shares : ℕ
  -- of the sandbox that the request names
  pub opened : Bool
  pub share : ℕ
  pub slots : Slots
  pub copy : Option Slots

abbrev pub is_taken {ℓ} : {A : Type ℓ} → Option A → Bool
is_taken none = false
is_taken (some c) = true

-- "unmap, protect, read or write meets an unmapped page", and request A2: "Unmap now passes over unmapped pages .. Refusal 9 remains for protect, read and
-- write." Here, it meets none
unfoldable pub all_mapped : Slots → Request → Bool
all_mapped f q =
    all_are true f q.p1 q.p2 when q is protect_code else
    is_mapped (f (page_of q)) when q is read_code || q is write_code else
    true

-- what would result: the slots and the charge
abbrev pub slots_then : View → Request → Slots
slots_then v q = slots_after q v.slots v.copy

abbrev pub charge_then : View → Request → ℕ
charge_then v q = charge_of (slots_then v q) (copy_after q (slots_then v q) v.copy)

-- the table, a clause a row: whether the row applies
unfoldable pub applies : View → Request → Refusal → Bool
-- no call is refused so: a request is a line that was read
applies v q Malformed = false
-- "call code not 1 to 9", now 1 to 10
applies v q NoSuchCall = not (is_call q)
-- "lent length wrong, or state unsound"
applies v q Unsound = not v.sound
-- "sandbox above 3; or, but for open, not open"
applies v q NotOpen = not (ltb q.sandbox sandbox_count) || not (q is open_code) && not v.opened
-- "open of an open sandbox"
applies v q AlreadyOpen = q is open_code && v.opened
-- "a parameter outside its limits .. an unused one not 0"
applies v q OutsideLimits = not (within v.images q)
-- "snapshot already taken"
applies v q SnapshotTaken = q is snapshot_code && is_taken v.copy
-- "rewind without a snapshot"; call 10: "Without a snapshot it is refusal 8."
applies v q NoSnapshot = needs_snapshot q && not (is_taken v.copy)
-- "unmap, protect, read or write meets an unmapped page"; A2: "Refusal 9 remains for protect, read and write."
applies v q NotMapped = not (all_mapped v.slots q)
-- "map at a named page meets a mapped page"
applies v q AlreadyMapped = q is map_code && not (eqb q.p1 any_page) && not (all_are false v.slots q.p1 q.p2)
-- "map at 64 and no run of p2 unmapped pages exists"
applies v q NoGap = q is map_code && eqb q.p1 any_page && eqb (lowest_gap v.slots q.p2) page_count
-- "write without the write right"
applies v q NotWritable = q is write_code && not (eqb (rights_at (v.slots (page_of q))) read_write)
-- "shares would exceed the pool, or the charge the share"
applies v q ShareExceeded = q is open_code && ltb v.frames (v.shares + q.p1) || ltb (share_after q v.share) (charge_then v q)
-- "more than 8 areas would result"
applies v q TooManyAreas = ltb most_areas (areas (slots_then v q))
-- the archive's alone (request A9)
applies v q OutputTooShort = false

-- the rows in the order of their numbers
abbrev pub rows : List Refusal
rows =
    Malformed ∷ NoSuchCall ∷ Unsound ∷ NotOpen ∷ AlreadyOpen ∷ OutsideLimits ∷ SnapshotTaken ∷ NoSnapshot ∷ NotMapped ∷ AlreadyMapped ∷ NoGap ∷
    NotWritable ∷ ShareExceeded ∷ TooManyAreas ∷ OutputTooShort ∷ []

-- "When several apply, the lowest number is answered": the number of the first row that applies, or 0
abbrev pub first_row : (Refusal → Bool) → List Refusal → ℕ
first_row test [] = 0
first_row test (row ∷ later) = refusal_number row when test row else first_row test later

unfoldable pub refusal : View → Request → ℕ
refusal v q = first_row (applies v q) rows

-- Request A9, the roll for the archive box, which is asked for by no call: of a sandbox, the bytes of its roll and those of the output memory. Rows 3, 4 and 8
-- are those of the calls.
unfoldable pub archive_refusal : View → ℕ → ℕ → ℕ → ℕ
archive_refusal v sandbox bytes room =
    -- "lent length wrong, or state unsound"
    refusal_number Unsound when not v.sound else
    -- "sandbox above 3; or, but for open, not open"
    refusal_number NotOpen when not (ltb sandbox sandbox_count) || not v.opened else
    -- "Without a snapshot it is refusal 8"
    refusal_number NoSnapshot when not (is_taken v.copy) else
    -- "Turned away: 15, output memory shorter than the roll, after 14."
    refusal_number OutputTooShort when ltb room bytes else
    0
