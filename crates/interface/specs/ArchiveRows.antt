-- Request A9, the rows of the archive on both sides of each: in an unsound state, of a closed sandbox, of an open one without a snapshot, and of one with a
-- snapshot. Its roll has 86 bytes, two lines.
use Rattle.std.specs.Prelude.{ℕ, ◌≡◌, Bool, true, false, List, [], ◌∷◌}
use Rattle.std.proofs.Math.Option.{Option, some, none}
use Rattle.interface.specs.declared.page.Slot.TheVariants.{Unmapped}
use Rattle.interface.specs.Slots.{Slots}
use Rattle.interface.specs.Refusals.{View, archive_refusal}

-- a sandbox with share 8 over a pool of 128 frames, nothing mapped
abbrev pub seen : Bool → Bool → Option Slots → View
seen isSound isOpen copy = record { sound = isSound; frames = 128; images = 0; shares = 8; opened = isOpen; share = 8; slots = λ i. Unmapped; copy = copy }

abbrev pub shut : View
shut = seen true false none

abbrev pub bare : View
bare = seen true true none

abbrev pub snapped : View
snapped = seen true true (some (λ i. Unmapped))

abbrev pub unsound : View
unsound = seen false true (some (λ i. Unmapped))

-- view, sandbox and bytes of output memory, and the number
pub record Row : Type 0 where
  pub view : View
  pub sandbox : ℕ
  pub room : ℕ
  pub number : ℕ

abbrev pub row : View → ℕ → ℕ → ℕ → Row
row view sandbox room number = record { view = view; sandbox = sandbox; room = room; number = number }

abbrev pub archive_rows : List Row
archive_rows =
    -- "lent length wrong, or state unsound", whatever is asked for
    row unsound 0 86 3 ∷ row unsound 4 0 3 ∷
    -- "sandbox above 3", open or not, whatever the room
    row snapped 3 86 0 ∷ row snapped 4 86 4 ∷ row snapped 65535 86 4 ∷ row bare 4 86 4 ∷ row shut 4 0 4 ∷
    -- "not open": before "Without a snapshot it is refusal 8"
    row shut 0 86 4 ∷ row shut 3 0 4 ∷ row bare 0 86 8 ∷ row bare 3 0 8 ∷
    -- "15, output memory shorter than the roll"
    row snapped 0 0 15 ∷ row snapped 0 43 15 ∷ row snapped 0 85 15 ∷ row snapped 0 86 0 ∷ row snapped 0 87 0 ∷ []

-- each row has its number
abbrev pub RowsHold : List Row → Type 0
RowsHold [] = Unit {0}
RowsHold (r ∷ rs) = (archive_refusal r.view r.sandbox 86 r.room ≡ r.number) × RowsHold rs
