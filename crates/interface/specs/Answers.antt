-- The number and value of each answer, as document 01 gives them.
use Rattle.std.specs.Prelude.{ℕ, Result, Ok, Err}
use Rattle.interface.specs.declared.answer.Refusal.{Refusal}
use Rattle.interface.specs.declared.answer.Refusal.TheVariants.{Malformed, NoSuchCall, Unsound, NotOpen, AlreadyOpen, OutsideLimits}
use Rattle.interface.specs.declared.answer.Refusal.TheVariants.{SnapshotTaken, NoSnapshot, NotMapped, AlreadyMapped, NoGap, NotWritable}
use Rattle.interface.specs.declared.answer.Refusal.TheVariants.{ShareExceeded, TooManyAreas, OutputTooShort}

-- the number of a refusal: its row of "Turned back"
abbrev pub refusal_number : Refusal → ℕ
refusal_number Malformed = 1
refusal_number NoSuchCall = 2
refusal_number Unsound = 3
refusal_number NotOpen = 4
refusal_number AlreadyOpen = 5
refusal_number OutsideLimits = 6
refusal_number SnapshotTaken = 7
refusal_number NoSnapshot = 8
refusal_number NotMapped = 9
refusal_number AlreadyMapped = 10
refusal_number NoGap = 11
refusal_number NotWritable = 12
refusal_number ShareExceeded = 13
refusal_number TooManyAreas = 14
refusal_number OutputTooShort = 15

-- what a call answers: a value, or why it is refused
abbrev pub Answer : Type 0
Answer = Result ℕ Refusal

-- "refusal number or 0", of whatever is refused or not
abbrev pub number_of : {T : Type 0} → Result T Refusal → ℕ
number_of (Ok v) = 0
number_of (Err r) = refusal_number r

-- "A refusal answers its number and value 0"
abbrev pub value_of : Answer → ℕ
value_of (Ok v) = v
value_of (Err r) = 0

-- a number and a value, as a call answers them
pub record Answered : Type 0 where
  pub number : ℕ
  pub value : ℕ

-- what an answer says
abbrev pub answered : Answer → Answered
answered a = record { number = number_of a; value = value_of a }
