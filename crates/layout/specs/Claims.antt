-- WHAT THE LAYOUT PROMISES. proofs/Claims proves every statement.
use Rattle.std.specs.Prelude.{ℕ, ◌≡◌, true, List, length}
use Rattle.pages.specs.Parts.{zeros}
use Rattle.state.specs.declared.sandbox.Machine.{Machine}
use Rattle.state.specs.World.{World, fresh_machine}
use Rattle.state.specs.Sound.{Sound}
use Rattle.layout.specs.Rows.{Bytes}
use Rattle.layout.specs.Layout.{state_size, state_bytes, state_from, is_state, Shaped}

-- the state of a world, without its pool and table
abbrev pub machine_of : World → Machine
machine_of w = record { sandboxes = w.sandboxes; held = w.store.marks }

-- every state has so many bytes
abbrev pub OneLength : Type 0
OneLength = (m : Machine) → length (state_bytes m) ≡ state_size

-- the bytes of a state give that state again
abbrev pub DecodesBack : Type 0
DecodesBack = (m : Machine) → Shaped m → state_from (state_bytes m) ≡ m

-- the bytes of a state pass the test
abbrev pub Passes : Type 0
Passes = (m : Machine) → is_state (state_bytes m) ≡ true

-- bytes that pass the test are those of the state that they give, so no state has two forms
abbrev pub OnlyCanonical : Type 0
OnlyCanonical = (l : List ℕ) → Bytes l → is_state l ≡ true → state_bytes (state_from l) ≡ l

-- and that state has the shape of a state
abbrev pub GivesShaped : Type 0
GivesShaped = (l : List ℕ) → Bytes l → is_state l ≡ true → Shaped (state_from l)

-- equal bytes, equal states
abbrev pub BytesTell : Type 0
BytesTell = (m l : Machine) → Shaped m → Shaped l → state_bytes m ≡ state_bytes l → m ≡ l

-- every sound state has the shape of a state
abbrev pub SoundIsShaped : Type 0
SoundIsShaped = (image : List ℕ) (w : World) → Sound image w → Shaped (machine_of w)

-- "A fresh state has four closed sandboxes and no held frame": all its bytes are zero
abbrev pub FreshIsZero : Type 0
FreshIsZero = state_bytes fresh_machine ≡ zeros state_size
