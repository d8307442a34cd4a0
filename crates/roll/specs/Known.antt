-- What is known of a state without a test of it.
use Rattle.std.specs.Prelude.{◌≡◌, Bool, true, false, List, ℕ}
use Rattle.state.specs.World.{World}
use Rattle.state.specs.Sound.{Sound}
use Rattle.soundness.specs.Test.{soundb}

-- What is carried from line to line in place of the test for row 3, "lent length wrong, or state unsound": the state is sound, or its test fails.
-- It need not be tested, since "each call gets the state, pool and table as the one before returned or left them, and nobody else writes there meanwhile"
-- (proofs/KnownLaws: a start says which, and no call changes it).
unfoldable pub Known : Bool → List ℕ → World → Type 0
Known true image w = Sound image w
Known false image w = soundb image w ≡ false
