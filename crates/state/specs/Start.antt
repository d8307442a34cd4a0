-- What a start answers and leaves.
use Rattle.std.specs.Prelude.{List, ℕ, length, Ok, Err}
use Rattle.basics.specs.Choice.{◌when◌else◌}
use Rattle.interface.specs.Answers.{Answer}
use Rattle.interface.specs.declared.answer.Refusal.TheVariants.{Unsound}
use Rattle.pages.specs.Parts.{zeros}
use Rattle.state.specs.World.{World, world_of, fresh_machine, lengths_ok}

-- "where a length is wrong, is refusal 3"
unfoldable pub start_answer : List ℕ → List ℕ → List ℕ → Answer
start_answer pool table image = Ok 0 when lengths_ok (length pool) (length table) (length image) else Err Unsound

-- "starting clears pool and table, or .. clears nothing, though the state it gives is fresh"
unfoldable pub started_by : List ℕ → List ℕ → List ℕ → World
started_by pool table image =
    world_of fresh_machine (zeros (length pool)) (zeros 512) when lengths_ok (length pool) (length table) (length image) else
    world_of fresh_machine pool table
