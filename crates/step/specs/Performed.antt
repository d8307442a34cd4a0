-- What the part of a call ensures that performs an accepted request.
use Rattle.std.specs.Prelude.{◌≡◌, List, ℕ}
use Rattle.interface.specs.declared.request.Request.{Request}
use Rattle.state.specs.World.{World}
use Rattle.memory.specs.Memory.{value_at}
use Rattle.memory.specs.Parts.{own_sandbox, WithFrames}
use Rattle.step.specs.Step.{Outcome, world_after}

-- an accepted request, performed
abbrev pub Performed : List ℕ → World → Request → Outcome → Type 0
Performed image w q o = WithFrames q w (λ frame given. o ≡ record {
  answer = record { number = 0; value = value_at image q (own_sandbox q w) w.store };
  world = world_after image frame given w q;
})
