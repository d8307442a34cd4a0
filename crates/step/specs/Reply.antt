-- What a reply says.
use Rattle.std.specs.Prelude.{List, ℕ}
use Rattle.interface.specs.Answers.{answered}
use Rattle.state.specs.World.{world_of}
use Rattle.step.specs.Step.{Outcome}
use Rattle.step.specs.declared.Reply.{Reply}

-- over the pool and the table that are left
abbrev pub outcome_of : Reply → List ℕ → List ℕ → Outcome
outcome_of r pool table = record { answer = answered r.answer; world = world_of r.machine pool table }
