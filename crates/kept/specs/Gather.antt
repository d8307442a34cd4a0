-- The runs that a rewind leaves, as the code gathers them: page by page, a run at hand (proofs/GatherLaws: they are `row_rewound`).
use Rattle.std.specs.Prelude.{ℕ, zero, suc}
use Rattle.basics.specs.Choice.{◌when◌else◌}
use Rattle.interface.specs.Slots.{Slots, starts_area}
use Rattle.frames.specs.declared.Held.{Held}
use Rattle.frames.specs.Frames.{none_held}
use Rattle.table.specs.Store.{Store}
use Rattle.runs.specs.declared.Runs.{Runs}
use Rattle.runs.specs.Row.{pushed}
use Rattle.kept.specs.Spare.{gather}

pub record Gathering : Type 0 where
  pub runs : Runs
  pub current : Held

unfoldable pub gather_to : Store → ℕ → Slots → Runs → ℕ → Gathering
gather_to st s f r zero = record { runs = r; current = none_held }
gather_to st s f r (suc i) =
    let w = gather_to st s f r i in
    record {
      runs = pushed w.runs w.current when starts_area f i else w.runs;
      current = gather st s f i (none_held when starts_area f i else w.current);
    }

unfoldable pub gathered : Store → ℕ → Slots → Runs → Runs
gathered st s f r = let w = gather_to st s f r 64 in pushed w.runs w.current
