-- The run that one area makes at a rewind, as the code gathers it (proofs/AreaLaws: those of all areas, pushed one by one, are `gathered`).
use Rattle.std.specs.Prelude.{ℕ, List}
use Rattle.basics.specs.Choice.{◌when◌else◌}
use Rattle.interface.specs.declared.page.Slot.TheVariants.{Mapped}
use Rattle.run_choice.specs.Runs.{is_spared}
use Rattle.frames.specs.declared.Held.{Held}
use Rattle.frames.specs.Frames.{none_held}
use Rattle.front_frames.specs.Fronts.{fronts_to}
use Rattle.areas.specs.declared.area.Area.{Area}
use Rattle.areas.specs.Areas.{attributes_of}

-- 'the frames of each uncommitted anonymous area, if any': those of another area make no run
abbrev pub run_of : List ℕ → ℕ → Area → Held
run_of table s a = fronts_to table s a.first.0 a.pages when is_spared (Mapped (attributes_of a)) else none_held
