-- The frames of the fronts of pages, as the code gathers them.
use Rattle.std.specs.Prelude.{ℕ, zero, suc, ◌+◌, ◌-◌, List, eqb, get_or}
use Rattle.basics.specs.Choice.{◌when◌else◌}
use Rattle.frames.specs.declared.Held.{Held}
use Rattle.frames.specs.Frames.{mark, none_held}
use Rattle.table.specs.Store.{front_of}

-- 'An entry is 0 for none, else a frame number plus one': the frame it names, if any, comes to the run
abbrev pub with_entry : ℕ → Held → Held
with_entry entry run = run when eqb entry 0 else mark run (entry - 1) 1

-- those that n entries from a place on name come to it
unfoldable pub with_entries : List ℕ → ℕ → Held → ℕ → Held
with_entries table at run zero = run
with_entries table at run (suc n) = with_entry (get_or table (at + n) 0) (with_entries table at run n)

-- the frames of the fronts of n pages
unfoldable pub fronts_to : List ℕ → ℕ → ℕ → ℕ → Held
fronts_to table s first zero = none_held
fronts_to table s first (suc n) = with_entry (get_or table (front_of s (first + n)) 0) (fronts_to table s first n)
