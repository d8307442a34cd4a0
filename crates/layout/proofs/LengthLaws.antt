-- How long each part of the layout is.
use mathlib.Core.Path.{◌≡◌, refl}
use mathlib.Core.List.{List}
use lib.ListN.{length}
use Rattle.frames.specs.declared.Held.{Held}
use Rattle.frames.specs.Frames.{none_held}
use Rattle.runs.specs.declared.Runs.{Runs}
use Rattle.areas.specs.declared.area.Area.{Area}
use Rattle.areas.specs.declared.area.Areas.{Areas}
use Rattle.areas.specs.Areas.{none}
use Rattle.state.specs.declared.sandbox.Sandbox.{Sandbox}
use Rattle.state.specs.declared.sandbox.Machine.{Machine}
use Rattle.state.specs.World.{closed_sandbox}
use Rattle.layout.specs.Rows.{row_bytes}
use Rattle.layout.specs.Layout.{area_size, places_size, areas_size, word_size, marks_size, runs_size, sandbox_size, held_at}
use Rattle.layout.specs.Layout.{area_bytes, areas_parts, areas_bytes, marks_parts, marks_bytes, runs_bytes}
use Rattle.layout.specs.Layout.{sandbox_parts, sandbox_bytes, state_parts, state_bytes}
use Rattle.layout.specs.Claims.{OneLength}
use Rattle.layout.proofs.RowLaws.{length_digits, length-row}
use Rattle.layout.proofs.PartsLaws.{Sized, length-flat}

pub length-area : (a : Area) → length (area_bytes a) ≡ area_size
unfolding area_bytes
length-area a = refl

pub length-places : (l : List Area) → length (row_bytes area_bytes none 8 l) ≡ places_size
length-places = length-row area_bytes none area_size length-area 8

pub sized-areas : (s : Areas) → Sized (areas_parts s)
sized-areas s = (refl, (length-places s.list, tt))

pub length-areas : (s : Areas) → length (areas_bytes s) ≡ areas_size
unfolding areas_bytes
length-areas s = length-flat (areas_parts s) (sized-areas s)

pub sized-marks : (h : Held) → Sized (marks_parts h)
sized-marks h = (length_digits word_size _, (length_digits word_size _, tt))

pub length-marks : (h : Held) → length (marks_bytes h) ≡ marks_size
unfolding marks_bytes
length-marks h = length-flat (marks_parts h) (sized-marks h)

pub length_runs : (r : Runs) → length (runs_bytes r) ≡ runs_size
unfolding runs_bytes
length_runs r = length-row marks_bytes none_held marks_size length-marks 8 r.list

pub sized-sandbox : (b : Sandbox) → Sized (sandbox_parts b)
sized-sandbox b = (refl, (refl, (refl, (length-areas b.rec.present, (length-areas b.rec.snapshot, (length_runs b.runs, tt))))))

pub length-sandbox : (b : Sandbox) → length (sandbox_bytes b) ≡ sandbox_size
unfolding sandbox_bytes
length-sandbox b = length-flat (sandbox_parts b) (sized-sandbox b)

pub length-sandboxes : (l : List Sandbox) → length (row_bytes sandbox_bytes closed_sandbox 4 l) ≡ held_at
length-sandboxes = length-row sandbox_bytes closed_sandbox sandbox_size length-sandbox 4

pub sized-state : (m : Machine) → Sized (state_parts m)
sized-state m = (length-sandboxes m.sandboxes, (length-marks m.held, tt))

pub length-state : OneLength
unfolding state_bytes
length-state m = length-flat (state_parts m) (sized-state m)
