-- What a map makes of the runs and of the store.
use Rattle.std.specs.Prelude.{ℕ}
use Rattle.basics.specs.Choice.{◌when◌else◌}
use Rattle.interface.specs.declared.request.Request.{Request}
use Rattle.interface.specs.Outcome.{first_of}
use Rattle.run_choice.specs.Runs.{takes_run, run_for, granted}
use Rattle.table.specs.Store.{Store, front_of}
use Rattle.runs.specs.declared.Runs.{Runs}
use Rattle.runs.specs.Row.{row, lengths_of, with_run_at}
use Rattle.kept.specs.Spare.{left_of, adopt_to}
use Rattle.areas.specs.Areas.{slots}
use Rattle.state.specs.declared.sandbox.Sandbox.{Sandbox}

-- what a map makes of the runs, and of the store: the frames that it takes are zero already, so that entries and marks change and no byte does
unfoldable pub map_runs : Request → Sandbox → Runs
map_runs q b =
    let place = run_for q.p2 (lengths_of b.runs) in
    with_run_at place (left_of (row b.runs place) (granted q.p2 (lengths_of b.runs))) b.runs when takes_run q else b.runs

unfoldable pub map_adopts : Request → Sandbox → Store → Store
map_adopts q b st =
    let run = row b.runs (run_for q.p2 (lengths_of b.runs)) in
    adopt_to (front_of q.sandbox (first_of (slots b.rec.present) q)) run st (granted q.p2 (lengths_of b.runs)) when takes_run q else st
