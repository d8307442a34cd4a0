-- THE THEOREMS: the statements of specs/Demands, of every image and pool that a start accepts and of every list of requests.
use mathlib.Core.List.{List}
use Prim.Native.Nat.{ℕ}
use Rattle.interface.specs.declared.request.Request.{Request}
use Rattle.state.specs.World.{World}
use Rattle.step.specs.Step.{Outcome, Stepped}
use Rattle.plain.specs.Machine.{Given}
use Rattle.simulation.specs.Lent.{Lent}
use Rattle.claims.specs.Demands.{StartsLists, EveryListRuns, Demand1, Demand2, Demand3}
use Rattle.claims.proofs.Demand1Laws.{demand-1}
use Rattle.claims.proofs.Runs.{starts-lists, every-list-runs, demand-2}
use Rattle.claims.proofs.Demand3Laws.{demand-3}

-- a start that is not refused leaves the world from which lists start
pub claim-start : StartsLists
claim-start = starts-lists

-- every list of requests has a run
pub claim-runs : (g : Given) → Lent g → EveryListRuns g
claim-runs = every-list-runs

-- a refused call changes nothing, an accepted one touches only what it names, and a sound state stays sound: of any world
pub claim-1 : (image : List ℕ) (w : World) (q : Request) (o : Outcome) → Stepped image w q o → Demand1 image w q o
claim-1 = demand-1

-- the answers are the plain machine's
pub claim-2 : (g : Given) → Lent g → Demand2 g
claim-2 = demand-2

-- rewound sandboxes, frames, the promise, and two lists
pub claim-3 : (g : Given) → Lent g → Demand3 g
claim-3 = demand-3
