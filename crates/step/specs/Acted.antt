-- A call on one sandbox of a row of four: what is handed over of the others, and what the call leaves. The words of the code's contracts: no claim cites them.
use Rattle.std.specs.Prelude.{◌≡◌, true, List, ℕ, length, set}
use Rattle.interface.specs.declared.request.Request.{Request}
use Rattle.interface.specs.Numbers.{sandbox_count}
use Rattle.table.specs.Store.{Store}
use Rattle.state.specs.declared.sandbox.Sandbox.{Sandbox}
use Rattle.state.specs.World.{World, shares_in}
use Rattle.totals.specs.declared.together.Together.{Together}
use Rattle.soundness.specs.Test.{soundb}
use Rattle.memory.specs.Parts.{Handed}

-- the world of a row of sandboxes and a store
abbrev pub world_from : List Sandbox → Store → World
world_from row st = record { sandboxes = row; store = st }

-- a row of four sandboxes of which this is handed over, and which is sound over this store
pub record Stands (image : List ℕ) (q : Request) (b : Sandbox) (all : Together) (st : Store) (sandboxes : List Sandbox) : Type 0 where
  pub four : length sandboxes ≡ sandbox_count
  pub sound : soundb image (world_from sandboxes st) ≡ true
  pub handed : Handed q b all sandboxes
  pub shares : all.shares ≡ shares_in sandboxes

-- the world with a sandbox put back in its place
abbrev pub put_back : Request → Sandbox → List Sandbox → Store → World
put_back q b sandboxes st = world_from (set sandboxes q.sandbox b) st
