-- What is ensured of a call that leaves every sandbox and the page table as they are.
use Rattle.std.specs.Prelude.{◌≡◌, true, List, ℕ, Option, IfSome, IfNone}
use Rattle.interface.specs.declared.request.Request.{Request}
use Rattle.interface.specs.Answers.{Answer, answered}
use Rattle.interface.specs.Requests.{write_code}
use Rattle.table.specs.Store.{kept}
use Rattle.state.specs.declared.sandbox.Sandbox.{Sandbox}
use Rattle.state.specs.World.{World, sandbox_at}
use Rattle.soundness.specs.Test.{soundb}
use Rattle.step.specs.Step.{Stepped, number_at}

-- a world with another pool
abbrev pub with_pool : List ℕ → World → World
with_pool pool w = record { sandboxes = w.sandboxes; store = kept w.store.marks pool w.store.table }

-- a sound world in which b is the sandbox that the request names, and pool and table are these
pub record Around (image : List ℕ) (q : Request) (b : Sandbox) (pool table : List ℕ) (w : World) : Type 0 where
  pub sound : soundb image w ≡ true
  pub own : sandbox_at w q.sandbox ≡ b
  pub same_pool : w.store.pool ≡ pool
  pub same_table : w.store.table ≡ table

-- answered at once: the outcome is the step's, and of the world only the pool may have changed ("a write changes one byte inside one frame's 256 bytes of the
-- pool", and "reads take no frame"); or left to others, and nothing has changed. A write that is left is not refused, and its "page
-- without a front first takes an unheld frame"
pub record Tried (image : List ℕ) (w : World) (q : Request) (r : Option Answer) (pool : List ℕ) : Type 0 where
  pub done : IfSome r (λ a. Stepped image w q (record { answer = answered a; world = with_pool pool w }))
  pub left : IfNone r (pool ≡ w.store.pool)
  pub accepted : IfNone r (q.code ≡ write_code → number_at image w q ≡ 0)

-- there is such a world
abbrev pub Stands : List ℕ → Request → Sandbox → List ℕ → List ℕ → Type 0
Stands image q b pool table = (w : World) × Around image q b pool table w

-- tried in whichever such world
abbrev pub Answers : List ℕ → Request → Sandbox → List ℕ → List ℕ → Option Answer → List ℕ → Type 0
Answers image q b pool table r after = (w : World) → Around image q b pool table w → Tried image w q r after
