-- The step of the machine: what a request answers and leaves, given the frame that a write takes and the one that it gives up, where it does.
use Rattle.std.specs.Prelude.{◌≡◌, ◌⊎◌, Bool, true, ◌&&◌, List, ℕ, eqb, length}
use Rattle.basics.specs.Choice.{◌when◌else◌}
use Rattle.interface.specs.declared.request.Request.{Request}
use Rattle.interface.specs.Answers.{Answered}
use Rattle.interface.specs.Requests.{◌is◌, write_code, page_of}
use Rattle.interface.specs.Refusals.{View, refusal}
use Rattle.interface.specs.Numbers.{pages_in}
use Rattle.table.specs.Store.{entry, front_of}
use Rattle.state.specs.declared.sandbox.Sandbox.{Sandbox}
use Rattle.records.specs.Record.{view_from}
use Rattle.state.specs.World.{World, sandbox_at, record_at, with_sandbox, frames_of, shares_of}
use Rattle.soundness.specs.Test.{soundb}
use Rattle.rules.specs.After.{record_after}
use Rattle.runs.specs.Row.{InLongest}
use Rattle.memory.specs.Memory.{Unheld, gives_at, runs_after, store_after, value_at}

-- ---- the step

-- what refusals are decided from: of sandbox s, with row 3, "lent length wrong, or state unsound"
abbrev pub view_at : List ℕ → World → ℕ → View
view_at image w s = view_from (soundb image w) (frames_of w) (pages_in (length image)) (shares_of w) (record_at w s)

-- the number of the refusal, or 0
unfoldable pub number_at : List ℕ → World → Request → ℕ
number_at image w q = refusal (view_at image w q.sandbox) q

-- the sandbox that results: its record, and its runs
abbrev pub sandbox_then : ℕ → World → Request → Sandbox
sandbox_then given w q =
    record { rec = record_after q (record_at w q.sandbox); runs = runs_after given q (sandbox_at w q.sandbox) w.store }

abbrev pub world_after : List ℕ → ℕ → ℕ → World → Request → World
world_after image f given w q =
    with_sandbox q.sandbox (sandbox_then given w q)
    (record { sandboxes = w.sandboxes; store = store_after image f q (sandbox_at w q.sandbox) w.store })

-- a number and a value, and the world that is left
pub record Outcome : Type 0 where
  pub answer : Answered
  pub world : World

-- "A refusal answers its number and value 0; state, pool and table are unchanged."
unfoldable pub step : List ℕ → ℕ → ℕ → World → Request → Outcome
step image f given w q =
    let number = number_at image w q in
    record {
      answer = record { number = number; value = value_at image q (sandbox_at w q.sandbox) w.store when eqb number 0 else 0 };
      world = world_after image f given w q when eqb number 0 else w;
    }

-- whether the request takes a frame: an accepted write to a page without a front
unfoldable pub takes : List ℕ → World → Request → Bool
takes image w q = eqb (number_at image w q) 0 && (q is write_code && eqb (entry w.store (front_of q.sandbox (page_of q))) 0)

-- whether it gives up a kept frame first
unfoldable pub gives : List ℕ → World → Request → Bool
gives image w q = eqb (number_at image w q) 0 && gives_at q (sandbox_at w q.sandbox) w.store

-- a frame of the pool that is not held
abbrev pub Free : World → ℕ → Type 0
Free w f = Unheld w f

-- a frame of the longest run of sandbox s
abbrev pub OfLongest : World → ℕ → ℕ → Type 0
OfLongest w s given = InLongest (sandbox_at w s).runs given

-- What a call ensures of its outcome. Two things may differ from one correct program to another: the frame of the longest run that a write gives up ("which one
-- is open"), and the frame that a write takes: it was unheld, or was given up by this very call ("the write may take it").
pub record Chosen (image : List ℕ) (w : World) (q : Request) (frame given : ℕ) : Type 0 where
  pub gave : gives image w q ≡ true → OfLongest w q.sandbox given
  pub free : takes image w q ≡ true → Free w frame ⊎ ((gives image w q ≡ true) × (frame ≡ given))

pub record Stepped (image : List ℕ) (w : World) (q : Request) (o : Outcome) : Type 0 where
  pub frame : ℕ
  pub given : ℕ
  pub chosen : Chosen image w q frame given
  pub equals : o ≡ step image frame given w q
