-- The step that there was before a rewind was told by cases. It answers and leaves the same, of every world, sound or not, and of every request.
use mathlib.Core.Path.{◌≡◌, ap}
use mathlib.Core.List.{List}
use Prim.Native.Nat.{ℕ, ◌*◌}
use lib.Dec.{eqb}
use borrow.Author.Tests.{eqb-true}
use Rattle.basics.specs.Choice.{◌when◌else◌}
use Rattle.basics.proofs.TestLaws.{by_cases}
use Rattle.interface.specs.declared.request.Request.{Request}
use Rattle.interface.specs.Requests.{◌is◌, rewind_code}
use Rattle.table.specs.Store.{Store}
use Rattle.rewind_cases.proofs.BeforeLaws.{rewound_before, to-before}
use Rattle.state.specs.declared.sandbox.Sandbox.{Sandbox}
use Rattle.state.specs.World.{World, sandbox_at, with_sandbox}
use Rattle.content.specs.Content.{copy_backing, copy_page}
use Rattle.memory.specs.Memory.{keeps_front, store_after, value_at}
use Rattle.step.specs.Step.{number_at, sandbox_then, Outcome, step}

-- the store after an accepted request, with a rewind as it was defined before
abbrev pub store_before : List ℕ → ℕ → Request → Sandbox → Store → Store
store_before image f q b st =
    rewound_before 256 (q.sandbox * 128) (keeps_front b.rec) (copy_page image b.rec) st 64 when q is rewind_code else
    store_after image f q b st

pub store-before : (image : List ℕ) (f : ℕ) (q : Request) (b : Sandbox) (st : Store) → store_after image f q b st ≡ store_before image f q b st
unfolding store_after
store-before image f q b st =
    by_cases (q is rewind_code)
    (λ e. let c : q.code ≡ rewind_code = eqb-true q.code rewind_code e in
    rw c (to-before image (q.sandbox * 128) (keeps_front b.rec) (copy_backing b.rec) st 64))
    (λ e. rw e)

-- the step with this store where the request is accepted
abbrev step_with : Store → List ℕ → ℕ → World → Request → Outcome
step_with after image given w q =
    let number = number_at image w q in
    record {
      answer = record { number = number; value = value_at image q (sandbox_at w q.sandbox) w.store when eqb number 0 else 0 };
      world = with_sandbox q.sandbox (sandbox_then given w q) (record { sandboxes = w.sandboxes; store = after }) when eqb number 0 else w;
    }

abbrev pub step_before : List ℕ → ℕ → ℕ → World → Request → Outcome
step_before image f given w q = step_with (store_before image f q (sandbox_at w q.sandbox) w.store) image given w q

pub step-before : (image : List ℕ) (f given : ℕ) (w : World) (q : Request) → step image f given w q ≡ step_before image f given w q
unfolding step
step-before image f given w q =
    ap (λ (after : Store). step_with after image given w q) (store-before image f q (sandbox_at w q.sandbox) w.store)
