-- A call on one sandbox of a row, by each of its ways out: with the sandbox put back, it is the step of the row's world.
use Prim.Native.Nat.{ℕ, ◌<◌}
use mathlib.Core.Path.{◌≡◌, sym, ap, subst, ◌∙◌}
use mathlib.Core.Bool.{true}
use mathlib.Core.List.{List}
use lib.ListN.{length, get_or, set}
use lib.Seq.{set-get_or}
use Rattle.interface.specs.declared.answer.Refusal.{Refusal}
use Rattle.interface.specs.declared.request.Request.{Request}
use Rattle.interface.specs.Answers.{refusal_number}
use Rattle.interface.specs.Refusals.{refusal}
use Rattle.interface.specs.Numbers.{pages_in}
use Rattle.interface.specs.Requests.{write_code}
use Rattle.table.specs.Store.{Store, kept}
use Rattle.runs.specs.Row.{row as row_of}
use Rattle.kept.specs.Test.{kept_to}
use Rattle.runs.specs.declared.Runs.{Runs}
use Rattle.records.specs.declared.Record.{Record}
use Rattle.records.specs.Record.{view_from}
use Rattle.state.specs.declared.sandbox.Sandbox.{Sandbox}
use Rattle.state.specs.declared.sandbox.Machine.{Machine}
use Rattle.state.proofs.SharesLaws.{zero_sandbox}
use Rattle.soundness.specs.Test.{soundb}
use Rattle.memory.proofs.MemoryLaws.{read-own}
use Rattle.state.specs.World.{World, world_of, sandbox_in, closed_sandbox, frames_of, shares_in}
use Rattle.totals.specs.declared.together.Together.{Together}
use Rattle.soundness.proofs.TestLaws.{Tested, tested}
use Rattle.rules.specs.After.{record_after}
use Rattle.rules.specs.Ready.{Ready}
use Rattle.memory.specs.Memory.{value_at}
use Rattle.memory.specs.Parts.{AskedOf, StoreStepped}
use Rattle.step.specs.Step.{Outcome, Stepped, number_at}
use Rattle.step.specs.Acted.{world_from, Stands, put_back}
use Rattle.step.proofs.CallLaws.{stepped-refused, number-rest, stepped, performed, ready, asked}

-- Of a sound state: the sandbox as the code reads it, and what the four have together. The pool is as it was.
module _ (image : List ℕ) (q : Request) (m : Machine) (pool same table : List ℕ) (all : Together) (held : all.held ≡ m.held) (stays : same ≡ pool) where
  -- everything is handed over that is asked
  pub standing : length m.sandboxes ≡ 4 → q.sandbox < 4 → soundb image (world_of m pool table) ≡ true → all.shares ≡ shares_in m.sandboxes
      → (q.code ≡ write_code → all.kept ≡ (kept_to (λ s. row_of (sandbox_in m.sandboxes s).runs) 4).held)
      → Stands image q (get_or m.sandboxes q.sandbox zero_sandbox) all (kept all.held same table) m.sandboxes
  standing four low sound shares marks = record {
    four = four;
    sound = rw (held, stays) sound;
    handed = record { own = read-own m.sandboxes q.sandbox four low; kept = marks };
    shares = shares;
  }

  -- and its step is that of the state
  pub stepped-back : (o : Outcome) → Stepped image (world_from m.sandboxes (kept all.held same table)) q o → Stepped image (world_of m pool table) q o
  stepped-back o t = rw (← held, ← stays) t

module _ (image : List ℕ) (q : Request) (b : Sandbox) (all : Together) (st : Store) (row : List Sandbox) (S : Stands image q b all st row) where
  abbrev w : World
  w = world_from row st

  pub sound-here : Tested image w
  sound-here = tested image w S.sound

  pub own-ready : q.sandbox < 4 → Ready (pages_in (length image)) b.rec
  own-ready low = subst (λ (x : Sandbox). Ready (pages_in (length image)) x.rec) (sym S.handed.own) (ready image w q sound-here low)

  pub own-number : refusal (view_from true (frames_of w) (pages_in (length image)) all.shares b.rec) q ≡ number_at image w q
  own-number =
      ap (λ (n : ℕ). refusal (view_from true (frames_of w) (pages_in (length image)) n b.rec) q) S.shares
      ∙ ap (λ (x : Sandbox). refusal (view_from true (frames_of w) (pages_in (length image)) (shares_in row) x.rec) q) S.handed.own
      ∙ number-rest image w q S.sound

  pub own-asked : number_at image w q ≡ 0 → AskedOf image q b all st row
  own-asked n = (S.handed, asked image w q sound-here n)

  -- a refused call leaves the row and the store
  pub acted-refused : (why : Refusal) → refusal_number why ≡ number_at image w q
      → Stepped image w q (record { answer = record { number = refusal_number why; value = 0 }; world = put_back q b row st })
  acted-refused why e =
      subst (λ (l : List Sandbox). Stepped image w q (record { answer = record { number = refusal_number why; value = 0 }; world = world_from l st }))
      (sym (ap (set row q.sandbox) S.handed.own ∙ set-get_or row q.sandbox closed_sandbox)) (stepped-refused image w q why e)

  -- an accepted one leaves its sandbox and its store
  pub acted-accepted : (value : ℕ) (rec : Record) (after : Store) (runs : Runs) → number_at image w q ≡ 0
      → value ≡ value_at image q b st → rec ≡ record_after q b.rec → StoreStepped image q w after runs
      → Stepped image w q (record { answer = record { number = 0; value = value }; world = put_back q (record { rec = rec; runs = runs }) row after })
  acted-accepted value rec after runs n v r t =
      let own = S.handed.own in
      stepped image w q _ n
      (performed image w q value (set row q.sandbox (record { rec = rec; runs = runs })) after runs t
      (v ∙ ap (λ (x : Sandbox). value_at image q x st) own)
      (ap (λ (x : Record). set row q.sandbox (record { rec = x; runs = runs })) (r ∙ ap (λ (x : Sandbox). record_after q x.rec) own)))
