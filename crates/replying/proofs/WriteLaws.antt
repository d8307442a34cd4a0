-- A write that is not refused, by the store and the runs that it leaves: the sandbox's record stays, and with the runs put back it is the step of the row's
-- world.
use Prim.Native.Nat.{ℕ}
use mathlib.Core.Path.{◌≡◌, sym, ap, ◌∙◌}
use mathlib.Core.Bool.{true, false}
use mathlib.Core.List.{List}
use native.Mathlib.Omega.{arith}
use Rattle.interface.specs.declared.request.Request.{Request}
use Rattle.interface.specs.Requests.{◌is◌, open_code, snapshot_code, rewind_code, write_code}
use Rattle.interface.proofs.AcceptedLaws.{accepted}
use Rattle.table.specs.Store.{Store, kept}
use Rattle.runs.specs.declared.Runs.{Runs}
use Rattle.state.specs.declared.sandbox.Sandbox.{Sandbox}
use Rattle.state.specs.declared.sandbox.Machine.{Machine}
use Rattle.state.specs.World.{World, world_of}
use Rattle.totals.specs.declared.together.Together.{Together}
use Rattle.rules.specs.After.{changes, record_after}
use Rattle.memory.specs.Parts.{StoreStepped}
use Rattle.memory.proofs.ValueLaws.{no_value}
use Rattle.step.specs.Step.{Stepped, number_at, view_at}
use Rattle.step.specs.Acted.{world_from, Stands, put_back}
use Rattle.step.proofs.ActedLaws.{acted-accepted}
use Rattle.step.proofs.StayLaws.{record_same}

-- what is not refused of a state is not refused of what was handed over of it
pub not-refused : (image : List ℕ) (q : Request) (m : Machine) (pool same table : List ℕ) (all : Together) → all.held ≡ m.held → same ≡ pool
    → number_at image (world_of m pool table) q ≡ 0 → number_at image (world_from m.sandboxes (kept all.held same table)) q ≡ 0
not-refused image q m pool same table all held stays n = rw (held, stays) n

module _ (image : List ℕ) (q : Request) (b : Sandbox) (all : Together) (st : Store) (row : List Sandbox) (S : Stands image q b all st row)
    (e : q.code ≡ write_code) (n : number_at image (world_from row st) q ≡ 0) where
  abbrev w : World
  w = world_from row st

  not-open : (q is open_code) ≡ false
  not-open = rw e

  opened : b.rec.opened ≡ true
  unfolding number_at
  opened = ap (λ (x : Sandbox). x.rec.opened) S.handed.own ∙ (accepted (view_at image w q.sandbox) q n).opened not-open

  record-stays : b.rec ≡ record_after q b.rec
  record-stays =
      let packs : changes q ≡ false = rw e in
      let snapshot : (q is snapshot_code) ≡ false = rw e in
      let rewind : (q is rewind_code) ≡ false = rw e in
      sym (record_same q not-open packs snapshot rewind b.rec opened)

  pub acted-write : (after : Store) (runs : Runs) → StoreStepped image q w after runs
      → Stepped image w q (record { answer = record { number = 0; value = 0 }; world = put_back q (record { rec = b.rec; runs = runs }) row after })
  acted-write after runs t =
      acted-accepted image q b all st row S 0 b.rec after runs n
      (no_value image q b st (λ x. omega (arith, e, x)) (λ x. omega (arith, e, x)) (λ x. omega (arith, e, x)) (λ x. omega (arith, e, x))
      (λ x. omega (arith, e, x)) (λ x. omega (arith, e, x)))
      record-stays t
