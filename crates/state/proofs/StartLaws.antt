-- A start, by each of its ways out; and the world from which lists of calls begin.
use Prim.Native.Nat.{ℕ}
use mathlib.Core.Path.{◌≡◌, refl, sym, ap, ◌∙◌}
use mathlib.Core.Bool.{Bool, true, false}
use mathlib.Core.List.{List}
use lib.ListN.{length, replicate}
use Rattle.interface.specs.Answers.{Answer}
use Rattle.std.specs.Prelude.{Ok, Err}
use Rattle.interface.specs.declared.answer.Refusal.TheVariants.{Unsound}
use Rattle.interface.specs.Numbers.{pages_in}
use Rattle.table.specs.Store.{Store, cleared, fresh}
use Rattle.state.specs.declared.sandbox.Machine.{Machine}
use Rattle.state.specs.World.{World, world_of, fresh_machine, closed_sandbox, started, lengths_ok}
use Rattle.state.specs.Start.{start_answer, started_by}
use Rattle.state.proofs.LentLaws.{lengths-true}

module _ (pool table image : List ℕ) where
  pub start-refused : lengths_ok (length pool) (length table) (length image) ≡ false → (m : Machine) → m ≡ fresh_machine
      → (Err Unsound ≡ start_answer pool table image) × (world_of m pool table ≡ started_by pool table image)
  unfolding start_answer started_by
  start-refused e m f = (rw e, rw (e, f))

  module _ (ok : lengths_ok (length pool) (length table) (length image) ≡ true) where
    pub start-made : (m : Machine) (st : Store) → m ≡ fresh_machine → st ≡ cleared (length pool)
        → (Ok 0 ≡ start_answer pool table image) × (record { sandboxes = m.sandboxes; store = st } ≡ started_by pool table image)
    unfolding start_answer started_by
    start-made m st f g = (rw ok, rw (ok, f, g))

    -- "the state, pool and table that a start not refused leaves"
    pub start-world : started_by pool table image ≡ started (pages_in (length pool))
    unfolding started_by fresh
    start-world =
        let l = lengths-true (length pool) (length table) (length image) ok in
        rw ok (ap (λ (n : ℕ). record { sandboxes = replicate 4 closed_sandbox; store = cleared n }) l.pages)
