-- What a map takes of the runs.
use Prim.Native.Nat.{ℕ, min, ◌≤◌, ◌<◌}
use mathlib.Core.Path.{◌≡◌, ap, ◌∙◌}
use mathlib.Core.Bool.{false}
use lib.Dec.{leb, eqb}
use native.Mathlib.Omega.{arith}
use borrow.Author.Tests.{eq-eqb, ne_eqb, leb-true, leb-false}
use Rattle.basics.specs.Choice.{◌when◌else◌}
use Rattle.basics.proofs.TestLaws.{by_cases}
use Rattle.interface.specs.declared.request.Request.{Request}
use Rattle.interface.specs.Requests.{◌is◌, map_code}
use Rattle.interface.specs.Outcome.{first_of}
use Rattle.run_choice.specs.Runs.{takes_run, run_for, granted}
use Rattle.frames.specs.declared.Held.{Held}
use Rattle.frames.specs.Frames.{count_held}
use Rattle.table.specs.Store.{Store, front_of}
use Rattle.runs.specs.Row.{row, lengths_of, with_run_at}
use Rattle.kept.specs.Spare.{left_of, adopt_to}
use Rattle.areas.specs.Areas.{slots}
use Rattle.state.specs.declared.sandbox.Sandbox.{Sandbox}
use Rattle.granting.specs.Granting.{map_runs, map_adopts}

module _ (q : Request) where
  -- a map at a named page, or of the image
  pub named_none : (q.p1 ≡ 64 → ⊥) → takes_run q ≡ false
  named_none n = by_cases (q is map_code) (λ e. rw (e, ne_eqb q.p1 64 n)) (λ e. rw e)

  pub image-none : (q.p3 ≡ 0 → ⊥) → takes_run q ≡ false
  image-none n = by_cases (q is map_code) (λ e. by_cases (eqb q.p1 64) (λ p. rw (e, p, ne_eqb q.p3 0 n)) (λ p. rw (e, p))) (λ e. rw e)

  -- takes no run
  pub untaken-store : (b : Sandbox) (st : Store) → takes_run q ≡ false → st ≡ map_adopts q b st
  unfolding map_adopts
  untaken-store b st e = rw e

  pub untaken-runs : (b : Sandbox) → takes_run q ≡ false → b.runs ≡ map_runs q b
  unfolding map_runs
  untaken-runs b e = rw e

lesser : (a b : ℕ) → min a b ≡ (a when leb a b else b)
lesser a b = by_cases (leb a b) (λ e. let l : a ≤ b = leb-true a b e in rw e (omega arith)) (λ e. let l : b < a = leb-false a b e in rw e (omega arith))

module _ (q : Request) (b : Sandbox) (e : q.code ≡ map_code) (p : q.p1 ≡ 64) (z : q.p3 ≡ 0)
    (place n : ℕ) (run : Held) (place_is : place ≡ run_for q.p2 (lengths_of b.runs)) (run_is : run ≡ row b.runs place)
    (n-is : n ≡ min q.p2 (count_held run)) where
  abbrev pub run-there : run ≡ row b.runs (run_for q.p2 (lengths_of b.runs))
  run-there = run_is ∙ ap (row b.runs) place_is

  pub frames-there : n ≡ granted q.p2 (lengths_of b.runs)
  unfolding granted
  frames-there = n-is ∙ lesser q.p2 (count_held run) ∙ rw run-there

  pub taken-store : (at first : ℕ) (st : Store) → at ≡ front_of q.sandbox first → first ≡ first_of (slots b.rec.present) q
      → adopt_to at run st n ≡ map_adopts q b st
  unfolding map_adopts
  taken-store at first st a f = rw (a, f, run-there, frames-there, eq-eqb q.code map_code e, eq-eqb q.p1 64 p, eq-eqb q.p3 0 z)

  pub taken_runs : with_run_at place (left_of run n) b.runs ≡ map_runs q b
  unfolding map_runs
  taken_runs = rw (run-there, frames-there, place_is, eq-eqb q.code map_code e, eq-eqb q.p1 64 p, eq-eqb q.p3 0 z)
