-- Lists of calls: where they start, every list has a run, and a run keeps the agreement and gives the plain machine's answers.
use mathlib.Core.Path.{◌≡◌, refl, ap₂}
use mathlib.Core.List.{List, [], ◌∷◌}
use Prim.Native.Nat.{ℕ}
use lib.ListN.{length}
use Rattle.interface.specs.declared.request.Request.{Request}
use Rattle.interface.specs.Answers.{Answered}
use Rattle.state.specs.World.{World, started}
use Rattle.state.specs.Sound.{Sound}
use Rattle.state.proofs.LentLaws.{lengths-true}
use Rattle.state.proofs.StartLaws.{start-world}
use Rattle.step.specs.Step.{step, Outcome, Stepped}
use Rattle.plain.specs.Machine.{Given, Plain, fresh, after, answers, after_all}
use Rattle.plain_claims.specs.Lists.{up_to}
use Rattle.simulation.specs.Lent.{Lent}
use Rattle.simulation.specs.Agrees.{Agrees}
use Rattle.simulation.proofs.SoundLaws.{agrees-sound, started-agrees}
use Rattle.simulation.proofs.Simulate.{step-answer, step-agrees}
use Rattle.simulation.proofs.AnySound.{stays-sound}
use Rattle.simulation.proofs.TakenLaws.{some-frame}
use Rattle.claims.specs.Demands.{Run, none, more, RunFrom, StartsLists, EveryListRuns, Demand2}

-- ---- a start that is not refused

pub starts-lists : StartsLists
starts-lists pool table image ok =
    let l = lengths-true (length pool) (length table) (length image) ok in
    (record { frames = l.some; few = l.few; image = l.whole; images = l.images }, start-world pool table image ok)

-- ---- every list has a run

pub sound-runs : (image : List ℕ) (w : World) → Sound image w → (qs : List Request) → (as' : List Answered) × ((v : World) × Run image w qs as' v)
sound-runs image w S [] = ([], (w, none))
sound-runs image w S (q ∷ qs) =
    let f = some-frame image w S q in
    let o : Outcome = step image f.0 f.1.0 w q in
    let s : Stepped image w q o = record { frame = f.0; given = f.1.0; chosen = f.1.1; equals = refl } in
    let rest = sound-runs image o.world (stays-sound image w S q o s) qs in
    (o.answer ∷ rest.0, (rest.1.0, more {v = rest.1.0} {q = q} {o = o} {qs = qs} {as' = rest.0} s rest.1.1))

pub every-list-runs : (g : Given) → Lent g → EveryListRuns g
every-list-runs g L qs = sound-runs g.image (started g.frames) (agrees-sound {C = λ f. Unit {0}} g (started g.frames) fresh (started-agrees g L) L) qs

-- ---- and keeps the agreement

module _ (g : Given) (L : Lent g) where
  run-agrees : {w v : World} {qs : List Request} {as' : List Answered} (p : Plain) → Agrees (λ f. Unit {0}) g w p → Run g.image w qs as' v
      → Agrees (λ f. Unit {0}) g v (after_all g p qs) × (as' ≡ answers g p qs)
  unfolding after_all answers
  run-agrees p A none = (A, refl)
  run-agrees {w} p A (more {q = q} {o = o} s r) =
      let rest = run-agrees (after g p q) (step-agrees g L w p A q o s) r in
      (rest.0, ap₂ ◌∷◌ (step-answer g L w p A q o s) rest.1)

  pub list-agrees : (qs : List Request) (as' : List Answered) (v : World) → RunFrom g qs as' v → Agrees (λ f. Unit {0}) g v (up_to g qs)
  list-agrees qs as' v r = (run-agrees fresh (started-agrees g L) r).0

  pub demand-2 : Demand2 g
  demand-2 qs as' v r = (run-agrees fresh (started-agrees g L) r).1
