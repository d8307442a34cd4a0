-- What each way out of a start and of a call leaves.
use mathlib.Core.Path.{◌≡◌, refl, sym, ap, ◌∙◌, subst}
use mathlib.Core.Bool.{Bool, true, false, not}
use mathlib.Core.List.{List}
use Prim.Native.Nat.{ℕ}
use lib.Dec.{eqb}
use lib.ListN.{length}
use borrow.Author.Tests.{eqb-true, eq-eqb, ne_eqb, not-true, not-false}
use Rattle.basics.proofs.TestLaws.{by_cases, never}
use Rattle.interface.specs.declared.request.Request.{Request}
use Rattle.interface.specs.Answers.{Answer}
use Rattle.interface.specs.Answers.{Answered, number_of}
use Rattle.state.specs.World.{World, world_of}
use Rattle.state.specs.Start.{start_answer, started_by}
use Rattle.soundness.specs.Test.{Typed}
use Rattle.state.specs.declared.sandbox.Machine.{Machine}
use Rattle.soundness.proofs.TestLaws.{sound-true}
use Rattle.layout.specs.Rows.{Bytes}
use Rattle.layout.specs.Layout.{state_size, state_bytes, state_from, is_state, Shaped}
use Rattle.layout.specs.Claims.{machine_of}
use Rattle.layout.proofs.Claims.{decodes-back, passes, only-canonical, gives-shaped, sound-is-shaped}
use Rattle.step.specs.declared.Reply.{Reply}
use Rattle.step.specs.Step.{number_at, Outcome, Stepped}
use Rattle.step.specs.Reply.{outcome_of}
use Rattle.simulation.proofs.StepLaws.{was-sound, refused-leaves}
use Rattle.claims.proofs.Claims.{claim-1}
use Rattle.host_calls.specs.declared.Told.{Told}
use Rattle.host_calls.specs.Calls.{Handed, handed, hands_of, world_in, told_by, answer_told, outcome_in, start_number, start_hands, no_state, Called}

-- ---- the test of bytes, as code has it: `if !is_state(state)`

module _ (state : List ℕ) (tested : Bool) (is : tested ≡ is_state state) where
  pub fails-test : not tested ≡ true → is_state state ≡ false
  fails-test e = sym is ∙ not-true tested e

  pub passes-test : not tested ≡ false → is_state state ≡ true
  passes-test e = sym is ∙ not-false tested e

-- ---- what is handed over

-- a world is what it hands over
pub world-again : (w : World) → Shaped (machine_of w) → world_in (hands_of w) ≡ w
world-again w s = ap (λ m. world_of m w.store.pool w.store.table) (decodes-back (machine_of w) s)

-- bytes that pass the test are what their world hands over
pub hands-again : (h : Handed) → Bytes h.state → is_state h.state ≡ true → h ≡ hands_of (world_in h)
hands-again h bytes y = ap (λ (l : List ℕ). handed l h.pool h.table) (sym (only-canonical h.state bytes y))

-- ---- the start

module _ (image : List ℕ) (h : Handed) where
  pub start-short : (length h.state ≡ state_size → ⊥) → (3 ≡ start_number image h) × (h ≡ start_hands image h)
  unfolding start_number start_hands
  start-short e = let n = ne_eqb (length h.state) state_size e in (rw n refl, rw n refl)

  pub start-long : (answer : Answer) (m : Machine) (pool table state : List ℕ) → length h.state ≡ state_size
      → answer ≡ start_answer h.pool h.table image
      → world_of m pool table ≡ started_by h.pool h.table image
      → state ≡ state_bytes m
      → (number_of answer ≡ start_number image h) × (handed state pool table ≡ start_hands image h)
  unfolding start_number start_hands
  start-long answer m pool table state e a w s =
      let n = eq-eqb (length h.state) state_size e in
      (rw n (ap number_of a), rw n (ap (λ (l : List ℕ). handed l pool table) s ∙ ap hands_of w))

-- ---- a call

module _ (image : List ℕ) (h : Handed) (q : Request) where
  pub call-unsound : (t : Told) → is_state h.state ≡ false → answer_told t ≡ no_state q → Called image h q t h
  call-unsound t n e =
      record { unsound = λ _. (e, refl); stepped = λ y. never (is_state h.state) y n; refused = λ _. (ap (λ (a : Answered). a.value) e, refl) }

  -- of bytes that are those of the world they give
  module _ (own : h ≡ hands_of (world_in h)) (shaped : Shaped (state_from h.state)) where
    passed : is_state h.state ≡ true
    passed = ap (λ (k : Handed). is_state k.state) own ∙ passes (state_from h.state)

    -- what the types of that world say
    typed : Typed (world_in h)
    typed = record { row = shaped.row; words = λ s l. (shaped.each s l).words }

    -- a step leaves a state that its bytes give again: a refused one the state itself, an accepted one a sound state
    next-shaped : (o : Outcome) → Stepped image (world_in h) q o → Shaped (machine_of o.world)
    next-shaped o s =
        by_cases (eqb (number_at image (world_in h) q) 0)
        (λ z. let sound = sound-true image (world_in h) typed (was-sound image (world_in h) q (eqb-true (number_at image (world_in h) q) 0 z)) in
        sound-is-shaped image o.world ((claim-1 image (world_in h) q o s).sound sound))
        (λ z. subst (λ (w : World). Shaped (machine_of w)) (sym (refused-leaves image (world_in h) q o s z).1) shaped)

    pub called : (o : Outcome) (t : Told) (l : Handed) → Stepped image (world_in h) q o → answer_told t ≡ o.answer → l ≡ hands_of o.world
        → Called image h q t l
    called o t l s a left =
        let again : world_in l ≡ o.world = ap world_in left ∙ world-again o.world (next-shaped o s) in
        let same : outcome_in t l ≡ o = λ i. record { answer = a i; world = again i } in
        record {
          unsound = λ n. never (is_state h.state) passed n;
          stepped = λ _. (subst (Stepped image (world_in h) q) (sym same) s, left ∙ ap hands_of (sym again));
          refused = λ Some-number.
              let d = (claim-1 image (world_in h) q o s).refused (λ z. Some-number (ap (λ (b : Answered). b.number) a ∙ z)) in
              (ap (λ (b : Answered). b.value) a ∙ d.0, left ∙ ap hands_of d.1 ∙ sym own);
        }

  -- the call of the state that bytes gave, and its state written back
  pub call-stepped : Bytes h.state → is_state h.state ≡ true → (m : Machine) (r : Reply) (t : Told) (state pool table : List ℕ) → m ≡ state_from h.state
      → Stepped image (world_of m h.pool h.table) q (outcome_of r pool table)
      → state ≡ state_bytes r.machine
      → t ≡ told_by r.answer
      → Called image h q t (handed state pool table)
  call-stepped bytes y m r t state pool table e s b told =
      let o : Outcome = outcome_of r pool table in
      called (hands-again h bytes y) (gives-shaped h.state bytes y) o t (handed state pool table)
      (subst (λ (m : Machine). Stepped image (world_of m h.pool h.table) q o) e s) (ap answer_told told) (ap (λ (l : List ℕ). handed l pool table) b)
