-- Demand 1: the number of each refusal; a refused call changes nothing; an accepted one touches only what it names; a sound state stays sound.
use mathlib.Core.Path.{◌≡◌, sym, ◌∙◌}
use mathlib.Core.Bool.{true}
use mathlib.Core.List.{List}
use Prim.Native.Nat.{ℕ, ◌*◌, ◌+◌, ◌<◌}
use lib.Dec.{eqb, leb}
use lib.ListN.{length}
use lib.Seq.{get_or-set_other}
use borrow.Author.Tests.{eqb-true, leb-true, le-leb}
use Rattle.basics.proofs.TestLaws.{by_cases, and_both, and-of}
use Rattle.interface.specs.declared.request.Request.{Request}
use Rattle.interface.specs.Requests.{is_call}
use Rattle.interface.specs.Refusals.{refusal}
use Rattle.table.specs.Store.{contents}
use Rattle.kept.specs.Spare.{Words}
use Rattle.state.specs.World.{World, sandbox_at, closed_sandbox, rows_of}
use Rattle.state.specs.Sound.{Sound}
use Rattle.soundness.specs.Test.{soundb}
use Rattle.soundness.proofs.TestLaws.{sound-true, sound-of}
use Rattle.step.specs.Step.{view_at, sandbox_then, number_at, Outcome, Stepped}
use Rattle.step.proofs.CallLaws.{number-two, number-three, number-rest}
use Rattle.simulation.proofs.StepLaws.{number_is, refused-leaves}
use Rattle.simulation.proofs.AnySound.{stays-sound}
use Rattle.simulation.proofs.AcceptedLaws.{left, stored}
use Rattle.claims.specs.Demands.{Coded, Demand1}
use Rattle.claims.proofs.TouchesLaws.{entries-other, touches}

module _ (image : List ℕ) (w : World) (q : Request) (o : Outcome) (s : Stepped image w q o) where
  refused : (o.answer.number ≡ 0 → ⊥) → (o.answer.value ≡ 0) × (o.world ≡ w)
  refused d = by_cases (eqb (number_at image w q) 0) (λ e. absurd (d (number_is image w q o s ∙ eqb-true _ 0 e))) (refused-leaves image w q o s)

  others : o.answer.number ≡ 0 → (t : ℕ) → (q.sandbox ≡ t → ⊥) → sandbox_at o.world t ≡ sandbox_at w t
  others n t d =
      rw (left image w q o s n) (get_or-set_other w.sandboxes q.sandbox t (sandbox_then s.given w q) closed_sandbox (λ z. d (sym z)))

  pages : o.answer.number ≡ 0 → (t i : ℕ) → i < 128 → (q.sandbox ≡ t → ⊥)
      → contents 256 o.world.store (t * 128 + i) ≡ contents 256 w.store (t * 128 + i)
  pages n t i l d = rw (left image w q o s n) ((stored image w q o s n).others t i d l)

  is-call : Coded q → is_call q ≡ true
  is-call c = and-of (le-leb 1 q.code c.0) (le-leb q.code 10 c.1)

  uncalled : (Coded q → ⊥) → o.answer.number ≡ 2
  uncalled c =
      number_is image w q o s
      ∙ by_cases (is_call q)
      (λ e. let both = and_both (leb 1 q.code) (leb q.code 10) e in
      absurd (c (leb-true 1 q.code both.0, leb-true q.code 10 both.1)))
      (λ e. sym (number-two image w q e))

  unsound : Coded q → length w.sandboxes ≡ 4 → ((t : ℕ) → t < 4 → Words (rows_of w t)) → (Sound image w → ⊥) → o.answer.number ≡ 3
  unsound c four words n =
      number_is image w q o s
      ∙ by_cases (soundb image w) (λ e. absurd (n (sound-true image w (record { row = four; words = words }) e)))
      (λ e. sym (number-three image w q (is-call c) e))

  table : o.answer.number ≡ refusal (view_at image w q.sandbox) q
  unfolding number_at
  table = number_is image w q o s

  pub demand-1 : Demand1 image w q o
  demand-1 = record {
    uncalled = uncalled;
    unsound = unsound;
    table = table;
    refused = refused;
    others = λ n t l d. others n t d;
    entries = λ n t i l m d. entries-other image w q o s n t i m d;
    contents = λ n t i l m d. pages n t i m d;
    touches = λ t n. touches image w q o t n;
    sound = λ S. stays-sound image w S q o s;
  }
