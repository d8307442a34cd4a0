-- What is known of a state stays known, whatever is called: a sound state stays sound, and a state whose test fails stays as it is. A start says which it is.
use mathlib.Core.Path.{◌≡◌, sym, subst}
use mathlib.Core.Bool.{Bool, true, false}
use mathlib.Core.List.{List}
use Prim.Native.Nat.{ℕ}
use lib.Dec.{eqb}
use lib.ListN.{length}
use borrow.Author.Tests.{eqb-true}
use Rattle.basics.proofs.TestLaws.{by_cases, never}
use Rattle.interface.specs.declared.request.Request.{Request}
use Rattle.interface.specs.Answers.{Answer}
use Rattle.interface.specs.Answers.{Answered, number_of}
use Rattle.interface.specs.Numbers.{pages_in}
use Rattle.lines.specs.declared.Line.{Line}
use Rattle.lines.specs.declared.Line.TheVariants.{Call, Malformed}
use Rattle.state.specs.World.{World, lengths_ok, started}
use Rattle.state.specs.Start.{start_answer, started_by}
use Rattle.state.specs.Sound.{Sound}
use Rattle.soundness.specs.Test.{soundb}
use Rattle.soundness.proofs.TestLaws.{sound-of}
use Rattle.step.specs.Step.{number_at, Outcome, Stepped}
use Rattle.plain.specs.Machine.{Given, fresh}
use Rattle.simulation.proofs.StepLaws.{was-sound, refused-leaves}
use Rattle.simulation.proofs.SoundLaws.{agrees-sound, started-agrees}
use Rattle.claims.specs.Demands.{Run, none, more}
use Rattle.claims.proofs.Claims.{claim-start, claim-1}
use Rattle.roll.specs.Known.{Known}
use Rattle.roll.specs.Play.{Turned, Played}

-- it is what the test would say
pub known_is : (s : Bool) (image : List ℕ) (w : World) → Known s image w → s ≡ soundb image w
unfolding Known
known_is true image w k = sym (sound-of image w k)
known_is false image w k = sym k

-- ---- from call to call

-- a call whose state fails the test is refused
unsound-leaves : (image : List ℕ) (w : World) (q : Request) (o : Outcome) → soundb image w ≡ false → Stepped image w q o → o.world ≡ w
unsound-leaves image w q o k t =
    by_cases (eqb (number_at image w q) 0)
    (λ e. never (soundb image w) (was-sound image w q (eqb-true _ 0 e)) k)
    (λ e. (refused-leaves image w q o t e).1)

pub known_step : (s : Bool) (image : List ℕ) (w : World) (q : Request) (o : Outcome) → Known s image w → Stepped image w q o → Known s image o.world
unfolding Known
known_step true image w q o k t = (claim-1 image w q o t).sound k
known_step false image w q o k t = rw (unsound-leaves image w q o k t) k

known-run : {image : List ℕ} {w v : World} {qs : List Request} {as' : List Answered} (s : Bool) → Known s image w → Run image w qs as' v → Known s image v
known-run s k none = k
known-run {image} {w} s k (more {q = q} {o = o} t r) = known-run s (known_step s image w q o k t) r

-- ---- from line to line

pub known-turned : (s : Bool) (image : List ℕ) (w : World) (line : Line) (o : Outcome) → Known s image w → Turned image w line o → Known s image o.world
known-turned s image w (Call q) o k t = known_step s image w q o k t
known-turned s image w Malformed o k t = subst (λ (x : Outcome). Known s image x.world) (sym t) k

pub known-played : (s : Bool) (image : List ℕ) (w : World) (roll : List ℕ) (n first : ℕ) (out₀ out : List ℕ) (v : World)
    → Known s image w → Played image w roll n first out₀ out v → Known s image v
known-played s image w roll n first out₀ out v k p = known-run s k p.run

-- ---- a start

module _ (pool table image : List ℕ) where
  -- where it is accepted the state is sound
  started-sound : lengths_ok (length pool) (length table) (length image) ≡ true → Sound image (started_by pool table image)
  started-sound ok =
      let begun = claim-start pool table image ok in
      let g : Given = record { image = image; frames = pages_in (length pool) } in
      subst (Sound image) (sym begun.1) (agrees-sound {C = λ f. Unit {0}} g (started g.frames) fresh (started-agrees g begun.0) begun.0)

  -- where it is refused a length is wrong, and stays so
  started-unsound : lengths_ok (length pool) (length table) (length image) ≡ false → soundb image (started_by pool table image) ≡ false
  unfolding started_by soundb
  started-unsound wrong = rw (wrong, wrong)

  pub known_start : (a : Answer) (s : Bool) (w : World) → a ≡ start_answer pool table image → s ≡ eqb (number_of a) 0 → w ≡ started_by pool table image
      → Known s image w
  unfolding Known start_answer
  known_start a s w is e f =
      by_cases (lengths_ok (length pool) (length table) (length image))
      (λ ok. rw (e, is, ok, f) (started-sound ok))
      (λ wrong. rw (e, is, wrong, f) (started-unsound wrong))
