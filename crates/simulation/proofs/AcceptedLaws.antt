-- An accepted call, of a world of any shape: what the test says of the world, and the store that is left.
use mathlib.Core.Path.{◌≡◌, refl, sym, ◌∙◌}
use mathlib.Core.Logic.{◌⊎◌}
use mathlib.Core.Bool.{true}
use mathlib.Core.List.{List}
use Prim.Native.Nat.{ℕ, ◌<◌}
use native.Mathlib.Omega.{arith}
use lib.Dec.{eqb}
use lib.ListN.{length}
use Rattle.interface.specs.declared.request.Request.{Request}
use Rattle.interface.specs.Requests.{◌is◌, write_code, page_of}
use Rattle.interface.specs.Accepted.{Accepted}
use Rattle.interface.proofs.KindLaws.{kind}
use Rattle.interface.specs.Numbers.{pages_in}
use Rattle.frames.specs.Frames.{held}
use Rattle.table.specs.Store.{entry, front_of, Tidy}
use Rattle.state.specs.declared.sandbox.Sandbox.{Sandbox}
use Rattle.state.specs.World.{World, sandbox_at, frames_of, shares_of, rows_of}
use Rattle.state.specs.Sound.{SoundAt}
use Rattle.soundness.proofs.TestLaws.{Tested, tested}
use Rattle.memory.specs.Memory.{gives_at, store_after}
use Rattle.step.specs.Step.{view_at, world_after, number_at, Free, Outcome, Stepped}
use Rattle.plain.specs.Machine.{Given, Kept, kept_after, view_of}
use Rattle.simulation.specs.Lent.{Lent}
use Rattle.simulation.proofs.StepLaws.{was-sound, was-accepted, number_is, accepted-leaves, frame-free}
use Rattle.simulation.proofs.MapSteps.{Stored}
use Rattle.simulation.proofs.StoreSteps.{stored-after}
use Rattle.simulation.proofs.Simulate.{view-at}
use Rattle.simulation.proofs.AnySound.{kept_for, kept-keeps, kept-reads, kept-agrees}

-- ---- what the test says

pub lent_of : (image : List ℕ) (w : World) → Tested image w → Lent (record { image = image; frames = frames_of w })
lent_of image w t = record { frames = t.frames; few = t.filed.few; image = t.whole; images = t.images }

-- ---- an accepted call

module _ (image : List ℕ) (w : World) (q : Request) (o : Outcome) (s : Stepped image w q o) (n : o.answer.number ≡ 0) where
  pub number : number_at image w q ≡ 0
  number = sym (number_is image w q o s) ∙ n

  pub left : o.world ≡ world_after image s.frame s.given w q
  left = accepted-leaves image w q o s number

  pub met : Accepted (view_at image w q.sandbox) q
  met = was-accepted image w q number

  pub sound-parts : Tested image w
  sound-parts = tested image w (was-sound image w q number)

  pub own : SoundAt (pages_in (length image)) w.store q.sandbox (sandbox_at w q.sandbox)
  own = sound-parts.each q.sandbox (omega (arith, met.in_row))

  abbrev given : Given
  given = record { image = image; frames = frames_of w }

  abbrev b : Sandbox
  b = sandbox_at w q.sandbox

  -- the frame that a write takes
  pub free : (q is write_code) ≡ true → eqb (entry w.store (front_of q.sandbox (page_of q))) 0 ≡ true
      → (s.frame < frames_of w)
      × ((held w.store.marks s.frame ≡ 0) × (Free w s.frame ⊎ ((gives_at q b w.store ≡ true) × (s.frame ≡ s.given))))
  free = frame-free image w q o s number (omega (arith, met.in_row)) sound-parts.spare sound-parts.filed.few

  -- the store that is left, beside what a plain machine made from the world would keep
  pub stored : Stored (λ f. ⊥) given w.store (store_after image s.frame q b w.store) q.sandbox
      (kept_after given q (kept_for image w.store q.sandbox b))
  stored =
      let T = sound-parts in
      let k : Kept = kept_for image w.store q.sandbox b in
      let A = kept-agrees given w.store T.filed q.sandbox b own in
      let tidy : Tidy (λ f. ⊥) 256 (frames_of w) w.store = record { filed = T.filed; clean = λ f c. absurd c } in
      let same = view-at given w (shares_of w) q.sandbox k (was-sound image w q number) refl refl A in
      let a : Accepted (view_of given (shares_of w) k.core) q = rw same at met in
      stored-after given (lent_of image w T) q w.store tidy b k met.in_row
      (kept-keeps given w.store T.filed q.sandbox b own) (kept-reads given w.store T.filed q.sandbox b own) A
      (shares_of w) a s.frame (kind q) (rows_of w) T.spare refl (λ e z. let x = free e z in (x.0, x.1.0))
