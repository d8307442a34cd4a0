-- The frames that a write gives up and takes: a sound world has them.
use mathlib.Core.Path.{◌≡◌, refl}
use mathlib.Core.Logic.{inl, inr}
use mathlib.Core.Bool.{true, false}
use mathlib.Core.List.{List}
use Prim.Native.Nat.{ℕ, ◌+◌, ◌≤◌, ◌<◌}
use lib.Dec.{eqb, ltb}
use native.Mathlib.Omega.{arith}
use borrow.Author.Tests.{eqb-true, eq-eqb, ltb-true, ltb-false}
use Rattle.basics.proofs.TestLaws.{by_cases, never}
use Rattle.interface.specs.declared.request.Request.{Request}
use Rattle.interface.specs.Requests.{page_of}
use Rattle.interface.specs.Slots.{is_mapped}
use Rattle.interface.specs.Refusals.{all_mapped}
use Rattle.interface.specs.Accepted.{Accepted}
use Rattle.frames.specs.declared.Held.{Held}
use Rattle.frames.specs.Frames.{least_held}
use Rattle.frames.proofs.PairLaws.{least-found}
use Rattle.table.specs.Store.{entry, front_of}
use Rattle.areas.specs.Areas.{slots}
use Rattle.state.specs.World.{World, sandbox_at, record_at, rows_of}
use Rattle.state.specs.Sound.{Sound}
use Rattle.soundness.proofs.TestLaws.{Tested, tested, sound-of}
use Rattle.soundness.proofs.Room.{holds, frame-there, kept_there}
use Rattle.memory.specs.Memory.{gives_at, longest_of}
use Rattle.step.specs.Step.{view_at, takes, gives, Free, OfLongest, Chosen}
use Rattle.simulation.proofs.StepLaws.{was-accepted, Taking, taking, gives-takes}
use Rattle.simulation.proofs.StoreSteps.{write-page}

eqb_of : {a b : ℕ} → a ≡ b → eqb a b ≡ true
eqb_of e = eq-eqb _ _ e

module _ (image : List ℕ) (w : World) (S : Sound image w) (q : Request) where
  shown : Tested image w
  shown = tested image w (sound-of image w S)

  module _ (t : takes image w q ≡ true) where
    this : Taking image w q
    this = taking image w q t

    met : Accepted (view_at image w q.sandbox) q
    met = was-accepted image w q this.number

    low : page_of q < 64
    low = write-page _ q this.writes met.in_limits

    there : is_mapped (slots (record_at w q.sandbox).present (page_of q)) ≡ true
    unfolding all_mapped
    there = rw this.writes at met.mapped

    bare : entry w.store (front_of q.sandbox (page_of q)) ≡ 0
    bare = eqb-true _ 0 this.bare

    row : q.sandbox < 4
    row = omega (arith, met.in_row)

    -- a write that need not give up a frame finds one that is not held
    free-found : gives image w q ≡ false → (f : ℕ) × Free w f
    unfolding gives gives_at
    free-found g =
        let y : ltb (record_at w q.sandbox).share (holds w q.sandbox + 1) ≡ false = rw (this.number, eqb_of this.writes, this.bare) at g in
        let r : holds w q.sandbox + 1 ≤ (record_at w q.sandbox).share = ltb-false _ _ y in
        let f = frame-there image w shown q.sandbox (page_of q) row low there bare (omega arith) in
        (f.0, record { of_pool = f.1.0; unnamed = f.1.1.0; unkept = f.1.1.1 })

    -- one that must has one to give up
    given-found : gives image w q ≡ true → (g : ℕ) × OfLongest w q.sandbox g
    unfolding gives gives_at
    given-found g =
        let y : ltb (record_at w q.sandbox).share (holds w q.sandbox + 1) ≡ true = rw (this.number, eqb_of this.writes, this.bare) at g in
        let r : (record_at w q.sandbox).share < holds w q.sandbox + 1 = ltb-true _ _ y in
        let run : Held = rows_of w q.sandbox (longest_of (sandbox_at w q.sandbox)) in
        let f = least-found run (kept_there image w shown q.sandbox (page_of q) row low there bare (omega arith)) in
        (least_held run, record { low = f.0; kept = f.1 })

  -- whatever is called, there is a choice; any number serves where no frame is taken
  pub some-frame : (f : ℕ) × ((given : ℕ) × Chosen image w q f given)
  some-frame =
      by_cases (takes image w q)
      (λ t. by_cases (gives image w q)
      (λ y. let g = given-found t y in (g.0, (g.0, record { gave = λ _. g.1; free = λ _. inr (y, refl) })))
      (λ y. let f = free-found t y in (f.0, (0, record { gave = λ z. never (gives image w q) z y; free = λ _. inl f.1 }))))
      (λ t. (0, (0, record { gave = λ z. never (takes image w q) (gives-takes image w q z) t; free = λ z. never (takes image w q) z t })))
