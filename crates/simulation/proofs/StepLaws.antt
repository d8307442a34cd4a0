-- What a step says by itself: which requests were tested and accepted, and the world that each leaves.
use mathlib.Core.Path.{◌≡◌, refl, ap}
use mathlib.Core.Logic.{◌⊎◌, inl, inr, ⊎_elim}
use mathlib.Core.Bool.{Bool, true, false, not}
use mathlib.Core.List.{List}
use Prim.Native.Nat.{ℕ, ◌≤◌, ◌<◌}
use native.Mathlib.Omega.{arith}
use lib.Dec.{eqb}
use borrow.Author.Tests.{eqb-true, not-false}
use Rattle.basics.proofs.TestLaws.{and_both, and-of, passed}
use Rattle.interface.specs.declared.request.Request.{Request}
use Rattle.interface.specs.Requests.{◌is◌, write_code, is_call, page_of}
use Rattle.interface.specs.Refusals.{refusal}
use Rattle.interface.specs.Accepted.{Accepted}
use Rattle.interface.proofs.AcceptedLaws.{accepted}
use Rattle.run_choice.specs.Runs.{run_places}
use Rattle.run_choice.proofs.RunLaws.{longest-low}
use Rattle.frames.specs.Frames.{held}
use Rattle.frames.proofs.FrameLaws.{lt-or-ge}
use Rattle.runs.specs.Row.{lengths_of}
use Rattle.kept.specs.Spare.{Spare}
use Rattle.kept.proofs.SpareLaws.{run-kept}
use Rattle.table.specs.Store.{entry, front_of}
use Rattle.state.specs.World.{World, sandbox_at, frames_of, rows_of}
use Rattle.soundness.specs.Test.{soundb}
use Rattle.memory.specs.Memory.{gives_at, longest_of}
use Rattle.step.specs.Step.{view_at, world_after, number_at, step, takes, gives, Free, OfLongest, Outcome, Stepped}

-- a request that is accepted
module _ (image : List ℕ) (w : World) (q : Request) (n : number_at image w q ≡ 0) where
  pub was-accepted : Accepted (view_at image w q.sandbox) q
  unfolding number_at
  was-accepted = accepted _ q n

  pub was-sound : soundb image w ≡ true
  was-sound = was-accepted.sound

-- a request that takes a frame
pub record Taking (image : List ℕ) (w : World) (q : Request) : Type 0 where
  pub number : number_at image w q ≡ 0
  pub writes : q.code ≡ write_code
  pub bare : eqb (entry w.store (front_of q.sandbox (page_of q))) 0 ≡ true

pub taking : (image : List ℕ) (w : World) (q : Request) → takes image w q ≡ true → Taking image w q
unfolding takes
taking image w q t =
    let first = and_both (eqb (number_at image w q) 0) _ t in
    let rest = and_both (q is write_code) _ first.1 in
    record { number = eqb-true _ 0 first.0; writes = eqb-true q.code write_code rest.0; bare = rest.1 }

not-not : (t : Bool) → not (not t) ≡ true → t ≡ true
not-not true e = refl
not-not false e = e

-- only a write that takes a frame gives one up
pub gives-takes : (image : List ℕ) (w : World) (q : Request) → gives image w q ≡ true → takes image w q ≡ true
unfolding gives gives_at takes
gives-takes image w q y =
    let a = and_both (eqb (number_at image w q) 0) _ y in
    let b = and_both (q is write_code) _ a.1 in
    let c = and_both (not (not (eqb (entry w.store (front_of q.sandbox (page_of q))) 0))) _ b.1 in
    and-of a.0 (and-of b.0 (not-not (eqb (entry w.store (front_of q.sandbox (page_of q))) 0) c.0))

module _ (image : List ℕ) (w : World) (q : Request) (o : Outcome) (s : Stepped image w q o) where
  pub number_is : o.answer.number ≡ number_at image w q
  unfolding step
  number_is = ap (λ (x : Outcome). x.answer.number) s.equals

  pub refused-leaves : eqb (number_at image w q) 0 ≡ false → (o.answer.value ≡ 0) × (o.world ≡ w)
  unfolding step
  refused-leaves e = rw (s.equals, e) (refl, refl)

  module _ (n : number_at image w q ≡ 0) where
    pub accepted-leaves : o.world ≡ world_after image s.frame s.given w q
    unfolding step
    accepted-leaves = rw (s.equals, n)

    -- the frame that a write takes is one of the pool, which no entry names, and no run keeps once the write has given up what it must
    module _ (row : q.sandbox < 4) (S : Spare 256 (frames_of w) w.store (rows_of w)) (few : frames_of w ≤ 128) where
      pub gave-up : gives_at q (sandbox_at w q.sandbox) w.store ≡ true → OfLongest w q.sandbox s.given
      unfolding gives
      gave-up z = s.chosen.gave (rw (n, z))

      pub frame-free : (q is write_code) ≡ true → eqb (entry w.store (front_of q.sandbox (page_of q))) 0 ≡ true
          → (s.frame < frames_of w)
          × ((held w.store.marks s.frame ≡ 0)
          × (Free w s.frame ⊎ ((gives_at q (sandbox_at w q.sandbox) w.store ≡ true) × (s.frame ≡ s.given))))
      unfolding takes gives
      frame-free e z =
          ⊎_elim
          (λ f. (f.of_pool, (f.unnamed, inl f)))
          (λ x. let gave : gives_at q (sandbox_at w q.sandbox) w.store ≡ true = rw n at x.0 in
          let l = gave-up gave in
          let c : ℕ = longest_of (sandbox_at w q.sandbox) in
          let place : c < run_places = longest-low (lengths_of (sandbox_at w q.sandbox).runs) in
          let one = run-kept (rows_of w) q.sandbox c s.given row place in
          let pool : s.given < frames_of w =
          ⊎_elim (λ y. y) (λ y. absurd (omega (arith, one, l.kept, S.of_pool s.given y l.low))) (lt-or-ge s.given (frames_of w)) in
          let idle : held w.store.marks s.given ≡ 0 = omega (arith, one, l.kept, S.once s.given l.low) in
          (rw x.1 pool, (rw x.1 idle, inr (gave, x.1))))
          (s.chosen.free (rw (n, e, z)))
