-- The frames that a write gives up and takes, and those that a map takes: a state that is asked has them.
use Prim.Native.Nat.{ℕ, ◌+◌, ◌*◌, ◌≤◌, ◌<◌}
use mathlib.Core.Path.{◌≡◌, sym, ◌∙◌}
use mathlib.Core.Logic.{⊎_elim, inl, inr}
use mathlib.Core.Bool.{Bool, true}
use mathlib.Core.List.{List}
use native.Mathlib.Omega.{arith}
use lib.Dec.{ltb}
use borrow.Author.Tests.{ltb-true, ltb-false}
use Rattle.basics.proofs.TestLaws.{by_cases}
use Rattle.interface.specs.declared.request.Request.{Request}
use Rattle.interface.specs.Requests.{◌is◌, map_code, write_code}
use Rattle.run_choice.proofs.RunLaws.{run-low, granted-run, longest-low}
use Rattle.interface.specs.Outcome.{first_of}
use Rattle.frames.specs.Frames.{held, mark}
use Rattle.frames.proofs.FrameLaws.{held-mark-same, held-mark-other}
use Rattle.pages.specs.Parts.{frame, zeros}
use Rattle.marks.specs.Named.{used_below}
use Rattle.marks.specs.Marks.{from}
use Rattle.marks.proofs.NamedLaws.{same_or}
use Rattle.table.specs.Store.{front_of}
use Rattle.runs.specs.Row.{row, lengths_of, InLongest}
use Rattle.kept.specs.Spare.{kept_at, kept_by, adopt_to, grant_to}
use Rattle.kept.specs.Test.{kept_to}
use Rattle.kept.proofs.SpareLaws.{run-kept}
use Rattle.kept.proofs.AdoptLaws.{adopted}
use Rattle.areas.specs.Areas.{slots}
use Rattle.state.specs.declared.sandbox.Sandbox.{Sandbox}
use Rattle.state.specs.World.{World, frames_of, rows_of}
use Rattle.reuse.specs.declared.Given.{Given}
use Rattle.reuse.specs.Reuse.{GaveUp}
use Rattle.memory.specs.Memory.{Unheld, gives_at, place_for, frames_for, longest_of}
use Rattle.memory.specs.Parts.{own_sandbox, own_front, Asked, Takes}

module _ (image : List ℕ) (q : Request) (w : World) (A : Asked image q w) where
  abbrev own : Sandbox
  own = own_sandbox q w

  abbrev frames : ℕ
  frames = frames_of w

  -- a frame of a run is one of the pool and of no entry
  pub longest-frame : (given : ℕ) → InLongest own.runs given → (given < frames) × (held w.store.marks given ≡ 0)
  longest-frame given o =
      let kept = run-kept (rows_of w) q.sandbox (longest_of own) given A.row (longest-low (lengths_of own.runs)) in
      let once = A.spare.once given o.low in (
        by_cases (ltb given frames) (λ t. ltb-true given frames t)
            (λ t. absurd (omega (arith, A.spare.of_pool given (ltb-false given frames t) o.low, kept, o.kept))),
        omega (arith, kept, once, o.kept),
      )

  -- the frame that a write takes is one of the pool, and no entry names it
  pub takes-free : (f given : ℕ) → Takes q w f given → (gives_at q own w.store ≡ true → InLongest own.runs given)
      → (f < frames) × (held w.store.marks f ≡ 0)
  takes-free f given t gave =
      ⊎_elim (λ u. (u.of_pool, u.unnamed)) (λ g. rw g.1 (longest-frame given (gave g.0))) t

  module _ (e : q.code ≡ write_code) (z : own_front q w.store ≡ 0) where
    abbrev pub gives : Bool
    gives = ltb own.rec.share (used_below (from (q.sandbox * 128) w.store.table) 128 + kept_by (row own.runs) + 1)

    -- whether a write without a front gives a frame up
    pub gives-is : gives_at q own w.store ≡ gives
    unfolding gives_at
    gives-is = rw (e, z)

    module _ (r : Given) (g : GaveUp gives own.runs (kept_to (rows_of w) 4).held r) where
      -- there is a frame that no entry names and no run keeps then
      pub frame-there : (f : ℕ) × ((f < frames) × ((held w.store.marks f ≡ 0) × (held r.kept f ≡ 0)))
      frame-there =
          by_cases gives
          (λ t. let o = g.gave t in
          let free = longest-frame g.given o in
          let gone : r.kept ≡ mark (kept_to (rows_of w) 4).held g.given 0 = g.marks ∙ rw t in
          (g.given, (free.0, (free.1, rw gone (held-mark-same (kept_to (rows_of w) 4).held g.given 0 (omega arith))))))
          (λ t. let there = A.room e z (omega (arith, ltb-false own.rec.share _ t)) in
          let low : there.0 < 128 = omega (arith, there.1.of_pool, A.filed.few) in
          let same : r.kept ≡ (kept_to (rows_of w) 4).held = g.marks ∙ rw t in
          (there.0, (there.1.of_pool, (there.1.unnamed, rw same (A.found there.0 low ∙ there.1.unkept)))))

      -- "it was unheld, or was given up by this very call"
      pub takes_of : (f : ℕ) → f < frames → held w.store.marks f ≡ 0 → held r.kept f ≡ 0 → Takes q w f g.given
      takes_of f l u k =
          let low : f < 128 = omega (arith, l, A.filed.few) in
          let unheld : held (kept_to (rows_of w) 4).held f ≡ 0 → Unheld w f =
          λ h. record { of_pool = l; unnamed = u; unkept = sym (A.found f low) ∙ h } in
          by_cases gives
          (λ t. let gone : r.kept ≡ mark (kept_to (rows_of w) 4).held g.given 0 = g.marks ∙ rw t in
          ⊎_elim (λ same. inr (gives-is ∙ t, same))
          (λ other. inl (unheld (sym (held-mark-other (kept_to (rows_of w) 4).held g.given 0 f (omega arith) other) ∙ rw gone at k))) (same_or f g.given))
          (λ t. let same : r.kept ≡ (kept_to (rows_of w) 4).held = g.marks ∙ rw t in inl (unheld (rw same at k)))

  -- ---- a map takes zero frames, so no byte need change
  pub adopts : q.code ≡ map_code
      → adopt_to (front_of q.sandbox (first_of (slots own.rec.present) q)) (row own.runs (place_for q own)) w.store (frames_for q own)
      ≡ grant_to 256 (front_of q.sandbox (first_of (slots own.rec.present) q)) (row own.runs (place_for q own)) w.store (frames_for q own)
  adopts e =
      let c : ℕ = place_for q own in
      let mine : (f : ℕ) → f < 128 → held (row own.runs c) f ≡ 1 → (f < frames) × (frame 256 w.store.pool f ≡ zeros 256) =
      λ f l h.
      let kept : 1 ≤ kept_at (rows_of w) f = omega (arith, h, run-kept (rows_of w) q.sandbox c f A.row (run-low q.p2 (lengths_of own.runs))) in
      let low : f < frames = by_cases (ltb f frames) (λ t. ltb-true f frames t)
      (λ t. absurd (omega (arith, A.spare.of_pool f (ltb-false f frames t) l, kept))) in
      (low, A.spare.blank f low kept) in
      (adopted 256 frames (front_of q.sandbox (first_of (slots own.rec.present) q)) (row own.runs c) w.store (omega arith) A.filed.pages mine
      (frames_for q own) (granted-run q.p2 (lengths_of own.runs))).0
