-- Request A2, "Unmapping over gaps", of the machine that runs: of any sound state, and so after every list (demand 3: the state is sound).
use Rattle.std.specs.Prelude.{◌≡◌, true, false, ◌&&◌, List, ℕ, eqb}
use Rattle.basics.specs.Choice.{◌when◌else◌}
use Rattle.basics.specs.Ranges.{inside}
use Rattle.interface.specs.declared.request.Request.{Request}
use Rattle.interface.specs.Answers.{Answered}
use Rattle.interface.specs.Slots.{Slots, is_mapped, areas, all_are}
use Rattle.interface.specs.Examples.{ok, refused}
use Rattle.gaps.specs.Gaps.{Unmaps, is_hole, mapped_alone, all_ok}
use Rattle.areas.specs.Areas.{slots}
use Rattle.state.specs.World.{World, record_at}
use Rattle.state.specs.Sound.{Sound}
use Rattle.step.specs.Step.{view_at, Outcome, Stepped}
use Rattle.claims.specs.Demands.{Run}

-- the pages of the sandbox that a request names
abbrev pub pages_of : World → Request → Slots
pages_of w q = slots (record_at w q.sandbox).present

-- from the world w, the unmap q has the outcome o
pub record OverGaps (image : List ℕ) (w : World) (q : Request) (o : Outcome) : Type 0 where
  -- "Refusal 9 remains for protect, read and write", and "more than 8 areas would result" of an unmap that is a hole in one of eight areas alone
  pub answered : o.answer ≡ (refused 14 when eqb (areas (pages_of w q)) 8 && is_hole (pages_of w q) q.p1 q.p2 else ok 0)
  -- so it is not refused where its range has an unmapped page
  pub gap : (i : ℕ) → inside q.p1 q.p2 i ≡ true → is_mapped (pages_of w q i) ≡ false → o.answer ≡ ok 0
  -- "a range with none mapped is accepted and changes nothing": state, pool and table
  pub nothing : all_are false (pages_of w q) q.p1 q.p2 ≡ true → (o.answer ≡ ok 0) × (o.world ≡ w)
  -- "Unmap now passes over unmapped pages": where it is accepted, so are the unmaps of its mapped pages alone, and they leave the same state, pool and table,
  -- in this run of them and in every other
  pub alone : o.answer.number ≡ 0 → Run image w (mapped_alone q (pages_of w q)) (all_ok (mapped_alone q (pages_of w q))) o.world
  pub only : o.answer.number ≡ 0 → (as' : List Answered) (v : World) → Run image w (mapped_alone q (pages_of w q)) as' v
      → (as' ≡ all_ok (mapped_alone q (pages_of w q))) × (v ≡ o.world)

-- of every unmap within its limits, of an open sandbox
abbrev pub PassesOverGaps : List ℕ → Type 0
PassesOverGaps image =
    (w : World) (q : Request) (o : Outcome) → Sound image w → Unmaps (view_at image w q.sandbox) q → Stepped image w q o → OverGaps image w q o
