-- The test of a sandbox, by each of its ways out.
use Prim.Native.Nat.{ℕ}
use mathlib.Core.Path.{◌≡◌, ◌∙◌}
use mathlib.Core.Bool.{Bool, true, false, ◌&&◌}
use Rattle.table.specs.Store.{Store}
use Rattle.record_soundness.specs.Test.{record_ok}
use Rattle.page_test.specs.Pages.{pages_ok}
use Rattle.run_soundness.specs.Test.{runs_ok}
use Rattle.state.specs.declared.sandbox.Sandbox.{Sandbox}
use Rattle.soundness.specs.Test.{sandbox_ok}

-- its record and its pages
pub sandbox-tested : (images : ℕ) (st : Store) (s : ℕ) (b : Sandbox) (r : Bool)
    → r ≡ (record_ok images b.rec && pages_ok st s b.rec.present b.rec.snapshot) → r ≡ sandbox_ok images st s b
unfolding sandbox_ok
sandbox-tested images st s b r is = is

-- a sandbox and its runs, by the code's ways out: b is what the array gives, d what the world has
module _ (images : ℕ) (st : Store) (s : ℕ) (b d : Sandbox) (same : b ≡ d) (r : Bool) (is : r ≡ sandbox_ok images st s b) where
  pub sandbox-stops : r ≡ false → (sandbox_ok images st s d && runs_ok st s d.rec.opened d.rec.share d.runs) ≡ false
  sandbox-stops e = rw (← same, ← is, e)

  pub runs-decide : r ≡ true → (q : Bool) → q ≡ runs_ok st s b.rec.opened b.rec.share b.runs
      → q ≡ (sandbox_ok images st s d && runs_ok st s d.rec.opened d.rec.share d.runs)
  runs-decide e q t = t ∙ rw (← same, ← is, e)
