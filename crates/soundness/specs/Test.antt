-- The test of a sound state, as the code computes it. (proofs/TestLaws: it is true exactly of the sound states.)
use Rattle.std.specs.Prelude.{◌≡◌, Bool, ◌&&◌, List, ℕ, ◌<◌, leb, length}
use Rattle.basics.specs.Ranges.{every}
use Rattle.interface.specs.Numbers.{pages_in}
use Rattle.marks.specs.Marks.{marksb}
use Rattle.table.specs.Store.{Store}
use Rattle.kept.specs.Spare.{Words}
use Rattle.kept.specs.Test.{spareb}
use Rattle.record_soundness.specs.Test.{record_ok}
use Rattle.page_test.specs.Pages.{pages_ok}
use Rattle.run_soundness.specs.Test.{runs_ok}
use Rattle.state.specs.declared.sandbox.Sandbox.{Sandbox}
use Rattle.state.specs.World.{World, sandbox_at, record_at, shares_of, frames_of, lengths_ok, rows_of}

-- what the types of the state say, and no test need
pub record Typed (w : World) : Type 0 where
  pub row : length w.sandboxes ≡ 4
  pub words : (s : ℕ) → s < 4 → Words (rows_of w s)

-- its record, then its pages
unfoldable pub sandbox_ok : ℕ → Store → ℕ → Sandbox → Bool
sandbox_ok images st s b = record_ok images b.rec && pages_ok st s b.rec.present b.rec.snapshot

unfoldable pub sandboxes_ok : ℕ → World → Bool
sandboxes_ok images w = every (λ s. sandbox_ok images w.store s (sandbox_at w s)) 0 4

-- of the runs of every sandbox, and of the kept frames
abbrev pub runs_ok_at : World → ℕ → Bool
runs_ok_at w s = runs_ok w.store s (record_at w s).opened (record_at w s).share (sandbox_at w s).runs

unfoldable pub kept_ok : World → Bool
kept_ok w = every (runs_ok_at w) 0 4 && spareb (frames_of w) w.store (rows_of w)

unfoldable pub soundb : List ℕ → World → Bool
soundb image w =
    lengths_ok (length w.store.pool) (length w.store.table) (length image)
    && (marksb (frames_of w) w.store.marks w.store.table
    && (sandboxes_ok (pages_in (length image)) w
    && (kept_ok w && leb (shares_of w) (frames_of w))))
