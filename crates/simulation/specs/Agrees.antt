-- How the machine's world and the plain machine belong together: what the proofs carry along a list.
use Rattle.std.specs.Prelude.{◌≡◌, Bool, false, List, ℕ, ◌<◌, length}
use Rattle.std.proofs.Math.Option.{Option, some, none}
use Rattle.basics.specs.Choice.{◌when◌else◌}
use Rattle.interface.specs.Slots.{copied}
use Rattle.interface.specs.Refusals.{is_taken}
use Rattle.interface.specs.Numbers.{pages_in}
use Rattle.pages.specs.Parts.{listed}
use Rattle.table.specs.Store.{Store, front_of, back_of, contents, Tidy}
use Rattle.runs.specs.Row.{lengths_of}
use Rattle.kept.specs.Spare.{Spare, Words}
use Rattle.areas.specs.Areas.{slots, empty}
use Rattle.areas.specs.Formed.{WellFormed}
use Rattle.state.specs.declared.sandbox.Sandbox.{Sandbox}
use Rattle.state.specs.World.{World, sandbox_at, closed_sandbox, rows_of}
use Rattle.plain.specs.Machine.{Given, Kept, Plain, copy_slots, copy_bytes}
use Rattle.plain_claims.specs.Claims.{Holds, Reads}

-- a page with these bytes, where it is marked
abbrev pub page_if : Bool → (ℕ → ℕ) → Option (List ℕ)
page_if mark bytes = some (listed 256 bytes) when mark else none

-- of sandbox s
pub record AgreesAt (g : Given) (st : Store) (s : ℕ) (b : Sandbox) (k : Kept) : Type 0 where
  pub opened : b.rec.opened ≡ k.core.opened
  pub share : b.rec.share ≡ k.core.share
  pub formed : WellFormed (pages_in (length g.image)) b.rec.present
  pub present : slots b.rec.present ≡ k.core.pages.slots
  pub formed_copy : WellFormed (pages_in (length g.image)) b.rec.snapshot
  pub taken : b.rec.taken ≡ is_taken k.core.copy
  pub copy : slots b.rec.snapshot ≡ copied (copy_slots k.core)
  pub untaken : b.rec.taken ≡ false → b.rec.snapshot ≡ empty
  pub closed : b.rec.opened ≡ false → b ≡ closed_sandbox
  -- the runs have the lengths that the plain machine carries
  pub places : length b.runs.list ≡ 8
  pub runs : (i : ℕ) → i < 8 → lengths_of b.runs i ≡ k.traces.runs i
  -- marks are entries, and fronts and backs hold the page's and the copy's bytes
  pub fronts : (i : ℕ) → i < 64 → contents 256 st (front_of s i) ≡ page_if (k.traces.front i) (k.core.pages.bytes i)
  pub backs : (i : ℕ) → i < 64 → contents 256 st (back_of s i) ≡ page_if (k.traces.back i) (copy_bytes k.core.copy i)

-- C says which unheld frames are asked to be zero, as in `Tidy`
pub record Agrees (C : ℕ → Type 0) (g : Given) (w : World) (p : Plain) : Type 0 where
  pub tidy : Tidy C 256 g.frames w.store
  pub row : length w.sandboxes ≡ 4
  -- kept frames are zero, and in one run and no entry
  pub spare : Spare 256 g.frames w.store (rows_of w)
  pub words : (s : ℕ) → s < 4 → Words (rows_of w s)
  pub each : (s : ℕ) → s < 4 → AgreesAt g w.store s (sandbox_at w s) (p s)
  pub holds : Holds g p
  pub reads : (s : ℕ) → Reads g (p s)
