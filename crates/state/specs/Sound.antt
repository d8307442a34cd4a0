-- A sound state: "A state is sound if", each condition a field, in the order of document 01.
use Rattle.std.specs.Prelude.{◌≡◌, false, List, ℕ, ◌+◌, ◌*◌, ◌≤◌, ◌<◌, length}
use Rattle.interface.specs.Slots.{is_mapped}
use Rattle.interface.specs.Numbers.{pages_in}
use Rattle.marks.specs.Named.{used_below}
use Rattle.marks.specs.Marks.{from}
use Rattle.table.specs.Store.{Store, entry, front_of, back_of, Filed}
use Rattle.runs.specs.Row.{row, no_runs}
use Rattle.kept.specs.Spare.{kept_by, Spare, Words}
use Rattle.areas.specs.Areas.{slots}
use Rattle.records.specs.Sound.{SoundRecord}
use Rattle.state.specs.declared.sandbox.Sandbox.{Sandbox}
use Rattle.state.specs.World.{World, sandbox_at, shares_of, frames_of, rows_of}

-- of sandbox s, over an image of so many pages
pub record SoundAt (images : ℕ) (st : Store) (s : ℕ) (b : Sandbox) : Type 0 where
  -- areas, the snapshot's too, charge and share
  pub rec : SoundRecord images b.rec
  -- "fronts stand on mapped pages only, backs on snapshot pages only"
  pub fronts : (i : ℕ) → i < 64 → is_mapped (slots b.rec.present i) ≡ false → entry st (front_of s i) ≡ 0
  pub backs : (i : ℕ) → i < 64 → is_mapped (slots b.rec.snapshot i) ≡ false → entry st (back_of s i) ≡ 0
  -- kept frames "with fronts and backs stay within the share" (A3); "At most 8 runs are kept"
  pub in_share : used_below (from (s * 128) st.table) 128 + kept_by (row b.runs) ≤ b.rec.share
  pub places : length b.runs.list ≡ 8
  -- "a closed one has nothing": it keeps no run either
  pub closed : b.rec.opened ≡ false → b.runs ≡ no_runs

pub record Sound (image : List ℕ) (w : World) : Type 0 where
  -- the lent lengths
  pub frames : 1 ≤ frames_of w
  pub whole : length image ≡ pages_in (length image) * 256
  pub images : pages_in (length image) ≤ 64
  pub row : length w.sandboxes ≡ 4
  -- "entries name frames of the pool, no frame twice; the held marks are those frames", and the pool's and table's lengths
  pub filed : Filed 256 (frames_of w) w.store
  pub each : (s : ℕ) → s < 4 → SoundAt (pages_in (length image)) w.store s (sandbox_at w s)
  -- "Kept frames are held and zero, belong to one run and no entry" (A3)
  pub spare : Spare 256 (frames_of w) w.store (rows_of w)
  pub words : (s : ℕ) → s < 4 → Words (rows_of w s)
  -- "the shares together never exceed the pool"
  pub pooled : shares_of w ≤ frames_of w
