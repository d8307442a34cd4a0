-- The writes of a roll, page by page.
use Rattle.std.specs.Prelude.{ℕ, ◌*◌, ◌≤◌, ◌<◌, List, length}
use Rattle.interface.specs.declared.request.Request.{Request}
use Rattle.interface.specs.Slots.{backing_at}
use Rattle.table.specs.Store.{Ranged}
use Rattle.table.specs.Backing.{backing_end}
use Rattle.areas.specs.Areas.{slots, Near}
use Rattle.archive.specs.Archive.{joined}
use Rattle.page_writes.specs.PageLines.{page_lines}
use Rattle.segments.specs.declared.Snapshot.{Snapshot}

-- of all pages
abbrev pub writes_at : List ℕ → List ℕ → List ℕ → Snapshot → ℕ → List Request
writes_at image pool table b i = page_lines image pool table b.sandbox i (slots b.areas i)

abbrev pub writes_of : List ℕ → List ℕ → List ℕ → Snapshot → List Request
writes_of image pool table b = joined (writes_at image pool table b) 64

-- what a snapshot's bytes are read from: its sandbox is one of the row, its entries name frames of the pool, its image pages are there
pub record Readable (image pool table : List ℕ) (b : Snapshot) : Type 0 where
  pub row : b.sandbox < 4
  pub near : Near b.areas.list
  pub ranged : Ranged 256 pool table
  pub backed : (i : ℕ) → backing_end (backing_at (slots b.areas i)) * 256 ≤ length image
