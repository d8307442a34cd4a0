-- The world of the machine: four sandboxes, and the store made of held marks, lent pool and lent table.
use Rattle.std.specs.Prelude.{Bool, ◌&&◌, List, ℕ, ◌/◌, ◌%◌, eqb, length, get_or, set, replicate}
use Rattle.basics.specs.Ranges.{sum}
use Rattle.interface.specs.Numbers.{sandbox_count, page_bytes, most_frames, most_image_pages, table_entries, pages_in}
use Rattle.interface.specs.Limits.{between}
use Rattle.frames.specs.declared.Held.{Held}
use Rattle.frames.specs.Frames.{none_held}
use Rattle.runs.specs.declared.Runs.{Runs}
use Rattle.runs.specs.Row.{row, no_runs}
use Rattle.table.specs.Store.{Store, kept, fresh}
use Rattle.records.specs.declared.Record.{Record}
use Rattle.records.specs.Record.{closed_record}
use Rattle.state.specs.declared.sandbox.Sandbox.{Sandbox}
use Rattle.state.specs.declared.sandbox.Machine.{Machine}

pub record World : Type 0 where
  pub sandboxes : List Sandbox
  pub store : Store

-- the world of a state, a pool and a table
abbrev pub world_of : Machine → List ℕ → List ℕ → World
world_of m pool table = record { sandboxes = m.sandboxes; store = kept m.held pool table }

-- a closed sandbox has nothing
abbrev pub closed_sandbox : Sandbox
closed_sandbox = record { rec = closed_record; runs = no_runs }

-- "A fresh state has four closed sandboxes and no held frame"
abbrev pub fresh_machine : Machine
fresh_machine = record { sandboxes = replicate sandbox_count closed_sandbox; held = none_held }

-- the world that a start leaves over a pool of this many frames: "starting clears pool and table"
abbrev pub started : ℕ → World
started frames = record { sandboxes = replicate sandbox_count closed_sandbox; store = fresh page_bytes frames }

-- sandbox s of a row; past it, a closed one
abbrev pub sandbox_in : List Sandbox → ℕ → Sandbox
sandbox_in row s = get_or row s closed_sandbox

-- sandbox s
abbrev pub sandbox_at : World → ℕ → Sandbox
sandbox_at w s = sandbox_in w.sandboxes s

-- its record
abbrev pub record_at : World → ℕ → Record
record_at w s = (sandbox_at w s).rec

-- a sandbox with other runs
abbrev pub with_runs : Runs → Sandbox → Sandbox
with_runs x b = record { rec = b.rec; runs = x }

-- the runs of kept frames of each sandbox, by their places
abbrev pub rows_of : World → ℕ → ℕ → Held
rows_of w s = row (sandbox_at w s).runs

-- a world with another sandbox in the place of s
abbrev pub with_sandbox : ℕ → Sandbox → World → World
with_sandbox s b w = record { sandboxes = set w.sandboxes s b; store = w.store }

-- frames of the pool
abbrev pub frames_of : World → ℕ
frames_of w = pages_in (length w.store.pool)

-- "the shares together"
abbrev pub shares_in : List Sandbox → ℕ
shares_in row = sum (λ s. (sandbox_in row s).rec.share) sandbox_count

abbrev pub shares_of : World → ℕ
shares_of w = shares_in w.sandboxes

-- so many bytes are whole pages, at least low and at most high of them
abbrev pub whole_pages : ℕ → ℕ → ℕ → Bool
whole_pages low high bytes = eqb (bytes % page_bytes) 0 && between low high (bytes / page_bytes)

-- "The pool is 1 to 128 frames of 256 bytes. The image, read only, is 0 to 64 pages of 256 bytes. The page table is 512 16-bit numbers"
abbrev pub lengths_ok : ℕ → ℕ → ℕ → Bool
lengths_ok pool table image = whole_pages 1 most_frames pool && (eqb table table_entries && whole_pages 0 most_image_pages image)
