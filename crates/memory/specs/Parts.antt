-- What the functions over lent memory ask and ensure.
use Rattle.std.specs.Prelude.{◌≡◌, ◌⊎◌, true, ◌&&◌, List, ℕ, ◌+◌, ◌*◌, ◌≤◌, ◌<◌, eqb, length}
use Rattle.interface.specs.declared.request.Request.{Request}
use Rattle.interface.specs.Requests.{◌is◌, map_code, write_code, page_of}
use Rattle.interface.specs.Outcome.{first_of}
use Rattle.interface.specs.Numbers.{sandbox_count, page_count, page_bytes, most_frames, sandbox_entries, pages_in}
use Rattle.frames.specs.Frames.{held}
use Rattle.marks.specs.Named.{used_below}
use Rattle.marks.specs.Marks.{from}
use Rattle.table.specs.Store.{Store, entry, front_of, Filed}
use Rattle.runs.specs.declared.Runs.{Runs}
use Rattle.runs.specs.Row.{row, InLongest}
use Rattle.kept.specs.Spare.{kept_at, Spare}
use Rattle.kept.specs.Test.{kept_to}
use Rattle.areas.specs.Areas.{slots}
use Rattle.state.specs.declared.sandbox.Sandbox.{Sandbox}
use Rattle.state.specs.World.{World, sandbox_in, sandbox_at, frames_of, rows_of}
use Rattle.totals.specs.declared.together.Together.{Together}
use Rattle.rules.specs.Ready.{Fit, Ready}
use Rattle.memory.specs.Memory.{Unheld, holds_in, gives_at, runs_after, touched, store_after}

-- the sandbox that a request names
abbrev pub own_sandbox : Request → World → Sandbox
own_sandbox q w = sandbox_at w q.sandbox

-- the front entry of the page that a write names
abbrev pub own_front : Request → Store → ℕ
own_front q st = entry st (front_of q.sandbox (page_of q))

-- what a part of an accepted call asks: a request within its limits for one of the four sandboxes, well formed areas, a store whose marks are those of its
-- entries, and kept frames that are zero, each of one run and of no entry
pub record Asked (image : List ℕ) (q : Request) (w : World) : Type 0 where
  pub row : q.sandbox < sandbox_count
  pub fit : Fit q
  pub ready : Ready (pages_in (length image)) (own_sandbox q w).rec
  pub filed : Filed page_bytes (frames_of w) w.store
  pub spare : Spare page_bytes (frames_of w) w.store (rows_of w)
  -- the marks of all runs together, as a pass over them finds them
  pub found : (f : ℕ) → f < most_frames → held (kept_to (rows_of w) sandbox_count).held f ≡ kept_at (rows_of w) f
  -- a map lies within the 64 pages
  pub mapped : q.code ≡ map_code → first_of (slots (own_sandbox q w).rec.present) q + q.p2 ≤ page_count
  -- a written page is mapped: without a front of its own, fronts and backs leave room for one more within the share,
  pub fits : q.code ≡ write_code → own_front q w.store ≡ 0
      → used_below (from (q.sandbox * sandbox_entries) w.store.table) sandbox_entries < (own_sandbox q w).rec.share
  -- and where kept frames leave room too, a frame is not held
  pub room : q.code ≡ write_code → own_front q w.store ≡ 0 → holds_in w.store q.sandbox (own_sandbox q w) < (own_sandbox q w).rec.share
      → (f : ℕ) × Unheld w f

-- What is handed over of a row of sandboxes to a call on one of them: the sandbox that the request names, and for a write the marks of all kept frames.
pub record Handed (q : Request) (b : Sandbox) (all : Together) (sandboxes : List Sandbox) : Type 0 where
  pub own : b ≡ sandbox_in sandboxes q.sandbox
  pub kept : q.code ≡ write_code → all.kept ≡ (kept_to (λ s. row (sandbox_in sandboxes s).runs) sandbox_count).held

-- a row of sandboxes of which this is handed over, and which over this store is as the parts of an accepted call ask
abbrev pub AskedOf : List ℕ → Request → Sandbox → Together → Store → List Sandbox → Type 0
AskedOf image q b all st sandboxes = Handed q b all sandboxes × Asked image q (record { sandboxes = sandboxes; store = st })

-- there is such a row
abbrev pub SomeRow : List ℕ → Request → Sandbox → Together → Store → Type 0
SomeRow image q b all st = (sandboxes : List Sandbox) × AskedOf image q b all st sandboxes

-- it is so of the world of every such row
abbrev pub OfEveryRow : List ℕ → Request → Sandbox → Together → Store → (World → Type 0) → Type 0
OfEveryRow image q b all st So = (sandboxes : List Sandbox) → AskedOf image q b all st sandboxes → So (record { sandboxes = sandboxes; store = st })

-- the frame that a write takes "was unheld, or was given up by this very call"
abbrev pub Takes : Request → World → ℕ → ℕ → Type 0
Takes q w frame given = Unheld w frame ⊎ ((gives_at q (own_sandbox q w) w.store ≡ true) × (frame ≡ given))

-- "Which unheld frame is taken is open"; "which one is open": this is so, with the frame that a write took and the one that it gave up, where it did
pub record WithFrames (q : Request) (w : World) (So : ℕ → ℕ → Type 0) : Type 0 where
  pub frame : ℕ
  pub given : ℕ
  pub gave : gives_at q (own_sandbox q w) w.store ≡ true → InLongest (own_sandbox q w).runs given
  pub takes : (q is write_code && eqb (own_front q w.store) 0) ≡ true → Takes q w frame given
  pub so : So frame given

-- the store and the runs after a request that takes no frame and gives none up
abbrev pub LeftBy : List ℕ → Request → Sandbox → Store → Store → Runs → Type 0
LeftBy image q b st after left = (after ≡ store_after image 0 q b st) × (left ≡ runs_after 0 q b st)

-- the store and the runs after an accepted request
abbrev pub StoreStepped : List ℕ → Request → World → Store → Runs → Type 0
StoreStepped image q w after left = WithFrames q w (λ frame given.
    (after ≡ store_after image frame q (own_sandbox q w) w.store) × (left ≡ runs_after given q (own_sandbox q w) w.store))

-- a write before its byte is stored: a page without a front took a frame, filled with what the page reads; one with a front is as it was
abbrev pub TouchStepped : List ℕ → Request → World → Store → Runs → Type 0
TouchStepped image q w after left = WithFrames q w (λ frame given.
    (after ≡ touched image frame (own_sandbox q w).rec q.sandbox (page_of q) w.store) × (left ≡ runs_after given q (own_sandbox q w) w.store))
