-- What an accepted call touches: "Every other call .. touches only the memory named for it." Of any world in which the call is accepted, and of the
-- sandbox that it names as of the others.
use Rattle.std.specs.Prelude.{◌≡◌, ◌⊎◌, Bool, true, false, not, ◌&&◌, ◌||◌, List, ℕ, suc, ◌+◌, ◌*◌, ◌≤◌, ◌<◌, eqb, ltb, length, set}
use Rattle.basics.specs.Choice.{◌when◌else◌}
use Rattle.basics.specs.Ranges.{inside}
use Rattle.basics.specs.Rows.{in_place}
use Rattle.interface.specs.declared.request.Request.{Request}
use Rattle.interface.specs.Requests.{◌is◌, open_code, map_code, unmap_code, protect_code, read_code, write_code, snapshot_code, rewind_code, report_code, compare_code, page_of, offset_of}
use Rattle.interface.specs.Outcome.{first_of}
use Rattle.run_choice.specs.Runs.{is_spared, takes_run}
use Rattle.frames.specs.declared.Held.{Held}
use Rattle.frames.specs.Frames.{held, mark, least_held}
use Rattle.pages.specs.Parts.{frame, set_frame}
use Rattle.table.specs.Store.{kept, entry, front_of, back_of}
use Rattle.runs.specs.Row.{row, with_run_at}
use Rattle.kept.specs.Spare.{kept_in, kept_at, left_of}
use Rattle.areas.specs.Areas.{slots}
use Rattle.state.specs.declared.sandbox.Sandbox.{Sandbox}
use Rattle.state.specs.World.{World, sandbox_at, record_at, with_runs, frames_of, rows_of}
use Rattle.content.specs.Content.{page_read}
use Rattle.memory.specs.Memory.{place_for, frames_for, longest_of}
use Rattle.step.specs.Step.{takes, gives, OfLongest, Outcome}

-- ---- the memory that a request names

-- of a map that takes a run: the run, the first of its pages, and the frame that its page j gets, "smallest frame number first"
abbrev pub run_taken : Sandbox → Request → Held
run_taken b q = row b.runs (place_for q b)

abbrev pub first_page : Sandbox → Request → ℕ
first_page b q = first_of (slots b.rec.present) q

abbrev pub frame_got : Sandbox → Request → ℕ → ℕ
frame_got b q j = least_held (left_of (run_taken b q) j)

-- the pages of its sandbox b whose front entries a request names: a map that takes a run those that get its frames, an unmap its range, a write the page of its
-- address, a snapshot and a rewind all 64, any other call none
unfoldable pub names_front : Sandbox → Request → ℕ → Bool
names_front b q i =
    inside (first_page b q) (frames_for q b) i when takes_run q else
    inside q.p1 q.p2 i when q is unmap_code else
    eqb i (page_of q) when q is write_code else
    ltb i 64 when q is snapshot_code || q is rewind_code else
    false

-- and those whose back entries it names, "its front entry moves to the back": a snapshot all 64, any other call none
unfoldable pub names_back : Request → ℕ → Bool
names_back q i = ltb i 64 when q is snapshot_code else false

-- the calls that name no entry and no frame
abbrev pub names_none : Request → Bool
names_none q = q is open_code || (q is map_code && not (takes_run q) || (q is protect_code || (q is read_code || (q is report_code || q is compare_code))))

-- the calls that leave all four sandboxes as they are, but for the frame that a write gives up
abbrev pub leaves_sandboxes : Request → Bool
leaves_sandboxes q = q is read_code || (q is write_code || (q is report_code || q is compare_code))

-- frame f is named by none of these front entries, is not the frame taken, and none that a page gets from a run
pub record Untouched (image : List ℕ) (w : World) (q : Request) (taken f : ℕ) : Type 0 where
  pub unnamed : (i : ℕ) → names_front (sandbox_at w q.sandbox) q i ≡ true → entry w.store (front_of q.sandbox i) ≡ suc f → ⊥
  pub untaken : takes image w q ≡ true → f ≡ taken → ⊥
  pub ungot : takes_run q ≡ true → (j : ℕ) → j < frames_for q (sandbox_at w q.sandbox) → f ≡ frame_got (sandbox_at w q.sandbox) q j → ⊥

-- a map that takes a run of sandbox b, from the world w to the world v: "The first new pages get these frames as fronts, smallest frame number first; a surplus
-- stays kept"
pub record Grants (w : World) (q : Request) (b : Sandbox) (v : World) : Type 0 where
  -- no byte of the pool changes
  pub pool : v.store.pool ≡ w.store.pool
  -- the pages that get one
  pub fronts : (j : ℕ) → j < frames_for q b → entry v.store (front_of q.sandbox (first_page b q + j)) ≡ suc (frame_got b q j)
  -- a mark is gained where one is lost from the run, and the run loses no other frame
  pub marks : (f : ℕ) → f < 128
      → held v.store.marks f + held (left_of (run_taken b q) (frames_for q b)) f ≡ held w.store.marks f + held (run_taken b q) f
  -- the other runs stay, and this one stays in its place
  pub runs : rows_of v q.sandbox ≡ in_place (place_for q b) (left_of (run_taken b q) (frames_for q b)) (row b.runs)

-- ---- what is touched

-- from the world w to the world of the outcome o. The frame `taken` is the one that a write takes, where it takes one (`takes`); the frame `given` the one
-- that it gives up first, where it does (`gives`).
pub record Touches (image : List ℕ) (w : World) (q : Request) (o : Outcome) (taken given : ℕ) : Type 0 where
  -- open, a map that takes no run, protect, read, report and compare leave pool, table and held marks whole
  pub none : names_none q ≡ true → o.world.store ≡ w.store
  -- read, write, report and compare leave all four sandboxes as they are, a write unless it gives up a frame; so, with `none`, a read, a report and a compare
  -- change nothing at all
  pub state : leaves_sandboxes q ≡ true → gives image w q ≡ false → o.world.sandboxes ≡ w.sandboxes
  -- "one frame of the longest run is given up first": one bit of that run, and nothing else of any sandbox
  pub gave : gives image w q ≡ true
      → let b = sandbox_at w q.sandbox in
      OfLongest w q.sandbox given
      × (o.world.sandboxes
      ≡ set w.sandboxes q.sandbox (with_runs (with_run_at (longest_of b) (mark (row b.runs (longest_of b)) given 0) b.runs) b))
  -- a map that takes a run changes no byte of the pool, the entries and marks of the pages that get a front, and its run
  pub granted : takes_run q ≡ true → Grants w q (sandbox_at w q.sandbox) o.world
  -- a rewind's runs keep what they kept, or fronts of uncommitted anonymous pages
  pub gathered : q.code ≡ rewind_code → (f : ℕ) → 1 ≤ kept_in (rows_of o.world q.sandbox) f
      → (1 ≤ kept_in (rows_of w q.sandbox) f)
      ⊎ ((i : ℕ) × ((i < 64)
      × ((is_spared (slots (record_at w q.sandbox).present i) ≡ true) × (entry w.store (front_of q.sandbox i) ≡ suc f))))
  -- no other call changes a run
  pub runs : takes_run q ≡ false → (q is rewind_code) ≡ false → gives image w q ≡ false → (s : ℕ) → (sandbox_at o.world s).runs ≡ (sandbox_at w s).runs
  -- a snapshot moves entries only: no byte of the pool and no mark changes
  pub snapshot : q.code ≡ snapshot_code → (o.world.store.pool ≡ w.store.pool) × (o.world.store.marks ≡ w.store.marks)
  -- the lent lengths stay
  pub pool_length : length o.world.store.pool ≡ length w.store.pool
  pub table_length : length o.world.store.table ≡ length w.store.table
  -- no entry changes but those named: an unmap changes front entries of its range only, a write that of its page, a rewind its sandbox's
  pub entries : (k : ℕ) → ((i : ℕ) → names_front (sandbox_at w q.sandbox) q i ≡ true → k ≡ front_of q.sandbox i → ⊥)
      → ((i : ℕ) → names_back q i ≡ true → k ≡ back_of q.sandbox i → ⊥) → entry o.world.store k ≡ entry w.store k
  -- no call but snapshot changes a back entry, of any sandbox
  pub back_entries : (q is snapshot_code) ≡ false → (s i : ℕ) → s < 4 → i < 64 → entry o.world.store (back_of s i) ≡ entry w.store (back_of s i)
  -- no byte and no mark changes but of the frames that the front entries named held before the call, of the frame taken, and of those that pages get from a run
  pub bytes : (f : ℕ) → Untouched image w q taken f → frame 256 o.world.store.pool f ≡ frame 256 w.store.pool f
  pub marks : (f : ℕ) → Untouched image w q taken f → held o.world.store.marks f ≡ held w.store.marks f
  -- no call changes a byte of a back, of any sandbox
  pub backs : (s i f : ℕ) → s < 4 → i < 64 → entry w.store (back_of s i) ≡ suc f → frame 256 o.world.store.pool f ≡ frame 256 w.store.pool f
  -- nor of a frame that no entry names, kept or not, and that it does not take
  pub unheld : (f : ℕ) → held w.store.marks f ≡ 0 → (takes image w q ≡ true → f ≡ taken → ⊥)
      → frame 256 o.world.store.pool f ≡ frame 256 w.store.pool f
  -- "A write changes one byte inside one frame's 256 bytes of the pool", where its page has the front f: table and marks stay
  pub one_byte : (f : ℕ) → q.code ≡ write_code → entry w.store (front_of q.sandbox (page_of q)) ≡ suc f
      → o.world.store ≡ kept w.store.marks (set w.store.pool (f * 256 + offset_of q) q.p2) w.store.table
  -- "a page without a front first takes an unheld frame and fills it with what the page reads": one mark, one frame, one entry
  pub filled : takes image w q ≡ true
      → let reads = page_read image w.store (record_at w q.sandbox) q.sandbox (page_of q) in
      o.world.store
      ≡ kept (mark w.store.marks taken 1) (set (set_frame 256 w.store.pool taken reads) (taken * 256 + offset_of q) q.p2)
      (set w.store.table (front_of q.sandbox (page_of q)) (suc taken))
  -- "the frame a write takes: it was unheld, and its page's front entry alone names it afterwards". It is a frame of the pool that no entry named; no run
  -- kept it, or this very call gave it up ("the write may take it"); and no run keeps it afterwards.
  pub free : takes image w q ≡ true
      → (taken < frames_of w)
      × ((held w.store.marks taken ≡ 0) × ((kept_at (rows_of w) taken ≡ 0) ⊎ ((gives image w q ≡ true) × (taken ≡ given))))
  pub alone : takes image w q ≡ true
      → (entry o.world.store (front_of q.sandbox (page_of q)) ≡ suc taken)
      × (((k : ℕ) → entry o.world.store k ≡ suc taken → k ≡ front_of q.sandbox (page_of q)) × (kept_at (rows_of o.world) taken ≡ 0))
