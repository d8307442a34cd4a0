-- What an accepted request makes of the store, given the frame that a write takes if it takes one.
use Rattle.std.specs.Prelude.{◌≡◌, Bool, not, ◌&&◌, List, ℕ, ◌+◌, ◌*◌, ◌/◌, ◌<◌, eqb, length, get_or}
use Rattle.basics.specs.Choice.{◌when◌else◌}
use Rattle.interface.specs.declared.request.Request.{Request}
use Rattle.interface.specs.Requests.{◌is◌, map_code, unmap_code, read_code, write_code, snapshot_code, rewind_code, report_code, compare_code, page_of, offset_of}
use Rattle.interface.specs.Slots.{is_committed, mapped_pages}
use Rattle.interface.specs.Outcome.{first_of}
use Rattle.run_choice.specs.Runs.{takes_run, run_for, granted, longest_run, gives_up}
use Rattle.frames.specs.Frames.{held, mark, count_held}
use Rattle.marks.specs.Named.{used_below}
use Rattle.marks.specs.Marks.{marks_to, from}
use Rattle.table.specs.Store.{Store, entry, front_of, take, store_byte, free_to, move_to}
use Rattle.rewind_cases.specs.Rewind.{rewind_to}
use Rattle.runs.specs.declared.Runs.{Runs}
use Rattle.runs.specs.Row.{row, lengths_of, with_run_at, tabled}
use Rattle.kept.specs.Spare.{kept_at, kept_by, row_rewound, left_of, grant_to}
use Rattle.areas.specs.Areas.{slots}
use Rattle.records.specs.declared.Record.{Record}
use Rattle.state.specs.declared.sandbox.Sandbox.{Sandbox}
use Rattle.state.specs.World.{World, frames_of, rows_of}
use Rattle.content.specs.Content.{page_under, page_read, copy_backing, differing, changed}

-- ---- frames

-- a frame of the pool that is not held: no entry names it, and no run keeps it
pub record Unheld (w : World) (f : ℕ) : Type 0 where
  pub of_pool : f < frames_of w
  pub unnamed : held w.store.marks f ≡ 0
  pub unkept : kept_at (rows_of w) f ≡ 0

-- ---- runs of kept frames

-- how many frames sandbox s holds: fronts, backs and kept frames
abbrev pub holds_in : Store → ℕ → Sandbox → ℕ
holds_in st s b = used_below (from (s * 128) st.table) 128 + kept_by (row b.runs)

-- "When a write would bring fronts, backs and kept frames above the share, one frame of the longest run is given up first"
unfoldable pub gives_at : Request → Sandbox → Store → Bool
gives_at q b st = q is write_code && gives_up (not (eqb (entry st (front_of q.sandbox (page_of q))) 0)) b.rec.share (holds_in st q.sandbox b)

-- the place of the run that a map takes, and how many of its frames; the place of the longest run
abbrev pub place_for : Request → Sandbox → ℕ
place_for q b = run_for q.p2 (lengths_of b.runs)

abbrev pub frames_for : Request → Sandbox → ℕ
frames_for q b = granted q.p2 (lengths_of b.runs)

abbrev pub longest_of : Sandbox → ℕ
longest_of b = longest_run (lengths_of b.runs)

-- the runs after an accepted request, given the frame that a write gives up if it gives one up
unfoldable pub runs_after : ℕ → Request → Sandbox → Store → Runs
runs_after given q b st =
    with_run_at (place_for q b) (left_of (row b.runs (place_for q b)) (frames_for q b)) b.runs when takes_run q else
    with_run_at (longest_of b) (mark (row b.runs (longest_of b)) given 0) b.runs when gives_at q b st else
    tabled (row_rewound st q.sandbox (slots b.rec.present) (row b.runs)) when q is rewind_code else
    b.runs

-- ---- the store after an accepted request

-- "a page without a front first takes an unheld frame and fills it with what the page reads"
unfoldable pub touched : List ℕ → ℕ → Record → ℕ → ℕ → Store → Store
touched image f r s i st = take 256 (front_of s i) f (page_under image st r s i) st when eqb (entry st (front_of s i)) 0 else st

-- rewind: "A committed page still mapped since the snapshot or last rewind keeps its front, whose bytes become the snapshot's"
abbrev pub keeps_front : Record → ℕ → Bool
keeps_front r i = is_committed (slots r.present i)

-- A map that takes a run: "The first new pages get these frames as fronts" (A3). "Their fronts are freed and cleared"; "A write changes one byte";
-- "its front entry moves to the back"; "All other fronts are freed and cleared"
unfoldable pub store_after : List ℕ → ℕ → Request → Sandbox → Store → Store
store_after image f q b st =
    grant_to 256 (front_of q.sandbox (first_of (slots b.rec.present) q)) (row b.runs (place_for q b)) st (frames_for q b) when takes_run q else
    free_to 256 (front_of q.sandbox q.p1) st q.p2 when q is unmap_code else
    store_byte 256 (front_of q.sandbox (page_of q)) (offset_of q) q.p2 (touched image f b.rec q.sandbox (page_of q) st) when q is write_code else
    move_to (q.sandbox * 128) st 64 when q is snapshot_code else
    rewind_to image (q.sandbox * 128) (keeps_front b.rec) (copy_backing b.rec) st 64 when q is rewind_code else
    st

-- ---- the value of an accepted request

-- "the report counts the marks of one sandbox's frames"
unfoldable pub held_by : Store → ℕ → ℕ
held_by st s = count_held (marks_to (length st.pool / 256) (from (s * 128) st.table) 128).held

unfoldable pub value_at : List ℕ → Request → Sandbox → Store → ℕ
value_at image q b st =
    first_of (slots b.rec.present) q when q is map_code else
    get_or (page_read image st b.rec q.sandbox (page_of q)) (offset_of q) 0 when q is read_code else
    mapped_pages (slots b.rec.present) when q is snapshot_code else
    held_by st q.sandbox + kept_by (row b.runs) when q is report_code else
    differing image st b.rec q.sandbox when q is compare_code else
    changed image st b.rec q.sandbox when q is rewind_code else
    0
