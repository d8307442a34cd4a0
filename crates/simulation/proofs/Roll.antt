-- The document's roll on the machine's own step, the test of soundness in each: its 12 answers, by computation.
use Prim.Native.Nat.{ℕ}
use mathlib.Core.Path.{◌≡◌, refl}
use mathlib.Core.List.{List, [], ◌∷◌}
use lib.ListN.{get_or}
use Rattle.basics.specs.Ranges.{count, sum, every, lowest, inside, over, alike}
use Rattle.comparison.specs.Compare.{changed_pages}
use Rattle.interface.specs.declared.request.Request.{Request}
use Rattle.interface.specs.Answers.{Answered}
use Rattle.interface.specs.Slots.{follows, joins, areas, mapped_pages, uncommitted_pages, lowest_gap, charge_of}
use Rattle.interface.specs.Limits.{within}
use Rattle.interface.specs.Outcome.{first_of, slots_after, copy_after}
use Rattle.interface.specs.Refusals.{all_mapped, applies, refusal}
use Rattle.words.specs.Word.{bit, put_bit}
use Rattle.frames.specs.Frames.{held, mark, count_held, least_held, both_held, apart_held}
use Rattle.std.specs.Prelude.{Option, Some, None}
use Rattle.frames.specs.declared.FrameNo.{FrameNo}
use Rattle.free_frames.specs.Greatest.{greatest}
use Rattle.basics.specs.Rows.{best, moved_up, walk_to, walked}
use Rattle.basics.specs.Rows as rows
use Rattle.run_choice.specs.Runs.{run_for, granted, longest_run}
use Rattle.marks.specs.Named.{used_below}
use Rattle.runs.specs.Row.{row_to}
use Rattle.kept.specs.Spare.{kept_by, row_rewound, left_of, grant_to}
use Rattle.kept.specs.Test.{runs_to, kept_to, blankb, spareb}
use Rattle.pages.specs.Parts.{part_at, set_part, zeros, frame, set_frame, same_bytes}
use Rattle.marks.specs.Marks.{add_entry, marks_to, marksb}
use Rattle.table.specs.Store.{contents, put, free, take, fill, store_byte, move, free_to, move_to, fresh}
use Rattle.rewind_cases.specs.Rewind.{restore_page, rewind_page, rewind_to}
use Rattle.areas.specs.Areas.{slot_in}
use Rattle.areas.specs.Formed.{goes_on, proper, is_apart, is_none, place_ok, well_formed}
use Rattle.packing.specs.Pack.{continues, push, pack_to}
use Rattle.state.specs.World.{World, frames_of, started, rows_of}
use Rattle.page_test.specs.Pages.{page_ok, pages_ok}
use Rattle.record_soundness.specs.Test.{fields_ok, record_ok}
use Rattle.run_soundness.specs.Test.{none_kept, runs_ok}
use Rattle.soundness.specs.Test.{kept_ok, sandbox_ok, sandboxes_ok, soundb}
use Rattle.rules.specs.After.{packed_after, taken_after, snapshot_after}
use Rattle.content.specs.Content.{page_under, page_read, copy_read, changed}
use Rattle.memory.specs.Memory.{gives_at, runs_after, touched, store_after, held_by, value_at}
use Rattle.step.specs.Step.{number_at, step}
use Rattle.interface.specs.Examples.{Line, requests_of, gets_of}
use Rattle.plain.specs.Cases.{cases}

-- the greatest frame that is not held
chosen : Option FrameNo → ℕ
chosen None = 0
chosen (Some f) = f.0

-- the answers, where a write takes that frame; without an image
played : World → List Request → List Answered
played w [] = []
played w (q ∷ qs) =
    let marks = both_held w.store.marks (kept_to (rows_of w) 4).held in
    let o = step [] (chosen (greatest (held marks) (frames_of w))) 0 w q in
    o.answer ∷ played o.world qs

-- the first of the starred cases
roll : List Line
roll = get_or cases 0 []

roll-played : played (started 8) (requests_of roll) ≡ gets_of roll
unfolding chosen played roll
    count sum every lowest inside over alike
    follows joins areas mapped_pages uncommitted_pages lowest_gap charge_of
    within first_of slots_after copy_after all_mapped applies refusal
    best moved_up rows.push walk_to walked run_for granted longest_run
    bit put_bit held mark count_held greatest least_held both_held apart_held
    part_at set_part zeros frame set_frame same_bytes changed_pages
    add_entry marks_to marksb used_below
    contents put free take fill store_byte move free_to move_to fresh
    restore_page rewind_page rewind_to
    row_to kept_by row_rewound left_of grant_to runs_to kept_to blankb spareb
    slot_in goes_on continues push pack_to
    proper is_apart is_none place_ok well_formed
    page_ok pages_ok fields_ok record_ok none_kept runs_ok sandbox_ok sandboxes_ok kept_ok soundb
    packed_after taken_after snapshot_after
    page_under page_read copy_read changed gives_at runs_after touched store_after held_by value_at
    number_at step
roll-played = refl
