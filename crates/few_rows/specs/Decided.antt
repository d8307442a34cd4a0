-- What is decided of calls that can meet few rows of the table in a sound state.
use Rattle.std.specs.Prelude.{◌≡◌, Bool, ◌||◌, Result, Ok, Err}
use Rattle.interface.specs.declared.answer.Refusal.{Refusal}
use Rattle.interface.specs.declared.page.Slot.{Slot}
use Rattle.interface.specs.declared.request.Request.{Request}
use Rattle.interface.specs.Answers.{refusal_number}
use Rattle.interface.specs.Requests.{◌is◌, rewind_code, report_code, compare_code, page_of}
use Rattle.interface.specs.Refusals.{View, refusal}

-- a rewind, a report or a comparison: "those unused must be 0", so that they name no page; nor is any area packed anew. Of the rows behind 3 these calls can
-- meet 4, 6 and 8 alone: not open; a parameter "not 0"; and, but for a report, no snapshot
abbrev pub names_no_page : Request → Bool
names_no_page q = q is rewind_code || (q is report_code || q is compare_code)

-- "When several apply, the lowest number is answered": a read or a write is refused with the number of the one table of refusals, or accepted with what stands
-- at the page
abbrev pub Decides : View → Request → Result Slot Refusal → Type 0
Decides v q (Err why) = refusal_number why ≡ refusal v q
Decides v q (Ok slot) = (refusal v q ≡ 0) × (slot ≡ v.slots (page_of q))
