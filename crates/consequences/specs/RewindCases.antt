-- Request A5, "Rewind told as the paper tells it", of the machine that runs: what an accepted rewind makes of each committed page still mapped, in any state.
use Rattle.std.specs.Prelude.{◌≡◌, true, List, ℕ, ◌<◌}
use Rattle.interface.specs.declared.request.Request.{Request}
use Rattle.interface.specs.declared.page.Backing.{Backing}
use Rattle.interface.specs.Requests.{rewind_code}
use Rattle.interface.specs.Slots.{is_committed, backing_at}
use Rattle.table.specs.Store.{entry, contents, front_of, back_of}
use Rattle.rewind_cases.specs.declared.RewindCase.{RewindCase}
use Rattle.rewind_cases.specs.Rewind.{case_of}
use Rattle.rewind_cases.specs.Cases.{OneCase, front_then}
use Rattle.areas.specs.Areas.{slots}
use Rattle.state.specs.World.{World, record_at}
use Rattle.content.specs.Content.{page_read, copy_read}
use Rattle.step.specs.Step.{Outcome, Stepped}

-- what page i of sandbox s has: its front entry, its back entry, its backing
abbrev pub front_entry : World → ℕ → ℕ → ℕ
front_entry w s i = entry w.store (front_of s i)

abbrev pub back_entry : World → ℕ → ℕ → ℕ
back_entry w s i = entry w.store (back_of s i)

abbrev pub page_backing : World → ℕ → ℕ → Backing
page_backing w s i = backing_at (slots (record_at w s).present i)

-- the case that it is in
abbrev pub case_at : World → ℕ → ℕ → RewindCase
case_at w s i = case_of (front_entry w s i) (back_entry w s i) (page_backing w s i)

-- page i of sandbox s, committed and still mapped in the world w before a rewind; v is the world after it
pub record PageRewound (image : List ℕ) (w v : World) (s i : ℕ) : Type 0 where
  -- it "meets exactly one case"
  pub one : OneCase (front_entry w s i) (back_entry w s i) (page_backing w s i)
  -- "preserve both pages of both PTEs": it keeps its frames
  pub front : front_entry v s i ≡ front_entry w s i
  pub back : back_entry v s i ≡ back_entry w s i
  -- "what its front then holds", by its case; its back holds what it held
  pub holds : contents 256 v.store (front_of s i) ≡ front_then image (contents 256 w.store (back_of s i)) (case_at w s i)
  pub kept : contents 256 v.store (back_of s i) ≡ contents 256 w.store (back_of s i)
  -- and what is read afterwards is what the snapshot has there
  pub reads : page_read image v.store (record_at v s) s i ≡ copy_read image w.store (record_at w s) s i

-- "For each committed page still mapped": at every accepted rewind, in whatever state
abbrev pub RewindsByCases : List ℕ → Type 0
RewindsByCases image = (w : World) (q : Request) (o : Outcome) → Stepped image w q o → q.code ≡ rewind_code → o.answer.number ≡ 0
    → (i : ℕ) → i < 64 → is_committed (slots (record_at w q.sandbox).present i) ≡ true → PageRewound image w o.world q.sandbox i
