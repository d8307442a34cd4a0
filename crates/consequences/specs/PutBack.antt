-- Request A4, "How many pages were put back?", of the machine that runs: what the value of a rewind says, of any state and of every list.
use Rattle.std.specs.Prelude.{◌≡◌, not, ◌&&◌, List, [], ◌∷◌, ◌++◌, ℕ, ◌+◌, ◌≤◌, eqb, length}
use Rattle.basics.specs.Ranges.{count}
use Rattle.interface.specs.declared.request.Request.{Request}
use Rattle.interface.specs.Answers.{Answered}
use Rattle.interface.specs.Requests.{snapshot_code, rewind_code}
use Rattle.interface.specs.Slots.{is_committed}
use Rattle.interface.specs.Examples.{ok}
use Rattle.comparison.specs.Compare.{lowest_changed}
use Rattle.table.specs.Store.{entry, front_of}
use Rattle.areas.specs.Areas.{slots}
use Rattle.state.specs.World.{World, record_at}
use Rattle.content.specs.Content.{reads_same}
use Rattle.step.specs.Step.{Outcome, Stepped}
use Rattle.plain.specs.Machine.{Given}
use Rattle.plain_claims.specs.Claims.{compare_of}
use Rattle.plain_claims.specs.PutBack.{rewind_of}
use Rattle.claims.specs.Demands.{RunFrom}
use Rattle.consequences.specs.StillClean.{told, RightAfter, WhileRewound}

-- ---- of any state

-- the committed pages of sandbox s with a front
abbrev pub committed_fronts : World → ℕ → ℕ
committed_fronts w s = count (λ i. is_committed (slots (record_at w s).present i) && not (eqb (entry w.store (front_of s i)) 0)) 64

-- call 10 of the bytes of its committed pages alone
abbrev pub found_in : List ℕ → World → ℕ → ℕ
found_in image w s = lowest_changed (slots (record_at w s).present) (reads_same image w.store (record_at w s) s)

pub record RewindTells (image : List ℕ) (w : World) (q : Request) (o : Outcome) : Type 0 where
  -- it counts at most the fronts of committed pages: a page without a front is not looked at
  pub fronts : o.answer.value ≤ committed_fronts w q.sandbox
  -- accepted, it answers 0 exactly where call 10, of the bytes of committed pages alone, finds nothing
  pub nothing : o.answer.number ≡ 0 → found_in image w q.sandbox ≡ 64 → o.answer.value ≡ 0
  pub only_there : o.answer.number ≡ 0 → o.answer.value ≡ 0 → found_in image w q.sandbox ≡ 64

abbrev pub RewindsTell : List ℕ → Type 0
RewindsTell image = (w : World) (q : Request) (o : Outcome) → Stepped image w q o → q.code ≡ rewind_code → RewindTells image w q o

-- ---- of every list

pub record PutBack (g : Given) : Type 0 where
  -- a second rewind right after the first answers 0, and a first right after the snapshot
  pub rewind : RightAfter g rewind_code rewind_of (ok 0)
  pub snapshot : RightAfter g snapshot_code rewind_of (ok 0)
  -- and any of a rewound sandbox, for as long as it is one
  pub rewound : WhileRewound g rewind_of (ok 0)
  -- where call 10 answers 64, a rewind answers 0
  pub clean : (s : ℕ) (qs : List Request) (as' : List Answered) (v : World) → RunFrom g (qs ++ compare_of s ∷ rewind_of s ∷ []) as' v
      → told as' (length qs) ≡ ok 64 → told as' (length qs + 1) ≡ ok 0
