-- THE THEOREMS: the statements of specs/TurnedBack, specs/StillClean, specs/PutBack, specs/RewindCases, specs/OverGaps and specs/KeepsNothing, of every image
-- and pool that a start accepts and of every list of requests.
use mathlib.Core.Path.{◌≡◌}
use mathlib.Core.List.{List}
use Prim.Native.Nat.{ℕ}
use Rattle.interface.specs.declared.request.Request.{Request}
use Rattle.state.specs.World.{World}
use Rattle.state.specs.Lengths.{lendings}
use Rattle.step.specs.Step.{step}
use Rattle.step.proofs.BeforeLaws.{step_before, step-before}
use Rattle.plain.specs.Machine.{Given}
use Rattle.plain.specs.Cases.{cases_over, no_image, cases}
use Rattle.plain.specs.TurnedBack.{turned_back_cases}
use Rattle.plain.specs.StillClean.{still_clean}
use Rattle.plain.specs.OverGaps.{over_gaps}
use Rattle.plain.specs.KeptRuns.{kept_runs}
use Rattle.plain.specs.PutBack.{put_back}
use Rattle.simulation.specs.Lent.{Lent}
use Rattle.consequences.specs.TurnedBack.{AllGet, WrongLength, AllGetLent, StrayEntry}
use Rattle.consequences.specs.StillClean.{BacksCannotAlter, StillClean}
use Rattle.consequences.specs.PutBack.{RewindsTell, PutBack}
use Rattle.consequences.specs.RewindCases.{RewindsByCases}
use Rattle.consequences.specs.OverGaps.{PassesOverGaps}
use Rattle.consequences.specs.KeepsNothing.{KeepsNothing}
use Rattle.consequences.proofs.TurnedBackLaws.{cases-get, turned-back-get, still-clean-get, over-gaps-get, kept-runs-get, put-back-get}
use Rattle.consequences.proofs.TurnedBackLaws.{wrong-length, lendings-get, stray-entry}
use Rattle.consequences.proofs.BacksLaws.{backs-cannot-alter}
use Rattle.consequences.proofs.StillCleanLaws.{still-clean}
use Rattle.consequences.proofs.PutBackLaws.{rewinds-tell, put-back}
use Rattle.consequences.proofs.RewindCaseLaws.{rewinds-by-cases}
use Rattle.consequences.proofs.OverGapsLaws.{over-gaps}
use Rattle.consequences.proofs.KeepsNothingLaws.{keeps-nothing}

-- every run over the starred cases has their answers
pub claim-cases : AllGet (cases_over no_image cases)
claim-cases = cases-get

-- every run over the table of "Turned back", its Examples and both sides of each limit, has the table's answers
pub claim-turned-back : AllGet turned_back_cases
claim-turned-back = turned-back-get

-- where a lent length is wrong every call is refused 2 or 3 and changes nothing; and each length on both sides of its limits
pub claim-wrong-length : WrongLength
claim-wrong-length = wrong-length

pub claim-lent-lengths : AllGetLent lendings
claim-lent-lengths = lendings-get

-- a state that is unsound
pub claim-stray-entry : StrayEntry
claim-stray-entry = stray-entry

-- no byte of the back frame of a page that call 10 passes over can alter its answer: of any world
pub claim-backs-cannot-alter : (image : List ℕ) → BacksCannotAlter image
claim-backs-cannot-alter = backs-cannot-alter

-- call 10 answers 64 right after a snapshot and while a sandbox is rewound, and where it does every read answers what the copy has
pub claim-still-clean : (g : Given) → Lent g → StillClean g
claim-still-clean = still-clean

-- every run over the table of "Still clean?" has the table's answers
pub claim-still-clean-cases : AllGet still_clean
claim-still-clean-cases = still-clean-get

-- an unmap passes over unmapped pages: of nothing it changes nothing, and else it does what unmaps of its mapped pages alone do: of any sound state
pub claim-over-gaps : (image : List ℕ) → PassesOverGaps image
claim-over-gaps = over-gaps

-- every run over the table of "Unmapping over gaps" has the table's answers
pub claim-over-gaps-cases : AllGet over_gaps
claim-over-gaps-cases = over-gaps-get

-- places, bytes and refusals are those of a machine that keeps nothing
pub claim-keeps-nothing : (g : Given) → Lent g → KeepsNothing g
claim-keeps-nothing = keeps-nothing

-- every run over the table of "Keep the frames of a finished request" has the table's answers
pub claim-kept-runs-cases : AllGet kept_runs
claim-kept-runs-cases = kept-runs-get

-- a rewind answers at most the fronts of committed pages, and 0 exactly where call 10, of the bytes of committed pages alone, finds nothing: of any world
pub claim-rewinds-tell : (image : List ℕ) → RewindsTell image
claim-rewinds-tell = rewinds-tell

-- a rewind answers 0 right after another and after the snapshot, while a sandbox is rewound, and where call 10 answers 64
pub claim-put-back : (g : Given) → Lent g → PutBack g
claim-put-back = put-back

-- every run over the table of "How many pages were put back?" has the table's answers
pub claim-put-back-cases : AllGet put_back
claim-put-back-cases = put-back-get

-- an accepted rewind, told as the paper tells it: each committed page still mapped meets exactly one case, what its front then holds, and what it reads: of any
-- world
pub claim-rewinds-by-cases : (image : List ℕ) → RewindsByCases image
claim-rewinds-by-cases = rewinds-by-cases

-- and answers and leaves what it did before it was told so: of every world and every request
pub claim-as-before : (image : List ℕ) (f given : ℕ) (w : World) (q : Request) → step image f given w q ≡ step_before image f given w q
claim-as-before = step-before
