-- "Turned back", of the machine that runs: the table of plain/specs/TurnedBack, and row 3 with the table of state/specs/Lengths.
use Rattle.std.specs.Prelude.{◌≡◌, false, not, List, [], ◌∷◌, ℕ, length}
use Rattle.basics.specs.Choice.{◌when◌else◌}
use Rattle.interface.specs.declared.request.Request.{Request}
use Rattle.interface.specs.Answers.{Answered}
use Rattle.interface.specs.Requests.{open_code, is_call}
use Rattle.interface.specs.Examples.{refused, requests_of, gets_of, call₁}
use Rattle.pages.specs.Parts.{zeros}
use Rattle.state.specs.World.{World, world_of, fresh_machine, lengths_ok}
use Rattle.state.specs.Start.{started_by}
use Rattle.state.specs.Lengths.{Lending}
use Rattle.step.specs.Step.{Outcome, Stepped}
use Rattle.plain.specs.Cases.{Case}
use Rattle.claims.specs.Demands.{RunFrom}

-- every run of the case's roll, from what a start leaves, has the answers of its lines
abbrev pub Gets : Case → Type 0
Gets c = (as' : List Answered) (v : World) → RunFrom c.over (requests_of c.lines) as' v → as' ≡ gets_of c.lines

abbrev pub AllGet : List Case → Type 0
AllGet [] = Unit
AllGet (c ∷ cs) = Gets c × AllGet cs

-- ---- row 3

-- "lent length wrong": every call of every state is refused, a code that is no call's first, and changes nothing
abbrev pub WrongLength : Type 0
WrongLength =
    (image : List ℕ) (w : World) → lengths_ok (length w.store.pool) (length w.store.table) (length image) ≡ false
    → (q : Request) (o : Outcome) → Stepped image w q o → (o.answer ≡ refused (2 when not (is_call q) else 3)) × (o.world ≡ w)

-- whatever pool, table and image of these lengths are lent, the first call after their start answers so
abbrev pub GetsLent : Lending → Type 0
GetsLent c =
    (pool table image : List ℕ) → length pool ≡ c.pool → length table ≡ c.table → length image ≡ c.image
    → (o : Outcome) → Stepped image (started_by pool table image) c.line.request o → o.answer ≡ c.line.gets

abbrev pub AllGetLent : List Lending → Type 0
AllGetLent [] = Unit
AllGetLent (c ∷ cs) = GetsLent c × AllGetLent cs

-- "or state unsound": a fresh state over one frame and a table whose first entry names it, though no mark holds it
abbrev pub stray_entry : World
stray_entry = world_of fresh_machine (zeros 256) (1 ∷ zeros 511)

-- the call that is accepted over a cleared table is refused, and changes nothing
abbrev pub StrayEntry : Type 0
StrayEntry = (o : Outcome) → Stepped [] stray_entry (call₁ open_code 1) o → (o.answer ≡ refused 3) × (o.world ≡ stray_entry)
