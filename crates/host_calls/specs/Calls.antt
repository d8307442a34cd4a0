-- What a start and a call do over a state in bytes, and what a list of such calls is.
use Rattle.std.specs.Prelude.{◌≡◌, true, false, not, List, [], ◌∷◌, ℕ, eqb, length}
use Rattle.basics.specs.Choice.{◌when◌else◌}
use Rattle.interface.specs.declared.request.Request.{Request}
use Rattle.interface.specs.Answers.{Answer}
use Rattle.interface.specs.Answers.{Answered, number_of, value_of}
use Rattle.interface.specs.Requests.{is_call, request_of}
use Rattle.state.specs.World.{World, world_of}
use Rattle.state.specs.Start.{start_answer, started_by}
use Rattle.layout.specs.Layout.{state_size, state_bytes, state_from, is_state}
use Rattle.layout.specs.Claims.{machine_of}
use Rattle.step.specs.Step.{Outcome, Stepped}
use Rattle.host_calls.specs.declared.Asked.{Asked}
use Rattle.host_calls.specs.declared.Told.{Told}

-- what a host hands over at each call and gets back: "Between calls the state, pool and table are handed back unaltered"
pub record Handed : Type 0 where
  pub state : List ℕ
  pub pool : List ℕ
  pub table : List ℕ

abbrev pub handed : List ℕ → List ℕ → List ℕ → Handed
handed state pool table = record { state = state; pool = pool; table = table }

-- a world as it is handed over
abbrev pub hands_of : World → Handed
hands_of w = handed (state_bytes (machine_of w)) w.store.pool w.store.table

-- the world that is handed over
abbrev pub world_in : Handed → World
world_in h = world_of (state_from h.state) h.pool h.table

-- the request of the numbers that a host hands over
abbrev pub request_in : Asked → Request
request_in a = request_of a.code a.sandbox a.p1 a.p2 a.p3 a.p4 a.p5

-- an answer's number and value
abbrev pub told_by : Answer → Told
told_by a = record { number = number_of a; value = value_of a }

abbrev pub answer_told : Told → Answered
answer_told t = record { number = t.number; value = t.value }

-- ---- the start

-- "where a length is wrong, is refusal 3": the state's too
unfoldable pub start_number : List ℕ → Handed → ℕ
start_number image h = number_of (start_answer h.pool h.table image) when eqb (length h.state) state_size else 3

-- "starting clears pool and table, or .. clears nothing, though the state it gives is fresh"; without room for a state nothing is written
unfoldable pub start_hands : List ℕ → Handed → Handed
start_hands image h = hands_of (started_by h.pool h.table image) when eqb (length h.state) state_size else h

-- ---- a call

-- row 2, a code that is no call's, else row 3 "lent length wrong, or state unsound", where the bytes are no state's
abbrev pub no_state : Request → Answered
no_state q = record { number = 2 when not (is_call q) else 3; value = 0 }

-- the answer that a host is told, and the world that it gets back
abbrev pub outcome_in : Told → Handed → Outcome
outcome_in t l = record { answer = answer_told t; world = world_in l }

-- a call of what h hands over, told t, that hands l back
pub record Called (image : List ℕ) (h : Handed) (q : Request) (t : Told) (l : Handed) : Type 0 where
  -- bytes that are no state's, of a wrong length too, are refused, and nothing changes
  pub unsound : is_state h.state ≡ false → (answer_told t ≡ no_state q) × (l ≡ h)
  -- others give a world: the call is a step from it, and what is handed back are the bytes of the next
  pub stepped : is_state h.state ≡ true → Stepped image (world_in h) q (outcome_in t l) × (l ≡ hands_of (world_in l))
  -- "A refusal answers its number and value 0; state, pool and table are unchanged": not a byte of them
  pub refused : (t.number ≡ 0 → ⊥) → (t.value ≡ 0) × (l ≡ h)

-- "Each call gets the state, pool and table as the one before returned or left them": requests, their answers, and what is handed back at the end
pub data Calls (image : List ℕ) : Handed → List Request → List Answered → Handed → Type 0 where
  none : {h : Handed} → Calls image h [] [] h
  more : {h k l : Handed} {q : Request} {t : Told} {qs : List Request} {as' : List Answered}
      → Called image h q t k → Calls image k qs as' l → Calls image h (q ∷ qs) (answer_told t ∷ as') l
