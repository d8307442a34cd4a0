-- The machine that keeps nothing: document 01's plain machine, with A1 and A2 and without A3. "Places, bytes and refusals are those of a machine that keeps
-- nothing" (A3): it is fed what the plain machine is fed, and is compared with it after every list. (Proved in proofs/KeepsNothingLaws.)
use Rattle.std.specs.Prelude.{ℕ, ◌+◌, ◌≡◌, true, false, List, [], ◌∷◌, eqb}
use Rattle.basics.specs.Choice.{◌when◌else◌}
use Rattle.basics.specs.Ranges.{count}
use Rattle.interface.specs.Numbers.{page_count}
use Rattle.interface.specs.declared.request.Request.{Request}
use Rattle.interface.specs.Answers.{Answered}
use Rattle.interface.specs.Requests.{◌is◌, report_code}
use Rattle.plain.specs.Machine.{Given, Core, Traces, Kept, Plain, fresh, core_after, front_alone, back_after, copied_back_after}
use Rattle.plain.specs.Machine.{may_tell, number_at, with_kept, answer, answers}
use Rattle.plain_claims.specs.Lists.{up_to, told_to}

-- what an accepted request leaves: no map takes a run, no rewind keeps one, and so there never is any
abbrev pub bare_traces : Request → Core → Traces → Traces
bare_traces q c t = record {
  front = front_alone q c.pages.slots t.front;
  back = back_after q t;
  copied_back = copied_back_after q t;
  runs = t.runs;
}

abbrev pub bare_kept : Given → Request → Kept → Kept
bare_kept g q k = record { core = core_after g q k.core; traces = bare_traces q k.core k.traces }

unfoldable pub bare_after : Given → Plain → Request → Plain
bare_after g p q = with_kept q.sandbox (bare_kept g q (p q.sandbox)) p when eqb (number_at g p q) 0 else p

-- a list of requests: its answers, and the machine after it
unfoldable pub bare_answers : Given → Plain → List Request → List Answered
bare_answers g p [] = []
bare_answers g p (q ∷ qs) = answer g p q ∷ bare_answers g (bare_after g p q) qs

unfoldable pub bare_all : Given → Plain → List Request → Plain
bare_all g p [] = p
bare_all g p (q ∷ qs) = bare_all g (bare_after g p q) qs

-- after a list from fresh
abbrev pub bare_up_to : Given → List Request → Plain
bare_up_to g qs = bare_all g fresh qs

-- the two machines are alike: what each sandbox has, and how each next request is answered, call 9's value apart
pub record Alike (g : Given) (p bare : Plain) : Type 0 where
  -- whether it is open, its share; the mappings, rights, marks and bytes of its pages, and of the copy's
  pub cores : (s : ℕ) → (p s).core ≡ (bare s).core
  -- "refusals": the numbers, of all calls
  pub numbers : (q : Request) → (answer g p q).number ≡ (answer g bare q).number
  -- and the values of all calls but 9
  pub answered : (q : Request) → may_tell q ≡ false → answer g p q ≡ answer g bare q

-- "Places, bytes and refusals are those of a machine that keeps nothing": after every list
abbrev pub AlikeAfterAll : Given → Type 0
AlikeAfterAll g = (qs : List Request) → Alike g (up_to g qs) (bare_up_to g qs)

-- and of every list: each sandbox is told the same, apart from the value of an accepted report
abbrev pub ToldAlike : Given → Type 0
ToldAlike g = (s : ℕ) (qs : List Request) → told_to s qs (answers g fresh qs) ≡ told_to s qs (bare_answers g fresh qs)

-- its call 9 is document 01's: "report counts front and back marks"
abbrev pub CountsMarks : Given → Type 0
CountsMarks g =
    (qs : List Request) (q : Request) → (q is report_code) ≡ true → number_at g (bare_up_to g qs) q ≡ 0
    → let traces = (bare_up_to g qs q.sandbox).traces in (answer g (bare_up_to g qs) q).value ≡ count traces.front page_count + count traces.back page_count
