-- The words of "The lists of demand 3".
use Rattle.std.specs.Prelude.{ℕ, ◌≡◌, true, ◌&&◌, List, [], ◌∷◌, ◌++◌, eqb, length, drop}
use Rattle.basics.specs.Choice.{◌when◌else◌}
use Rattle.interface.specs.declared.request.Request.{Request}
use Rattle.interface.specs.Answers.{Answered}
use Rattle.interface.specs.Requests.{◌is◌, rewind_code}
use Rattle.plain.specs.Machine.{Given, Plain, fresh, may_tell, number_at, after_all}

-- the plain machine after a list from fresh
abbrev pub up_to : Given → List Request → Plain
up_to g qs = after_all g fresh qs

-- after the list qs comes the request q, this call of sandbox s, and it is accepted
pub record Then (g : Given) (s call : ℕ) (qs : List Request) (q : Request) : Type 0 where
  pub called : (q is call) ≡ true
  pub names : q.sandbox ≡ s
  pub taken : number_at g (up_to g qs) q ≡ 0

-- "the calls naming that sandbox .. in the same order, with any calls of others between them"
unfoldable pub naming : ℕ → List Request → List Request
naming s [] = []
naming s (q ∷ qs) = (q ∷ naming s qs) when eqb q.sandbox s else naming s qs

-- "number and value .. apart from the value of an accepted report"
unfoldable pub told : Request → Answered → Answered
told q a = record { number = a.number; value = 0 when may_tell q && eqb a.number 0 else a.value }

-- of the answers to a list, what the requests that name s were told
unfoldable pub told_to : ℕ → List Request → List Answered → List Answered
told_to s [] l = []
told_to s (q ∷ qs) [] = []
told_to s (q ∷ qs) (a ∷ l) = (told q a ∷ told_to s qs l) when eqb q.sandbox s else told_to s qs l

-- of the answers to the list before and then later, what the requests of later that name s were told
unfoldable pub told_later : ℕ → List Request → List Request → List Answered → List Answered
told_later s before later l = told_to s later (drop (length before) l)

-- "A sandbox is rewound from an accepted rewind until a later call changes what the plain machine keeps for it."
pub data Rewound (g : Given) (s : ℕ) : List Request → Type 0 where
  back : {qs : List Request} {q : Request} → Then g s rewind_code qs q → Rewound g s (qs ++ q ∷ [])
  still : {qs : List Request} (q : Request) → Rewound g s qs → up_to g (qs ++ q ∷ []) s ≡ up_to g qs s → Rewound g s (qs ++ q ∷ [])
