-- Request A1, "Still clean?", of the machine that runs: what cannot alter call 10's answer, and what its answer says.
use Rattle.std.specs.Prelude.{◌≡◌, true, List, [], ◌∷◌, ◌++◌, ℕ, suc, ◌+◌, ◌<◌, length, get_or}
use Rattle.interface.specs.declared.request.Request.{Request}
use Rattle.interface.specs.Answers.{Answered}
use Rattle.interface.specs.Requests.{◌is◌, read_code, snapshot_code, rewind_code, compare_code}
use Rattle.interface.specs.Slots.{is_committed, rights_at}
use Rattle.interface.specs.Limits.{within}
use Rattle.interface.specs.Examples.{ok, refused}
use Rattle.interface.specs.Numbers.{pages_in}
use Rattle.pages.specs.Parts.{frame}
use Rattle.table.specs.Store.{entry, front_of, back_of}
use Rattle.areas.specs.Areas.{slots}
use Rattle.state.specs.World.{World, record_at, frames_of}
use Rattle.step.specs.Step.{Outcome, Stepped}
use Rattle.plain.specs.Machine.{Given}
use Rattle.plain_claims.specs.Lists.{up_to, Rewound}
use Rattle.plain_claims.specs.Claims.{compare_of, copy_answer}
use Rattle.claims.specs.Demands.{RunFrom, Took}

-- ---- "no byte of its back frame can alter the answer"

-- "A committed page with unchanged rights and no front is passed over": page i of sandbox s is such a page
pub record PassedOver (w : World) (s i : ℕ) : Type 0 where
  pub row : s < 4
  pub page : i < 64
  pub committed : is_committed (slots (record_at w s).present i) ≡ true
  pub rights : rights_at (slots (record_at w s).present i) ≡ rights_at (slots (record_at w s).snapshot i)
  pub frontless : entry w.store (front_of s i) ≡ 0

-- two worlds that differ in nothing but bytes of back frames of such pages
pub record AlikeButBacks (w v : World) : Type 0 where
  pub sandboxes : w.sandboxes ≡ v.sandboxes
  pub marks : w.store.marks ≡ v.store.marks
  pub table : w.store.table ≡ v.store.table
  pub pool_length : length w.store.pool ≡ length v.store.pool
  pub bytes : (f : ℕ) → f < frames_of w → ((s i : ℕ) → PassedOver w s i → entry w.store (back_of s i) ≡ suc f → ⊥)
      → frame 256 w.store.pool f ≡ frame 256 v.store.pool f

-- call 10 answers the same in both, sound or not
abbrev pub BacksCannotAlter : List ℕ → Type 0
BacksCannotAlter image =
    (w v : World) → AlikeButBacks w v → (q : Request) → q.code ≡ compare_code → (o p : Outcome) → Stepped image w q o → Stepped image v q p → o.answer ≡ p.answer

-- ---- what people quote, of every list

-- the answer at this place of a list of answers
abbrev pub told : List Answered → ℕ → Answered
told as' place = get_or as' place (refused 1)

-- right after this call of sandbox s, accepted, the next request is answered so
abbrev pub RightAfter : Given → ℕ → (ℕ → Request) → Answered → Type 0
RightAfter g call next a =
    (s : ℕ) (qs : List Request) (q : Request) (as' : List Answered) (v : World) → RunFrom g (qs ++ q ∷ next s ∷ []) as' v
    → Took s call q as' (length qs) → told as' (length qs + 1) ≡ a

-- and so is the next request of a rewound sandbox, for as long as it is one
abbrev pub WhileRewound : Given → (ℕ → Request) → Answered → Type 0
WhileRewound g next a =
    (s : ℕ) (qs : List Request) (as' : List Answered) (v : World) → Rewound g s qs → RunFrom g (qs ++ next s ∷ []) as' v → told as' (length qs) ≡ a

pub record StillClean (g : Given) : Type 0 where
  -- right after an accepted snapshot or rewind call 10 answers 64
  pub snapshot : RightAfter g snapshot_code compare_of (ok 64)
  pub rewind : RightAfter g rewind_code compare_of (ok 64)
  -- and of a rewound sandbox for as long as it is one
  pub rewound : WhileRewound g compare_of (ok 64)
  -- where it answers 64, every read answers what the copy has
  pub reads : (s : ℕ) (qs : List Request) (q : Request) (as' : List Answered) (v : World) → RunFrom g (qs ++ compare_of s ∷ q ∷ []) as' v
      → told as' (length qs) ≡ ok 64 → (q is read_code) ≡ true → q.sandbox ≡ s → within (pages_in (length g.image)) q ≡ true
      → told as' (length qs + 1) ≡ copy_answer (up_to g qs s).core q
