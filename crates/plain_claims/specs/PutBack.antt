-- Request A4, "How many pages were put back?": what is claimed of the value of a rewind on the plain machine. proofs/PutBackLaws proves each.
-- The two lists of demand 3 need no exception for it: the rewind that ends a request stands before what is compared, and the value of every later one is told.
use Rattle.std.specs.Prelude.{ℕ, ◌≤◌, ◌≡◌, ◌&&◌, List, [], ◌∷◌, ◌++◌}
use Rattle.basics.specs.Ranges.{count}
use Rattle.interface.specs.Numbers.{page_count}
use Rattle.interface.specs.declared.request.Request.{Request}
use Rattle.interface.specs.Requests.{snapshot_code, rewind_code}
use Rattle.interface.specs.Slots.{is_committed}
use Rattle.interface.specs.Examples.{ok, call, in_sandbox}
use Rattle.comparison.specs.Compare.{lowest_changed}
use Rattle.plain.specs.Machine.{Given, Core, Kept, Plain, same_at, number_at, answer}
use Rattle.plain_claims.specs.Lists.{up_to, Then, Rewound}
use Rattle.plain_claims.specs.Claims.{compare_of}

-- rewind of sandbox s
abbrev pub rewind_of : ℕ → Request
rewind_of s = in_sandbox s (call rewind_code)

-- where call 10 answers 64 there is nothing to put back
abbrev pub CleanPutsNothingBack : Given → Type 0
CleanPutsNothingBack g = (s : ℕ) (qs : List Request) → answer g (up_to g qs) (compare_of s) ≡ ok page_count → answer g (up_to g qs) (rewind_of s) ≡ ok 0

-- so right after an accepted snapshot; and while a sandbox is rewound: a second rewind right after the first answers 0
abbrev pub NothingAfterSnapshot : Given → Type 0
NothingAfterSnapshot g =
    (s : ℕ) (qs : List Request) (q : Request) → Then g s snapshot_code qs q → answer g (up_to g (qs ++ q ∷ [])) (rewind_of s) ≡ ok 0

abbrev pub NothingWhileRewound : Given → Type 0
NothingWhileRewound g = (s : ℕ) (qs : List Request) → Rewound g s qs → answer g (up_to g qs) (rewind_of s) ≡ ok 0

-- the committed pages with a front
abbrev pub committed_fronts : Kept → ℕ
committed_fronts k = count (λ i. is_committed (k.core.pages.slots i) && k.traces.front i) page_count

-- the value of a rewind is at most as many
abbrev pub AtMostFronts : Given → Type 0
AtMostFronts g = (qs : List Request) (q : Request) → q.code ≡ rewind_code → (answer g (up_to g qs) q).value ≤ committed_fronts (up_to g qs q.sandbox)

-- the lowest committed page whose bytes are not the copy's
abbrev pub found_in : Core → ℕ
found_in c = lowest_changed c.pages.slots (same_at c)

-- an accepted rewind answers 0 exactly where call 10, of the bytes of committed pages alone, finds nothing
pub record ZeroWhereUnchanged (g : Given) (p : Plain) (q : Request) : Type 0 where
  pub nothing : found_in (p q.sandbox).core ≡ page_count → (answer g p q).value ≡ 0
  pub only_there : (answer g p q).value ≡ 0 → found_in (p q.sandbox).core ≡ page_count

abbrev pub ZeroExactly : Given → Type 0
ZeroExactly g = (p : Plain) (q : Request) → q.code ≡ rewind_code → number_at g p q ≡ 0 → ZeroWhereUnchanged g p q
