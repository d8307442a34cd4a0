-- Request A2, "Unmapping over gaps": an unmap that only row 14 can refuse, and the mapped pages of its range as unmaps that name these alone.
use Rattle.std.specs.Prelude.{ℕ, zero, suc, ◌-◌, ◌<◌, ◌≡◌, Bool, true, false, ◌&&◌, ◌||◌, List, [], ◌∷◌}
use Rattle.basics.specs.Choice.{◌when◌else◌}
use Rattle.basics.specs.Ranges.{every, inside}
use Rattle.interface.specs.Numbers.{sandbox_count}
use Rattle.interface.specs.declared.request.Request.{Request}
use Rattle.interface.specs.Answers.{Answered}
use Rattle.interface.specs.Requests.{unmap_code}
use Rattle.interface.specs.Slots.{Slots, is_mapped, joins, previous}
use Rattle.interface.specs.Limits.{within}
use Rattle.interface.specs.Refusals.{View}
use Rattle.interface.specs.Examples.{ok, call₂, in_sandbox}

-- an unmap to which rows 4 and 6 do not apply: "sandbox above 3; or, but for open, not open"; "a parameter outside its limits .. an unused one not 0"
pub record Unmaps (v : View) (q : Request) : Type 0 where
  pub called : q.code ≡ unmap_code
  pub row : q.sandbox < sandbox_count
  pub opened : v.opened ≡ true
  pub limits : within v.images q ≡ true

-- "Areas are the longest runs of neighbouring pages": the n pages from a on are a hole in one of them, where each of these pages, and the page behind them,
-- goes on with the area of the page before it
unfoldable pub is_hole : Slots → ℕ → ℕ → Bool
is_hole f a n = every (λ i. joins (previous f i) (f i)) a (suc n)

-- ---- "Unmap now passes over unmapped pages"

-- the unmap of n pages of sandbox s from first on
abbrev pub unmap_of : ℕ → ℕ → ℕ → Request
unmap_of s first n = in_sandbox s (call₂ unmap_code first n)

-- the unmap of the m pages before page i, where there are any, and then the rest
abbrev pub with_run : ℕ → ℕ → ℕ → List Request → List Request
with_run s zero i rest = rest
with_run s (suc m) i rest = unmap_of s (i - suc m) (suc m) ∷ rest

-- the unmaps of the longest runs of mapped pages, in page order: the m pages before page i are mapped and not yet in one, and n pages are left from i on
unfoldable pub unmaps_from : ℕ → Slots → ℕ → ℕ → ℕ → List Request
unmaps_from s f m i zero = with_run s m i []
unmaps_from s f m i (suc n) = unmaps_from s f (suc m) (suc i) n when is_mapped (f i) else with_run s m i (unmaps_from s f 0 (suc i) n)

-- of the range that an unmap names, and of its sandbox
abbrev pub mapped_alone : Request → Slots → List Request
mapped_alone q f = unmaps_from q.sandbox f 0 q.p1 q.p2

-- whether one of the requests names page i
abbrev pub named : List Request → ℕ → Bool
named [] i = false
named (q ∷ qs) i = inside q.p1 q.p2 i || named qs i

-- they name the mapped pages of the range, and no other (proved in proofs/AloneLaws)
abbrev pub NamesMapped : Type 0
NamesMapped = (q : Request) (f : Slots) (i : ℕ) → named (mapped_alone q f) i ≡ (inside q.p1 q.p2 i && is_mapped (f i))

-- what each is to answer: accepted, with value 0
abbrev pub all_ok : List Request → List Answered
all_ok [] = []
all_ok (q ∷ qs) = ok 0 ∷ all_ok qs
