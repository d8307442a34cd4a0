-- What is claimed of the plain machine (specs/Claims), proved.
use Prim.Native.Nat.{ℕ}
use mathlib.Core.Path.{◌≡◌}
use mathlib.Core.Bool.{true}
use mathlib.Core.List.{List, [], ◌∷◌, ◌++◌}
use Rattle.interface.specs.declared.request.Request.{Request}
use Rattle.plain.specs.Machine.{Given, Plain, fresh, after, after_all}
use Rattle.plain_claims.specs.Lists.{up_to}
use Rattle.plain_claims.specs.Claims.{TwoLists, RewoundIsRestored, Holds, Reads, Always, CleanAfterSnapshot, CleanWhileRewound, CleanReadsCopy}
use Rattle.plain.specs.Cases.{cases, cases_over, no_image, all_given}
use Rattle.plain.specs.TurnedBack.{turned_back_cases}
use Rattle.plain.specs.StillClean.{still_clean}
use Rattle.plain.specs.OverGaps.{over_gaps}
use Rattle.plain.proofs.CaseLaws.{starred-cases, turned-back, still-clean, over-gaps}
use Rattle.plain_claims.proofs.TwoListsLaws.{two-lists}
use Rattle.plain_claims.proofs.RewoundLaws.{rewound-restored}
use Rattle.plain_claims.proofs.KeptLaws.{holds-fresh, holds_after, frames-suffice, next-write, next-rewind}
use Rattle.plain_claims.proofs.ReadLaws.{reads-fresh, reads-after}
use Rattle.plain_claims.proofs.CleanLaws.{clean-after-snapshot, clean-while-rewound, clean-reads-copy}

-- the starred cases get their answers
pub claim-cases : all_given (cases_over no_image cases) ≡ true
claim-cases = starred-cases

-- every row of "Turned back" gets its answers
pub claim-turned-back : all_given turned_back_cases ≡ true
claim-turned-back = turned-back

-- every roll of "Still clean?" gets its answers
pub claim-still-clean : all_given still_clean ≡ true
claim-still-clean = still-clean

-- every roll of "Unmapping over gaps" gets its answers
pub claim-over-gaps : all_given over_gaps ≡ true
claim-over-gaps = over-gaps

-- two lists tell a rewound sandbox the same
pub claim-two-lists : (g : Given) → TwoLists g
claim-two-lists = two-lists

-- a rewound sandbox is as it was copied
pub claim-rewound : (g : Given) → RewoundIsRestored g
claim-rewound g s qs r = rewound-restored g s qs r

always-of : (g : Given) (p : Plain) → Holds g p → ((s : ℕ) → Reads g (p s)) → Always g p
always-of g p h r = record {
  holds = h;
  reads = r;
  covered = λ s. frames-suffice (p s) (h.each s);
  next_write = next-write g p h;
  next_rewind = next-rewind g p h;
}

always-all : (g : Given) (qs : List Request) (p : Plain) → Holds g p → ((s : ℕ) → Reads g (p s)) → Always g (after_all g p qs)
unfolding after_all
always-all g [] p h r = always-of g p h r
always-all g (q ∷ qs) p h r = always-all g qs (after g p q) (holds_after g p q h) (reads-after g p q h r)

-- the limits, what pages read, and the next write and rewind, after every list
pub claim-always : (g : Given) (qs : List Request) → Always g (up_to g qs)
claim-always g qs = always-all g qs fresh (holds-fresh g) (reads-fresh g)

-- call 10 answers 64 right after a snapshot, and while a sandbox is rewound
pub claim-clean-after-snapshot : (g : Given) → CleanAfterSnapshot g
claim-clean-after-snapshot g s qs q t = clean-after-snapshot g s qs q ((claim-always g (qs ++ q ∷ [])).holds.each s) t

pub claim-clean-while-rewound : (g : Given) → CleanWhileRewound g
claim-clean-while-rewound g s qs r = clean-while-rewound g s qs ((claim-always g qs).holds.each s) r

-- where call 10 answers 64, every read answers what the copy has
pub claim-clean-reads-copy : (g : Given) → CleanReadsCopy g
claim-clean-reads-copy = clean-reads-copy
