-- "Still clean?" of the machine that runs: by demand 2 from what the plain machine claims of call 10.
use mathlib.Core.Path.{◌≡◌, refl, sym, ap, ◌∙◌}
use mathlib.Core.List.{List, [], ◌∷◌, ◌++◌, append_assoc}
use Prim.Native.Nat.{ℕ, ◌+◌}
use lib.ListN.{length, length-append}
use Rattle.interface.specs.declared.request.Request.{Request}
use Rattle.interface.specs.Answers.{Answered}
use Rattle.interface.specs.Requests.{snapshot_code, rewind_code}
use Rattle.plain.specs.Machine.{Given, Plain, fresh, answer, answers, after_all}
use Rattle.plain_claims.specs.Lists.{up_to, back}
use Rattle.plain_claims.specs.Claims.{compare_of}
use Rattle.plain_claims.proofs.TwoListsLaws.{after-append}
use Rattle.plain_claims.proofs.Claims.{claim-clean-after-snapshot, claim-clean-while-rewound, claim-clean-reads-copy}
use Rattle.plain_claims.proofs.Corollaries.{reads-change-nothing}
use Rattle.simulation.specs.Lent.{Lent}
use Rattle.claims.proofs.Runs.{demand-2}
use Rattle.claims.proofs.Demand3Laws.{answer_at, took-then}
use Rattle.consequences.specs.StillClean.{told, StillClean}

-- call 10 leaves the plain machine as it was
pub compare-leaves : (g : Given) (qs : List Request) (s : ℕ) → up_to g (qs ++ compare_of s ∷ []) ≡ up_to g qs
unfolding after_all
compare-leaves g qs s = after-append g fresh qs (compare_of s ∷ []) ∙ reads-change-nothing g (up_to g qs) (compare_of s) refl

module _ (g : Given) (L : Lent g) where
  -- the answer to the second of two requests after a list
  pub second : (qs : List Request) (q r : Request) (as' : List Answered) → as' ≡ answers g fresh (qs ++ q ∷ r ∷ [])
      → told as' (length qs + 1) ≡ answer g (up_to g (qs ++ q ∷ [])) r
  second qs q r as' e =
      ap (told as') (sym (length-append qs (q ∷ [])))
      ∙ answer_at g (qs ++ q ∷ []) r [] as' (e ∙ ap (answers g fresh) (sym (append_assoc qs (q ∷ []) (r ∷ []))))

  pub still-clean : StillClean g
  still-clean =
      record {
        snapshot = λ s qs q as' v r t.
            let e = demand-2 g L _ as' v r in
            second qs q (compare_of s) as' e ∙ claim-clean-after-snapshot g s qs q (took-then g s snapshot_code qs q (compare_of s ∷ []) as' e t);
        rewind = λ s qs q as' v r t.
            let e = demand-2 g L _ as' v r in
            second qs q (compare_of s) as' e
            ∙ claim-clean-while-rewound g s (qs ++ q ∷ []) (back (took-then g s rewind_code qs q (compare_of s ∷ []) as' e t));
        rewound = λ s qs as' v w r. answer_at g qs (compare_of s) [] as' (demand-2 g L _ as' v r) ∙ claim-clean-while-rewound g s qs w;
        reads = λ s qs q as' v r clean read names limits.
            let e = demand-2 g L _ as' v r in
            second qs (compare_of s) q as' e
            ∙ ap (λ (p : Plain). answer g p q) (compare-leaves g qs s)
            ∙ claim-clean-reads-copy g (up_to g qs) s (sym (answer_at g qs (compare_of s) (q ∷ []) as' e) ∙ clean) q read names limits;
      }
