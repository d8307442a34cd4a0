-- The value of a rewind: 0 where call 10 finds nothing, and so after a snapshot and while rewound; at most the fronts of committed pages; 0 exactly where no
-- committed page has other bytes.
use Prim.Native.Nat.{ℕ}
use mathlib.Core.Path.{◌≡◌, refl, sym, ap, ◌∙◌}
use mathlib.Core.Bool.{true, not, ◌&&◌}
use mathlib.Core.List.{List, [], ◌∷◌, ◌++◌}
use native.Mathlib.Omega.{arith}
use lib.Dec.{eqb}
use Rattle.basics.proofs.TestLaws.{by_cases, and_both, and-of}
use Rattle.basics.proofs.LoopLaws.{alike_of}
use Rattle.interface.specs.declared.request.Request.{Request}
use Rattle.interface.specs.Requests.{rewind_code}
use Rattle.interface.specs.Slots.{is_committed}
use Rattle.interface.specs.Limits.{within}
use Rattle.interface.specs.Examples.{ok}
use Rattle.interface.proofs.SlotLaws.{committed-mapped}
use Rattle.comparison.proofs.CompareLaws.{agree_same, none-differs, changed-at-most, changed-none, lowest-unchanged, unchanged-lowest}
use Rattle.plain.specs.Machine.{Given, Core, Plain, same_at, differing, changed, core_value, number_at, answer}
use Rattle.plain_claims.specs.Lists.{up_to}
use Rattle.plain_claims.specs.PutBack.{rewind_of, CleanPutsNothingBack, NothingAfterSnapshot, NothingWhileRewound, AtMostFronts, ZeroExactly}
use Rattle.plain_claims.proofs.CleanLaws.{accepted-compare}
use Rattle.plain_claims.proofs.Claims.{claim-always, claim-clean-after-snapshot, claim-clean-while-rewound}

-- what an accepted rewind answers
rewind-answer : (g : Given) (p : Plain) (q : Request) → q.code ≡ rewind_code → number_at g p q ≡ 0 → answer g p q ≡ ok (changed (p q.sandbox).core)
unfolding answer core_value
rewind-answer g p q e n = rw (n, e)

-- ---- where call 10 finds nothing

clean-unchanged : (c : Core) → differing c ≡ 64 → changed c ≡ 0
unfolding differing changed
clean-unchanged c e =
    changed-none c.pages.slots (same_at c)
    (λ i l t. agree_same (c.pages.slots i) _ (same_at c i) (none-differs c.pages.slots _ (same_at c) e i l) (committed-mapped (c.pages.slots i) t))

pub clean-puts-nothing-back : (g : Given) → CleanPutsNothingBack g
unfolding within
clean-puts-nothing-back g s qs e =
    let ten = accepted-compare g (up_to g qs) s e in
    rewind-answer g (up_to g qs) (rewind_of s) refl ((claim-always g qs).next_rewind (rewind_of s) refl ten.0.in_row refl (ten.0.taken refl))
    ∙ ap ok (clean-unchanged (up_to g qs s).core ten.1)

pub nothing-after-snapshot : (g : Given) → NothingAfterSnapshot g
nothing-after-snapshot g s qs q t = clean-puts-nothing-back g s (qs ++ q ∷ []) (claim-clean-after-snapshot g s qs q t)

pub nothing-while-rewound : (g : Given) → NothingWhileRewound g
nothing-while-rewound g s qs r = clean-puts-nothing-back g s qs (claim-clean-while-rewound g s qs r)

-- ---- at most the fronts

-- a committed page without a front has the copy's bytes
old-same : (g : Given) (qs : List Request) (s i : ℕ) → let k = up_to g qs s in
    (is_committed (k.core.pages.slots i) && not (same_at k.core i)) ≡ true → (is_committed (k.core.pages.slots i) && k.traces.front i) ≡ true
old-same g qs s i h =
    let k = up_to g qs s in
    let both = and_both (is_committed (k.core.pages.slots i)) _ h in
    by_cases (k.traces.front i) (λ f. and-of both.0 f)
    (λ f. let bytes = ((claim-always g qs).reads s).old i both.0 f in
    let same : same_at k.core i ≡ true = alike_of _ _ 256 (λ j m. ap (λ (page : ℕ → ℕ). page j) bytes) in
    let none = rw same at both.1 in cc)

pub at-most-fronts : (g : Given) → AtMostFronts g
unfolding answer core_value changed
at-most-fronts g qs q e =
    let k = up_to g qs q.sandbox in
    by_cases (eqb (number_at g (up_to g qs) q) 0)
    (λ n. rw (n, e) (changed-at-most k.core.pages.slots (same_at k.core) _ (old-same g qs q.sandbox)))
    (λ n. rw n (omega arith))

-- ---- 0 exactly where nothing is changed

pub zero-exactly : (g : Given) → ZeroExactly g
unfolding changed
zero-exactly g p q e n =
    let c : Core = (p q.sandbox).core in
    let told = ap (λ a. a.value) (rewind-answer g p q e n) in record {
      nothing = λ h. told ∙ lowest-unchanged c.pages.slots (same_at c) h;
      only_there = λ z. unchanged-lowest c.pages.slots (same_at c) (sym told ∙ z);
    }
