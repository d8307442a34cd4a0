-- Whether all areas are committed, place by place, is whether all their pages are.
use Rattle.std.proofs.Common.{ℕ, Bool, zero, suc, ◌≡◌, ◌≤◌, ◌+◌, true, refl, sym, ◌∙◌, arith, rules, length, get_or, take}
use Rattle.std.specs.List.{list_all}
use Rattle.std.proofs.lemmas.List.Folds.{list_all_more}
use Rattle.std.proofs.lemmas.Iterator.{YieldsList-from_slice}
use Rattle.std.proofs.lemmas.Iterator.Search.{all_from_yields_List}
use borrow.Author.Tests.{tests}
use Rattle.basics.specs.Ranges.{every}
use Rattle.basics.proofs.LoopLaws.{every-last}
use Rattle.areas.specs.declared.area.Area.{Area}
use Rattle.areas.specs.declared.area.Areas.{Areas}
use Rattle.areas.specs.Areas.{none}
use Rattle.committed_pages.proofs.AreaLaws.{committed-areas}
use Rattle.committed_pages.proofs.all_committed.Goals as goal

-- the mark of the area in each place
abbrev marks : Areas → ℕ → Bool
marks s k = (get_or s.list k none).committed

no-place : (p : ℕ → Bool) → true ≡ every p 0 0
unfolding every
no-place p = refl

up-to : (s : Areas) (n : ℕ) → n ≤ length s.list → list_all (λ (a : Area). a.committed) (take n s.list) ≡ every (marks s) 0 n
up-to s zero h = no-place (marks s)
up-to s (suc n) h =
    let e : suc n ≡ n + 1 = omega arith in
    rw e (list_all_more (λ (a : Area). a.committed) s.list n none (omega arith) ∙ rw (up-to s n (omega arith)) (sym (every-last (marks s) n)))

pub returns : goal.returns
returns c =
    let s = c.args.areas in
    let told : c.all.result ≡ list_all (λ (a : Area). a.committed) (take s.count s.list) =
    all_from_yields_List (λ (a : Area). a.committed) _ _ _ c.all.ensures.ran (YieldsList-from_slice (take s.count s.list) cc)
    (λ x b q k. search (rules, tests)) in
    told ∙ up-to s s.count (omega (arith, c.requires.formed.eight, c.requires.formed.few)) ∙ committed-areas s c.requires
