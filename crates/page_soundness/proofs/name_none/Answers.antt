-- The entries of the pages are a part of the table.
use Rattle.std.proofs.Common.{ℕ, List, ◌≡◌, ◌∙◌, ◌+◌, ◌-◌, ◌≤◌, ◌<◌, sym, ap, arith, eqb, get_or, length, take, drop}
use lib.Seq.{get_or-take, get_or-drop}
use Rattle.basics.specs.Ranges.{every}
use Rattle.basics.proofs.LoopLaws.{every-at, every_of}
use Rattle.basics.proofs.TestLaws.{both_ways}
use Rattle.marks.proofs.EntryLaws.{none_at, length-part}
use Rattle.page_soundness.proofs.name_none.Goals as goal

none-there : (t : List ℕ) (first page end : ℕ) → page ≤ end → first + end ≤ length t
    → every (none_at (take ((first + end) - (first + page)) (drop (first + page) t))) 0 (length (take ((first + end) - (first + page)) (drop (first + page) t)))
    ≡ every (λ i. eqb (get_or t (first + i) 0) 0) page (end - page)
none-there t first page end l h =
    let part : List ℕ = take ((first + end) - (first + page)) (drop (first + page) t) in
    let whole : length part ≡ (first + end) - (first + page) = length-part t (first + page) (first + end) (omega arith) h in
    let at : (k : ℕ) → k < end - page → get_or part k 0 ≡ get_or t (first + (page + k)) 0 =
    λ k m. let place : first + page + k ≡ first + (page + k) = omega arith in
    get_or-take ((first + end) - (first + page)) (drop (first + page) t) k 0 (omega arith) ∙ get_or-drop (first + page) t k 0
    ∙ ap (λ (j : ℕ). get_or t j 0) place in
    both_ways _ _
    (λ w. every_of (λ i. eqb (get_or t (first + i) 0) 0) page (end - page)
    (λ i a b.
    let back : page + (i - page) ≡ i = omega arith in
    ap (λ (j : ℕ). eqb (get_or t (first + j) 0) 0) (sym back) ∙ sym (ap (λ (e : ℕ). eqb e 0) (at (i - page) (omega arith)))
    ∙ every-at (none_at part) 0 (length part) w (i - page) (omega arith) (omega (arith, whole))))
    (λ w. every_of (none_at part) 0 (length part)
    (λ j a b.
    ap (λ (e : ℕ). eqb e 0) (at j (omega (arith, whole)))
    ∙ every-at (λ i. eqb (get_or t (first + i) 0) 0) page (end - page) w (page + j) (omega arith) (omega (arith, whole))))

pub returns : goal.returns
returns c =
    let a = c.args in
    c.names_none.ensures ∙ none-there a.table.now a.first a.page a.end c.requires.page_le_end c.requires.end_in_bounds
