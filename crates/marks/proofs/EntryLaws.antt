-- Entries in a row, folded from the first on.
use Prim.Native.Nat.{ℕ, zero, suc, ◌+◌, ◌-◌, ◌≤◌, ◌<◌}
use mathlib.Core.Path.{◌≡◌, refl, sym, ap, ap₂, ◌∙◌}
use mathlib.Core.Bool.{Bool, true, not, ◌&&◌}
use mathlib.Core.List.{List}
use native.Mathlib.Numerals.{add-one}
use native.Mathlib.Omega.{arith}
use lib.Dec.{eqb}
use borrow.Author.Tests.{ne_eqb}
use lib.ListN.{length, get_or, take, drop, length-take, length-drop}
use lib.Seq.{take_all, get_or-take, get_or-drop}
use Rattle.std.specs.Prelude.{fold, sum_by}
use Rattle.std.specs.Int.{from_bool}
use Rattle.std.proofs.lemmas.List.Sums.{fold_more, sum_by_more}
use Rattle.basics.specs.Ranges.{every, sum}
use Rattle.basics.proofs.LoopLaws.{every-last, every-at, every_of}
use Rattle.basics.proofs.TestLaws.{both_ways}
use Rattle.words.proofs.SumLaws.{sum_same}
use Rattle.marks.specs.Named.{used, used_below}
use Rattle.marks.specs.Marks.{from}

-- so far no entry names a frame, and nor does this one
abbrev pub also_none : Bool → ℕ → Bool
also_none none e = none && eqb e 0

abbrev pub none_at : List ℕ → ℕ → Bool
none_at xs j = eqb (get_or xs j 0) 0

none-up_to : (xs : List ℕ) (i : ℕ) → i ≤ length xs → fold also_none true (take i xs) ≡ every (none_at xs) 0 i
unfolding every
none-up_to xs zero h = refl
none-up_to xs (suc i) h =
    ap (λ (n : ℕ). fold also_none true (take n xs)) (sym (add-one i)) ∙ fold_more also_none true xs i 0 (omega arith)
    ∙ ap (λ (b : Bool). b && none_at xs i) (none-up_to xs i (omega arith)) ∙ sym (every-last (none_at xs) i) ∙ ap (every (none_at xs) 0) (add-one i)

pub none-folded : (xs : List ℕ) → fold also_none true xs ≡ every (none_at xs) 0 (length xs)
none-folded xs = ap (fold also_none true) (sym (take_all (length xs) xs (omega arith))) ∙ none-up_to xs (length xs) (omega arith)

-- the entries of a list, each by its place
abbrev pub entry : List ℕ → ℕ → ℕ
entry xs k = get_or xs k 0

-- 1 for an entry that names a frame, as the code counts it
abbrev pub names : ℕ → ℕ
names e = from_bool (not (eqb e 0))

names-used : (e : ℕ) → names e ≡ used e
names-used zero = refl
names-used (suc f) = ap (λ (b : Bool). from_bool (not b)) (ne_eqb (suc f) 0 (omega arith))

names-up_to : (xs : List ℕ) (i : ℕ) → i ≤ length xs → sum_by names (take i xs) ≡ used_below (entry xs) i
unfolding used_below sum
names-up_to xs zero h = refl
names-up_to xs (suc i) h =
    ap (λ (n : ℕ). sum_by names (take n xs)) (sym (add-one i)) ∙ sum_by_more names xs i 0 (omega arith)
    ∙ ap₂ (λ (m n : ℕ). m + n) (names-up_to xs i (omega arith)) (names-used (get_or xs i 0))

pub names-summed : (xs : List ℕ) → sum_by names xs ≡ used_below (entry xs) (length xs)
names-summed xs = ap (sum_by names) (sym (take_all (length xs) xs (omega arith))) ∙ names-up_to xs (length xs) (omega arith)

-- the n entries from a place on, as a part of the table
pub entries_at : (t : List ℕ) (at n k : ℕ) → k < n → get_or (take ((at + n) - at) (drop at t)) k 0 ≡ get_or t (at + k) 0
entries_at t at n k l = get_or-take ((at + n) - at) (drop at t) k 0 (omega arith) ∙ get_or-drop at t k 0

pub length-part : (t : List ℕ) (at end : ℕ) → at ≤ end → end ≤ length t → length (take (end - at) (drop at t)) ≡ end - at
length-part t at end l h = simp (length-take, length-drop) (omega arith)

pub length-entries : (t : List ℕ) (at n : ℕ) → at + n ≤ length t → length (take ((at + n) - at) (drop at t)) ≡ n
length-entries t at n h = simp (length-take, length-drop) (omega arith)

pub used-part : (t : List ℕ) (at n : ℕ) → at + n ≤ length t
    → used_below (entry (take ((at + n) - at) (drop at t))) (length (take ((at + n) - at) (drop at t))) ≡ used_below (from at t) n
unfolding used_below
used-part t at n h =
    ap (used_below (entry (take ((at + n) - at) (drop at t)))) (length-entries t at n h)
    ∙ sum_same (λ k. used (get_or (take ((at + n) - at) (drop at t)) k 0)) (λ k. used (from at t k)) n (λ k l. ap used (entries_at t at n k l))

-- no more entries name a frame than there are
used-one : (e : ℕ) → used e ≤ 1
used-one zero = omega arith
used-one (suc f) = omega arith

pub used-small : (p : ℕ → ℕ) (n : ℕ) → used_below p n ≤ n
unfolding used_below sum
used-small p zero = omega arith
used-small p (suc n) = omega (arith, used-small p n, used-one (p n))

-- that none of them names a frame
pub none-part : (t : List ℕ) (at n : ℕ) → at + n ≤ length t
    → every (none_at (take ((at + n) - at) (drop at t))) 0 (length (take ((at + n) - at) (drop at t))) ≡ every (λ j. eqb (get_or t (at + j) 0) 0) 0 n
none-part t at n h =
    ap (every (none_at (take ((at + n) - at) (drop at t))) 0) (length-entries t at n h)
    ∙ both_ways _ _
    (λ w. every_of _ 0 n (λ j a b. sym (ap (λ (e : ℕ). eqb e 0) (entries_at t at n j (omega arith))) ∙ every-at _ 0 n w j a b))
    (λ w. every_of _ 0 n (λ j a b. ap (λ (e : ℕ). eqb e 0) (entries_at t at n j (omega arith)) ∙ every-at _ 0 n w j a b))
