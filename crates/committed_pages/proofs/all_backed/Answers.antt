-- The areas that were passed are in the snapshot where they are committed, so whether all are is whether the rest are.
use Rattle.std.proofs.Common.{ℕ, Bool, ◌≡◌, ◌<◌, ◌≤◌, true, sym, ◌∙◌, arith, get_or}
use Rattle.basics.proofs.LoopLaws.{every-next, every-stop, every-end}
use Rattle.areas.specs.Areas.{none}
use Rattle.areas.proofs.WalkLaws.{held-length, held-at}
use Rattle.committed_pages.proofs.AreaLaws.{backed_area, backed-areas}
use Rattle.committed_pages.proofs.BackedLaws.{lies-passes}
use Rattle.committed_pages.proofs.all_backed.Goals as goal
use Rattle.committed_pages.proofs.all_backed.Goals.{then-not-lies_in+else-not-is_backed, else-not-lies_in}

pub returns-then-not-is_backed : goal.returns-then-not-is_backed
returns-then-not-is_backed c =
    let a = c.args in
    let k : ℕ = c.loop-k.k in
    let items = c.as_slice-area-items in
    let P : ℕ → Bool = λ k. backed_area a.snapshot (get_or a.present.list k none) in
    let low : k < a.present.count = omega (arith, held-length a.present c.requires.formed _ items.ensures, c.loop-k-test.true) in
    let here = rw (held-at a.present c.requires.formed _ items.ensures k c.loop-k-test.true) at c.is_backed.ensures in
    sym (sym (backed-areas a.present c.requires.formed a.snapshot) ∙ c.loop-k.invariant
    ∙ every-stop P a.present.count k low (sym here ∙ c.if-not-is_backed.true))

pub loop-k-preserved : goal.loop-k-preserved
loop-k-preserved c =
    let a = c.args in
    let k : ℕ = c.loop-k.k in
    let items = c.as_slice-area-items in
    let P : ℕ → Bool = λ k. backed_area a.snapshot (get_or a.present.list k none) in
    let low : k < a.present.count = omega (arith, held-length a.present c.requires.formed _ items.ensures, c.loop-k-test.true) in
    let there : get_or items.result.now k none ≡ get_or a.present.list k none =
    held-at a.present c.requires.formed _ items.ensures k c.loop-k-test.true in
    let passes : P k ≡ true =
    elim c.if-not-lies_in.branch [
      | then-not-lies_in+else-not-is_backed w ↦ sym (rw there at w.is_backed.ensures) ∙ w.if-not-is_backed.false
      | else-not-lies_in w ↦ lies-passes a.snapshot c.requires.formed_2 (get_or a.present.list k none) k
          (sym (rw there at c.lies_in.ensures) ∙ w.if-not-lies_in.false)
    ] in
    c.loop-k.invariant ∙ every-next P a.present.count k low passes

pub returns : goal.returns
returns c =
    let a = c.args in
    let P : ℕ → Bool = λ k. backed_area a.snapshot (get_or a.present.list k none) in
    let past : a.present.count ≤ c.loop-k.k =
    omega (arith, held-length a.present c.requires.formed _ c.as_slice-area-items.ensures, c.loop-k-test.false) in
    sym (sym (backed-areas a.present c.requires.formed a.snapshot) ∙ c.loop-k.invariant ∙ every-end P a.present.count c.loop-k.k past)
