-- The entries are folded by whether each names none.
use Rattle.std.proofs.Common.{true, ◌≡◌, ◌∙◌, refl, rules, fold}
use Rattle.std.proofs.lemmas.Fn.{fold_over, fronts}
use Rattle.std.proofs.lemmas.Iterator.{YieldsList-from_slice}
use Rattle.std.proofs.lemmas.List.Sums.{fold_push}
use Rattle.marks.proofs.EntryLaws.{also_none, none-folded}
use Rattle.marks.proofs.names_none.Goals as goal

pub returns : goal.returns
returns c =
    let xs = c.args.entries.now in
    fold_over fronts (λ y. y.now) _ (λ zs r. r ≡ fold also_none true zs) _
    (λ zs a x b f' j k. let more = fold_push also_none true zs x.now in search (rules, more))
    c.iter.result xs true c.fold.result (YieldsList-from_slice xs (search rules)).runs refl c.fold.ensures.ran
    ∙ none-folded xs
