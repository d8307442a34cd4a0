-- The pairs of bytes are folded by whether both are the same.
use Rattle.std.proofs.Common.{true, ◌≡◌, ◌∙◌, refl, rules, fold}
use Rattle.std.proofs.lemmas.Fn.{fold_over, fronts}
use Rattle.std.proofs.lemmas.Iterator.{YieldsList-from_slice, YieldsList-from_zip, zips}
use Rattle.std.proofs.lemmas.List.Sums.{fold_push}
use Rattle.std.specs.List.{zip}
use Rattle.pages.proofs.SameLaws.{both_same, folded}
use Rattle.pages.proofs.is_same.Goals as goal

pub returns : goal.returns
returns c =
    let xs = c.args.part.now in
    let ys = c.args.other.now in
    fold_over (zips fronts fronts) (λ p. (p.0.now, p.1.now)) _ (λ zs r. r ≡ fold both_same true zs) _
    (λ zs a x b f' j k. let more = fold_push both_same true zs (x.0.now, x.1.now) in search (rules, more))
    c.zip.result (zip xs ys) true c.fold.result
    (YieldsList-from_zip (YieldsList-from_slice xs (search rules)) (YieldsList-from_slice ys (search rules))).runs refl c.fold.ensures.ran
    ∙ folded xs ys c.requires
