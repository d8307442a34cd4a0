-- The answer is printed into the bytes of its place, and the rest stays: `part-is`.
use Rattle.std.proofs.Common.{◌≡◌, ◌++◌, ℕ, ◌+◌, ◌-◌, ◌*◌, List, take, drop, refl, ap, ◌∙◌, drop-drop, arith}
use Rattle.reply_text.proofs.print_answer.Goals as goal

part-is : (xs ys : List ℕ) (at : ℕ) → take at xs ++ (ys ++ drop (at + 19 - at) (drop at xs)) ≡ take at xs ++ (ys ++ drop (at + 19) xs)
part-is xs ys at =
    let n : at + 19 - at ≡ 19 = omega arith in
    rw (n, drop-drop) refl

pub returns : goal.returns
returns c =
    let a = c.args in
    let at = a.place * 19 in
    part-is a.out.now c.print.new.out at ∙ ap (λ ys. take at a.out.now ++ (ys ++ drop (at + 19) a.out.now)) c.print.ensures
