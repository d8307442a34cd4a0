-- The array has, at each place, what the part there gives.
use Rattle.std.proofs.Common.{sym, refl, ap, ◌∙◌, [], ◌≡◌, ℕ, zero, suc, ◌+◌, ◌<◌, ◌≤◌, List, arith}
use lib.Dec.{eqb}
use lib.ListN.{get_or}
use borrow.Author.Tests.{eqb-true, eqb-false}
use Rattle.std.specs.Fn.{Mut, Called}
use Rattle.std.specs.Array.{IsFromFnResultFrom}
use Rattle.basics.proofs.TestLaws.{by_cases}
use Rattle.layout.specs.Rows.{part_in}
use Rattle.layout.proofs.RowLaws.{firsts-of}
use Rattle.fields.proofs.bytes.decode_row.Goals as goal

-- where P stays true of a closure that is called, and it then answers h of each number, the array has h of each place
made : {F B : Type 0} (g : Mut F (ℕ × Unit {0}) B) (P : F → Type 0) (h : ℕ → B) (ys : List B)
    → ((f q : F) (k : ℕ) (y : B) → P f → Called g f (k, tt) y q → P q × (y ≡ h k))
    → (n i : ℕ) (f : F) → P f → IsFromFnResultFrom g f ys i n → (k : ℕ) (d : B) → i ≤ k → k < i + n → h k ≡ get_or ys k d
made g P h ys answers zero i f p t k d from below = absurd (omega arith)
made g P h ys answers (suc n) i f p (q, y, at, call, rest) k d from below =
    let e = answers f q i y p call in
    by_cases (eqb k i) (λ t. ap h (eqb-true k i t) ∙ sym e.1 ∙ sym (at.1 d) ∙ ap (λ j. get_or ys j d) (sym (eqb-true k i t)))
    (λ t. made g P h ys answers n (i + 1) q e.0 rest k d (omega (arith, eqb-false k i t)) (omega arith))

pub returns : goal.returns
returns g c =
    let m = g.F.Form in
    let bytes = c.args.bytes.now in
    let r = c.from_fn.ensures.items in
    let value : ℕ → g.row.F-Value.Denot = λ k. m.decode (part_in m.SIZE bytes k) in
    sym (firsts-of value (m.decode []) c.from_fn.result g.row.N r.long
    (λ k h. made _ (λ f. f.0.now ≡ bytes) value c.from_fn.result
    (λ f q j y same call. (ap (λ b. b.now) call.met.0 ∙ same, call.met.1 ∙ ap (λ b. m.decode (part_in m.SIZE b j)) same))
    g.row.N 0 _ refl r.each k (m.decode []) (omega arith) (omega arith)))
