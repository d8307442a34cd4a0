-- Both pages' bytes, wherever they stand, are compared.
use Rattle.std.proofs.Common.{◌∙◌, ap, ap₂, refl, ℕ, List}
use Rattle.pages.specs.Parts.{same_bytes, zeros}
use Rattle.page_comparison.proofs.same_pages.Goals as goal

pub bytes_of-requires-clause-zero_value : goal.bytes_of-requires-clause-zero_value
unfolding zeros
bytes_of-requires-clause-zero_value c = refl

pub bytes_of-requires-2-clause-zero_value : goal.bytes_of-requires-2-clause-zero_value
unfolding zeros
bytes_of-requires-2-clause-zero_value c = refl

pub returns : goal.returns
returns c =
    let one = c.bytes_of in
    let two = c.bytes_of-2 in
    c.is_same.ensures ∙ ap (λ (n : ℕ). same_bytes n one.result.now two.result.now) one.ensures.len
    ∙ ap₂ (λ (xs ys : List ℕ). same_bytes 256 xs ys) one.ensures.bytes two.ensures.bytes
