-- The eight bytes that std makes of a word, the lowest first, are its digits.
use Rattle.std.proofs.Common.{ap, sym, refl, ◌≡◌, ◌∙◌, ℕ, ◌/◌, ◌%◌, ◌∷◌, [], List, arith}
use Rattle.std.specs.Int.{w64, to_le_bytes}
use Rattle.layout.specs.Rows.{digits}
use Rattle.fields.proofs.word.encode_word.Goals as goal

digits-le : (n : ℕ) → to_le_bytes w64 n ≡ digits 8 n
unfolding digits
digits-le n =
    let e2 : n / 65536 ≡ n / 256 / 256 = omega arith in
    let e3 : n / 16777216 ≡ n / 256 / 256 / 256 = omega arith in
    let e4 : n / 4294967296 ≡ n / 256 / 256 / 256 / 256 = omega arith in
    let e5 : n / 1099511627776 ≡ n / 256 / 256 / 256 / 256 / 256 = omega arith in
    let e6 : n / 281474976710656 ≡ n / 256 / 256 / 256 / 256 / 256 / 256 = omega arith in
    let e7 : n / 72057594037927936 ≡ n / 256 / 256 / 256 / 256 / 256 / 256 / 256 = omega arith in
    rw (e2, e3, e4, e5, e6, e7) refl

pub returns : goal.returns
returns c = c.copy_from_slice.ensures.after ∙ c.to_le_bytes.ensures ∙ digits-le c.args.word
