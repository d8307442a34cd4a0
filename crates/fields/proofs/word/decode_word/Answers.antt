-- What std reads of eight bytes, the lowest first, is what they spell.
use Rattle.std.proofs.Common.{ap, sym, ◌∙◌, arith}
use Rattle.std.specs.Int.{w64, from_le_bytes}
use Rattle.layout.proofs.RowLaws.{spelled-eight}
use Rattle.fields.proofs.word.decode_word.Goals as goal

pub returns : goal.returns
returns c =
    let e = spelled-eight c.args.bytes.now c.requires in
    c.from_le_bytes.ensures ∙ ap (from_le_bytes w64) c.copy_from_slice.ensures.after ∙ (omega arith) ∙ sym e
