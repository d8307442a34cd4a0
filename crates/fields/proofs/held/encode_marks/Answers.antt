-- The two words, each written into its half, are the bytes of the marks.
use Rattle.std.proofs.Common.{[]}
use Rattle.layout.specs.Layout.{marks_parts, marks_bytes}
use Rattle.layout.proofs.LengthLaws.{sized-marks}
use Rattle.layout.proofs.PartsLaws.{laid_out}
use Rattle.fields.proofs.held.encode_marks.Goals as goal

pub returns : goal.returns
unfolding marks_bytes
returns c =
    rw (c.encode_word.ensures, c.encode_word-2.ensures) (laid_out [] (marks_parts c.args.held) c.args.out.now c.requires (sized-marks c.args.held))
