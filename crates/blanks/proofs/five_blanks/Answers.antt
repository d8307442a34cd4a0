-- Five blanks: four bytes make the number of four blanks exactly where each is a blank (`five-blanks`).
use Rattle.blanks.proofs.BlankLaws.{five-blanks}
use Rattle.blanks.proofs.five_blanks.Goals as goal

pub returns : goal.returns
returns c = rw (c.from_le_bytes-four.ensures, c.from_le_bytes.ensures) (five-blanks c.args.text.now c.args.at c.type_inv.text)
