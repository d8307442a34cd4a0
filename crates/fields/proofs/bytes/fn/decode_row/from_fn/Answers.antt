-- What is lent is the part.
use Rattle.std.proofs.Common.{◌*◌}
use Rattle.layout.proofs.PartsLaws.{part-lent}
use Rattle.fields.proofs.bytes.fn.decode_row.from_fn.Goals as goal

pub returns : goal.returns
returns g c =
    let m = g.F.Form in
    rw (c.SIZE.ensures, c.SIZE-2.ensures, part-lent c.captures.bytes.now (c.args.k * m.SIZE) m.SIZE) at c.decode.ensures
