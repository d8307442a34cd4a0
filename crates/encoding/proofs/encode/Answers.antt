-- The sandboxes and the held marks, each written into its part, are the bytes of the state.
use Rattle.std.proofs.Common.{[], sym, length-take-le, arith}
use Rattle.state.specs.World.{closed_sandbox}
use Rattle.layout.specs.Layout.{held_at, state_parts, state_bytes}
use Rattle.layout.proofs.LengthLaws.{sized-state}
use Rattle.layout.proofs.PartsLaws.{laid_out}
use Rattle.encoding.proofs.encode.Goals as goal

pub slice_bounds-encode_row-end-2 : goal.slice_bounds-encode_row-end-2
slice_bounds-encode_row-end-2 c = sym (length-take-le held_at c.args.out.now (omega (arith, c.requires)))

pub returns : goal.returns
unfolding state_bytes
returns c =
    let m = c.args.machine in
    rw (c.encode_row.ensures closed_sandbox, c.encode_marks.ensures) (laid_out [] (state_parts m) c.args.out.now c.requires (sized-state m))
