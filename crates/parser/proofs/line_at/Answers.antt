-- The line at a place: past the whole lines there is none (`past-line`), and else the part of its 43 bytes is parsed.
use Rattle.std.proofs.Common.{◌*◌, sym, arith}
use native.Mathlib.Nat.{add-sub_cancel_left}
use Rattle.lines.proofs.LineLaws.{past-line}
use Rattle.lines.specs.Lines.{line_at}
use Rattle.parser.proofs.line_at.Goals as goal

pub returns-then-roll-line : goal.returns-then-roll-line
returns-then-roll-line c = sym (past-line c.args.roll.now c.args.line (omega arith))

pub returns : goal.returns
unfolding line_at
returns c = rw (c.parse.ensures, add-sub_cancel_left (c.args.line * 43) 43)
