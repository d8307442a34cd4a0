-- The sandbox that an argument names.
use Rattle.std.proofs.Common.{arith, ◌∙◌}
use borrow.Author.Tests.{lt-ltb, le-ltb, eq-eqb, ne_eqb}
use Rattle.archive_program.specs.Sandbox.{named}
use Rattle.archive_program.proofs.name.Goals as goal

pub returns-in-1-48-to-51 : goal.returns-in-1-48-to-51
unfolding named
returns-in-1-48-to-51 c =
    let first = c.args.first in
    simp (c.from.ensures, eq-eqb _ _ c.in-1-48-to-51.is-0, le-ltb first 48 (omega arith), le-ltb 51 first (omega arith))

pub returns-in_default : goal.returns-in_default
unfolding named
returns-in_default c = simp (eq-eqb _ _ c.in_default.is-0, lt-ltb c.args.first 48 (omega arith))

pub returns-in_default-2 : goal.returns-in_default-2
unfolding named
returns-in_default-2 c =
    let first = c.args.first in
    simp (eq-eqb _ _ c.in_default.is-0, le-ltb first 48 (omega arith), lt-ltb 51 first (omega arith))

pub returns-in_default-3 : goal.returns-in_default-3
unfolding named
returns-in_default-3 c = simp (ne_eqb _ _ c.in_default.is-0.1)
