-- Where no page is left before the one named, nothing is done.
use Prim.Native.Nat.{◌-◌}
use mathlib.Core.Path.{◌≡◌}
use native.Mathlib.Omega.{arith}
use borrow.Author.Rules.{rules}
use Rattle.table.specs.Store.{free_to}
use Rattle.area_rewind.proofs.free_before.Statement.{statement}
use Rattle.area_rewind.proofs.free_before.Tie as tie

returns : tie.Need-returns-then-first-end
unfolding free_to
returns c =
    let a = c.args in
    let none : a.end - a.done.page.0 ≡ 0 = omega (arith, c.if-first-end.true) in
    rw none

sub-free-range : tie.Need-overflow_sub-end
sub-free-range c = search rules

free-range-requires : tie.Need-free_range-requires
free-range-requires c κs =
    let s = c.before.before.before.before.before.before.before.before.before in
    (s.requires.0, (omega (arith, s.requires.1.0, s.requires.1.1.0), s.requires.1.1.1))

same_length : tie.Need-shape_of-pool
same_length c = search rules

same-length-2 : tie.Need-shape_of-table
same-length-2 c = search rules

returns-2 : tie.Need-returns
returns-2 c = search rules

pub free_before_spec : {M : Type 1} → statement M
free_before_spec = tie.close (tie.spec returns sub-free-range free-range-requires same_length same-length-2 returns-2)
