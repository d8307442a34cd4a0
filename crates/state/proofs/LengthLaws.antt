-- Which lent lengths are wrong, on both sides of each limit, by computation.
use mathlib.Core.Path.{◌≡◌, refl}
use mathlib.Core.Bool.{true}
use Rattle.state.specs.Lengths.{lendings, lengths_tested}

pub lengths-tested : lengths_tested lendings ≡ true
unfolding lengths_tested
lengths-tested = refl
