-- The leading zeros of the complement, masked to the places asked for, give the greatest place that is not set.
use mathlib.Core.Path.{sym}
use native.Mathlib.Nat.{lt_of_le_of_lt}
use lib.Dec.{lit<}
use lib.Count.{leading_le}
use borrow.Author.Rules.{rules}
use Rattle.free_frames.specs.Greatest.{greatest}
use Rattle.free_frames.proofs.ComplementLaws.{unset-none, unset-is, zeros-le}
use Rattle.free_frames.proofs.greatest_unset.Goals as goal

pub returns-then-places-eq0 : goal.returns-then-places-eq0
unfolding greatest
returns-then-places-eq0 c = rw c.if-places-eq0.true

pub returns-then-free-eq0 : goal.returns-then-free-eq0
returns-then-free-eq0 c = sym (unset-none _ _ c.ranges.word.fits c.requires c.if-free-eq0.true)

pub overflow_cast-zeros : goal.overflow_cast-zeros
overflow_cast-zeros c = record { fits = lt_of_le_of_lt (leading_le 64 _) (lit< tt) }

pub overflow_sub-result : goal.overflow_sub-result
overflow_sub-result c = zeros-le _ _ c.ranges.word.fits c.requires c.if-free-eq0.false

pub returns : goal.returns
returns c = unset-is _ _ c.ranges.word.fits c.requires c.if-free-eq0.false
