-- The trailing zeros of a word are its lowest set place.
use native.Mathlib.Nat.{lt_of_le_of_lt}
use lib.Dec.{lit<}
use lib.Count.{trailing_le}
use Rattle.words.proofs.TrailingLaws.{trailing-lowest}
use Rattle.words.proofs.lowest_set.Goals as goal

pub overflow_cast-result : goal.overflow_cast-result
overflow_cast-result c = record { fits = lt_of_le_of_lt (trailing_le 64 _) (lit< tt) }

pub returns : goal.returns
returns c = trailing-lowest 64 c.args.word
