-- The two stores, in this order, are the `move` of the store.
use Rattle.table.specs.Store.{move}
use Rattle.table.proofs.entry.move_front.Goals as goal

pub returns : goal.returns
unfolding move
returns c = λ h pool. rw (← c.front_index-from.ensures)
