-- What the restoring of so many committed pages leaves, and what it tells.
use Rattle.std.specs.Prelude.{◌≡◌, true, List, ℕ}
use Rattle.interface.specs.declared.page.Backing.{Backing}
use Rattle.interface.specs.Slots.{advance}
use Rattle.table.specs.Store.{Store}
use Rattle.rewind_cases.specs.Rewind.{rewind_to}
use Rattle.restoring.specs.Changed.{changed_to}

-- each page "keeps its front, whose bytes become the snapshot's"; and those whose bytes differed are counted
pub record RestoredTo (image : List ℕ) (backing : Backing) (at : ℕ) (before after : Store) (changed pages : ℕ) : Type 0 where
  pub left : after ≡ rewind_to image at (λ i. true) (advance backing) before pages
  pub told : changed ≡ changed_to image at (λ i. true) (advance backing) before pages
