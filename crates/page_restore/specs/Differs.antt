-- Request A4, "Copying a page back now also says whether any byte differed": of one page.
use Rattle.std.proofs.Math.Option.{Option, none, some}
use Rattle.std.specs.Prelude.{List, Bool, false, ℕ}
use Rattle.pages.specs.Parts.{differs}
use Rattle.table.specs.Store.{Store, contents, page_from}

-- the front of a page beside the bytes that it gets; a page without one is not looked at
abbrev pub front_differs : ℕ → List ℕ → Option (List ℕ) → Bool
front_differs size bytes none = false
front_differs size bytes (some page) = differs size page bytes

-- of the front entry k of a page with the back entry j, and with these bytes where there is no back
abbrev pub page_differs : ℕ → ℕ → ℕ → List ℕ → Store → Bool
page_differs size k j bytes s = front_differs size (page_from bytes (contents size s j)) (contents size s k)
