-- The bytes that a page starts with.
use Rattle.std.specs.Prelude.{List, ℕ, ◌+◌}
use Rattle.interface.specs.declared.page.Backing.{Backing}
use Rattle.interface.specs.declared.page.Backing.TheVariants.{Anonymous, Image}
use Rattle.pages.specs.Parts.{frame, zeros}

-- "zero bytes or its image page": a page with this backing that was never written
abbrev pub backing_page : List ℕ → Backing → List ℕ
backing_page image Anonymous = zeros 256
backing_page image (Image page) = frame 256 image page.0

-- how many pages the image has to have for it
abbrev pub backing_end : Backing → ℕ
backing_end Anonymous = 0
backing_end (Image page) = page.0 + 1
