-- Request A5, what a rewind makes of the store, page by page: "For each committed page still mapped, state and treat the cases in the order of that text",
-- which is section 3.2.2 of document 000. What is called "the original PTE" there is the page's front entry here, and "the buddy PTE" its back entry.
use Rattle.std.specs.Prelude.{Bool, List, ℕ, zero, suc, ◌+◌, ◌-◌}
use Rattle.basics.specs.Choice.{◌when◌else◌}
use Rattle.interface.specs.declared.page.Backing.{Backing}
use Rattle.interface.specs.declared.page.Backing.TheVariants.{Anonymous, Image}
use Rattle.pages.specs.Parts.{frame, zeros}
use Rattle.table.specs.Store.{Store, entry, free, fill}
use Rattle.rewind_cases.specs.declared.RewindCase.{RewindCase}
use Rattle.rewind_cases.specs.declared.RewindCase.TheVariants.{Shared, Copied, Zeroed, ImagePage}

-- ---- a committed page still mapped

-- its case, by its front entry, its back entry and its backing: "page shared with the snapshot (no front), page with a copy (front and back), zeroed page
-- (front alone, anonymous), then the image page (front alone, image)"
abbrev pub case_of : ℕ → ℕ → Backing → RewindCase
case_of zero back backing = Shared
case_of (suc front) (suc back) backing = Copied
case_of (suc front) zero Anonymous = Zeroed
case_of (suc front) zero (Image page) = ImagePage page

-- what is done in each case to the page with the front entry k and the back entry j
unfoldable pub restore_page : List ℕ → ℕ → ℕ → RewindCase → Store → Store
-- "In the first case, the memory rewind operation does nothing because the original PTE points to an unmodified page"
restore_page image k j Shared s = s
-- "In the second case, we copy data from the buddy PTE's page to the original PTE's page."
restore_page image k j Copied s = fill 256 k (frame 256 s.pool (entry s j - 1)) s
-- "In the third case, the original PTE is preserved and the page is cleared to zero."
restore_page image k j Zeroed s = fill 256 k (zeros 256) s
-- The fourth case there is "a file page in a shared file mapping", which document 01 leaves out; the request puts the image page in its place: its front too is
-- preserved, and its bytes are the image's again.
restore_page image k j (ImagePage page) s = fill 256 k (frame 256 image page.0) s

-- ---- any page, and the pages of a sandbox

-- document 01: a committed page still mapped "keeps its front, whose bytes become the snapshot's. All other fronts are freed and cleared."
unfoldable pub rewind_page : List ℕ → ℕ → ℕ → Bool → Backing → Store → Store
rewind_page image k j keep backing s = restore_page image k j (case_of (entry s k) (entry s j) backing) s when keep else free 256 k s

-- the first n pages of the sandbox whose entries start at first: which are committed and still mapped, and the backing of each
unfoldable pub rewind_to : List ℕ → ℕ → (ℕ → Bool) → (ℕ → Backing) → Store → ℕ → Store
rewind_to image first keep backing s zero = s
rewind_to image first keep backing s (suc n) = rewind_page image (first + n) (first + n + 64) (keep n) (backing n) (rewind_to image first keep backing s n)
