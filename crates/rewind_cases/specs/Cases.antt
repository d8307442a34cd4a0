-- Request A5, what is claimed of the cases: "Show that each such page meets exactly one case, what its front then holds".
use Rattle.std.specs.Prelude.{◌≡◌, List, ℕ, ◌<◌}
use Rattle.std.proofs.Math.Option.{Option, none, some}
use Rattle.interface.specs.declared.page.Backing.{Backing}
use Rattle.interface.specs.declared.page.Backing.TheVariants.{Anonymous, Image}
use Rattle.pages.specs.Parts.{frame, zeros}
use Rattle.rewind_cases.specs.declared.RewindCase.{RewindCase}
use Rattle.rewind_cases.specs.declared.RewindCase.TheVariants.{Shared, Copied, Zeroed, ImagePage}
use Rattle.rewind_cases.specs.Rewind.{case_of}

-- when a page meets a case, of its front entry, its back entry and its backing; each is said by itself, in no order
abbrev pub Meets : ℕ → ℕ → Backing → RewindCase → Type 0
-- "page shared with the snapshot (no front)": with a back, or with neither
Meets front back backing Shared = front ≡ 0
-- "page with a copy (front and back)"
Meets front back backing Copied = (0 < front) × (0 < back)
-- "zeroed page (front alone, anonymous)"
Meets front back backing Zeroed = (0 < front) × (back ≡ 0) × (backing ≡ Anonymous)
-- "the image page (front alone, image)"
Meets front back backing (ImagePage page) = (0 < front) × (back ≡ 0) × (backing ≡ Image page)

-- "each such page meets exactly one case": the one that is found, and no other
pub record OneCase (front back : ℕ) (backing : Backing) : Type 0 where
  pub found : Meets front back backing (case_of front back backing)
  pub alone : (c : RewindCase) → Meets front back backing c → c ≡ case_of front back backing

-- "what its front then holds", of what its back held
abbrev pub front_then : List ℕ → Option (List ℕ) → RewindCase → Option (List ℕ)
front_then image back Shared = none
front_then image back Copied = back
front_then image back Zeroed = some (zeros 256)
front_then image back (ImagePage page) = some (frame 256 image page.0)
