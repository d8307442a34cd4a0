-- What a page reads but for a front is a whole page.
use mathlib.Core.Path.{◌≡◌}
use mathlib.Core.Bool.{Bool, true, false}
use mathlib.Core.List.{List}
use Prim.Native.Nat.{ℕ, ◌*◌, ◌≤◌}
use native.Mathlib.Omega.{arith}
use lib.ListN.{length}
use Rattle.pages.proofs.PartLaws.{length-zeros, length-frame}
use Rattle.interface.specs.declared.page.Backing.{Backing}
use Rattle.interface.specs.declared.page.Backing.TheVariants.{Anonymous, Image}
use Rattle.table.specs.Store.{Store, contents, under_front, Tidy}
use Rattle.table.specs.Backing.{backing_page, backing_end}
use Rattle.table.proofs.StoreLaws.{page-whole}

pub backing-whole : (image : List ℕ) (backing : Backing) → backing_end backing * 256 ≤ length image → length (backing_page image backing) ≡ 256
backing-whole image Anonymous fits = length-zeros 256
backing-whole image (Image page) fits = length-frame 256 image page.0 (omega arith)

pub under_whole : {C : ℕ → Type 0} (size n : ℕ) (s : Store) → Tidy C size n s → (k : ℕ) (bytes : List ℕ) → length bytes ≡ size
    → (committed : Bool) → length (under_front committed bytes (contents size s k)) ≡ size
under_whole size n s t k bytes w true = page-whole size n s t k bytes w
under_whole size n s t k bytes w false = w
