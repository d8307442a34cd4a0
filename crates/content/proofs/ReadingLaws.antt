-- The image page of a page's backing is there, and a page read by its slot is the page of the sandbox.
use Prim.Native.Nat.{ℕ, ◌*◌, ◌≤◌}
use mathlib.Core.Path.{◌≡◌}
use mathlib.Core.List.{List}
use native.Mathlib.Omega.{arith}
use lib.ListN.{length}
use Rattle.interface.specs.declared.page.Backing.{Backing}
use Rattle.interface.specs.declared.page.Backing.TheVariants.{Anonymous, Image}
use Rattle.interface.specs.declared.page.Slot.{Slot}
use Rattle.interface.specs.declared.page.PageNo.{PageNo}
use Rattle.interface.specs.Slots.{backing_at}
use Rattle.interface.specs.Numbers.{pages_in}
use Rattle.table.specs.Store.{Store}
use Rattle.table.specs.Backing.{backing_end}
use Rattle.table.specs.Virtual.{bytes_under, bytes_read}
use Rattle.areas.specs.declared.area.Areas.{Areas}
use Rattle.areas.specs.Areas.{slots}
use Rattle.areas.specs.Formed.{WellFormed, ImagesExist}
use Rattle.records.specs.declared.Record.{Record}
use Rattle.records.proofs.ImageLaws.{image-exists}
use Rattle.content.specs.Content.{page_under, page_read}

-- the image page of a page's backing is there
pub backing-there : (image : List ℕ) (a : Areas) → WellFormed (pages_in (length image)) a → (i : ℕ)
    → backing_end (backing_at (slots a i)) * 256 ≤ length image
backing-there image a f i = go (backing_at (slots a i)) (image-exists (pages_in (length image)) a f i)
  where
    go : (b : Backing) → ImagesExist (pages_in (length image)) b 1 → backing_end b * 256 ≤ length image
    go Anonymous e = omega arith
    go (Image p) e = omega arith

-- what a page reads, by what stands there
module _ (image : List ℕ) (st : Store) (b : Record) (s : ℕ) (number : PageNo) (slot : Slot) (is : slot ≡ slots b.present number.0) where
  pub under-is : bytes_under image st (record { sandbox = s; number = number; slot = slot }) ≡ page_under image st b s number.0
  unfolding page_under
  under-is = rw is

  pub read_is : bytes_read image st (record { sandbox = s; number = number; slot = slot }) ≡ page_read image st b s number.0
  unfolding page_read page_under
  read_is = rw is
