-- The image page behind a page of well formed areas exists.
use mathlib.Core.Path.{◌≡◌}
use Prim.Native.Nat.{ℕ, ◌<◌}
use native.Mathlib.Omega.{arith}
use Rattle.interface.specs.declared.page.ImagePageNo.{ImagePageNo}
use Rattle.interface.specs.declared.page.Backing.TheVariants.{Image}
use Rattle.interface.specs.Slots.{backing_at}
use Rattle.areas.specs.declared.area.Areas.{Areas}
use Rattle.areas.specs.Areas.{slots}
use Rattle.areas.specs.Formed.{ImagesExist, WellFormed}
use Rattle.areas.specs.Order.{AllInOrder}
use Rattle.areas.proofs.OrderLaws.{slots-order, order-image}

pub image-exists : (images : ℕ) (a : Areas) → WellFormed images a → (i : ℕ) → ImagesExist images (backing_at (slots a i)) 1
unfolding AllInOrder
image-exists images a f i = order-image images (slots a i) (slots-order images a f i)

pub image-page : (images : ℕ) (a : Areas) → WellFormed images a → (i : ℕ) (page : ImagePageNo) → backing_at (slots a i) ≡ Image page → page.0 < images
image-page images a f i page e = let h = rw e at (image-exists images a f i) in omega arith
