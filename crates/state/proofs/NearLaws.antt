-- What the code of a call asks to be safe, from a sound state: near areas, entries in the pool, image pages in the image.
use mathlib.Core.Path.{◌≡◌}
use mathlib.Core.List.{List}
use Prim.Native.Nat.{ℕ, ◌+◌, ◌*◌, ◌≤◌, ◌<◌}
use native.Mathlib.Omega.{arith}
use lib.ListN.{length}
use Rattle.interface.specs.declared.page.ImagePageNo.{ImagePageNo}
use Rattle.interface.specs.declared.page.Backing.TheVariants.{Image}
use Rattle.interface.specs.Slots.{backing_at}
use Rattle.interface.specs.Numbers.{pages_in}
use Rattle.table.specs.Store.{Ranged}
use Rattle.table.proofs.FiledLaws.{filed-ranged}
use Rattle.areas.specs.Areas.{slots, Near}
use Rattle.areas.proofs.FormedLaws.{near}
use Rattle.records.proofs.ImageLaws.{image-page}
use Rattle.state.specs.World.{World, record_at, frames_of}
use Rattle.state.specs.Sound.{Sound}

-- each entry names a frame of the pool or none
pub sound-ranged : (image : List ℕ) (w : World) → Sound image w → Ranged 256 w.store.pool w.store.table
sound-ranged image w S = filed-ranged 256 (frames_of w) w.store S.filed

module _ (image : List ℕ) (w : World) (S : Sound image w) where
  -- a page of the image has its bytes there
  pub page-bytes : (page : ImagePageNo) → page.0 < pages_in (length image) → (page.0 + 1) * 256 ≤ length image
  page-bytes page h = omega (arith, S.whole)

  module _ (s : ℕ) (l : s < 4) where
    pub present-near : Near (record_at w s).present.list
    present-near = near (pages_in (length image)) (record_at w s).present (S.each s l).rec.present S.images

    pub snapshot-near : Near (record_at w s).snapshot.list
    snapshot-near = near (pages_in (length image)) (record_at w s).snapshot (S.each s l).rec.snapshot S.images

    pub present-image : (i : ℕ) (page : ImagePageNo) → backing_at (slots (record_at w s).present i) ≡ Image page → page.0 < pages_in (length image)
    present-image = image-page (pages_in (length image)) (record_at w s).present (S.each s l).rec.present

    pub snapshot-image : (i : ℕ) (page : ImagePageNo) → backing_at (slots (record_at w s).snapshot i) ≡ Image page → page.0 < pages_in (length image)
    snapshot-image = image-page (pages_in (length image)) (record_at w s).snapshot (S.each s l).rec.snapshot
