-- The view of a sandbox of a sound state: "areas, the snapshot's too, are at most 8 .. the snapshot's areas are marked committed .. the charge and share
-- limits hold". Rows 13 and 14 are decided from it. (Proved of every sound record in records' proofs/SettledLaws.)
use Rattle.std.specs.Prelude.{ℕ, ◌≤◌, ◌≡◌, true}
use Rattle.interface.specs.Numbers.{most_areas}
use Rattle.interface.specs.Slots.{is_mapped, is_committed, areas, charge_of, copied}
use Rattle.interface.specs.Refusals.{View}

pub record Settled (v : View) : Type 0 where
  -- "It never exceeds the share"
  pub charged : charge_of v.slots v.copy ≤ v.share
  -- "A sandbox has at most 8", and so has its snapshot
  pub few : areas v.slots ≤ most_areas
  pub copy_few : areas (copied v.copy) ≤ most_areas
  -- the snapshot's pages are committed
  pub copy_marked : (i : ℕ) → is_mapped (copied v.copy i) ≡ true → is_committed (copied v.copy i) ≡ true
