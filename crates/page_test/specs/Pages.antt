-- The test of a sandbox's pages, as the code computes it. (proofs/PageLaws: it is true exactly where each page is as a sound state asks.)
use Rattle.std.specs.Prelude.{Bool, not, ◌&&◌, ℕ, eqb}
use Rattle.basics.specs.Choice.{implies}
use Rattle.basics.specs.Ranges.{every}
use Rattle.interface.specs.declared.page.Slot.{Slot}
use Rattle.interface.specs.Slots.{is_mapped, is_committed, backing_at, follows}
use Rattle.table.specs.Store.{Store, entry, front_of, back_of}
use Rattle.areas.specs.declared.area.Areas.{Areas}
use Rattle.areas.specs.Areas.{slots}

-- of one page: its slot, the snapshot's, its front and its back entry
unfoldable pub page_ok : Slot → Slot → ℕ → ℕ → Bool
page_ok present snapshot front back =
    implies (is_mapped snapshot) (is_committed snapshot)
    && (implies (is_committed present) (is_mapped snapshot)
    && (implies (is_committed present) (follows (backing_at present) 0 (backing_at snapshot))
    && (implies (not (is_mapped present)) (eqb front 0) && implies (not (is_mapped snapshot)) (eqb back 0))))

-- of all pages of sandbox s
unfoldable pub pages_ok : Store → ℕ → Areas → Areas → Bool
pages_ok st s present snapshot = every (λ i. page_ok (slots present i) (slots snapshot i) (entry st (front_of s i)) (entry st (back_of s i))) 0 64
