-- The page of an address, and what storing its byte leaves.
use Rattle.std.specs.Prelude.{◌≡◌, Bool, true, false, List, ℕ, get_or}
use Rattle.interface.specs.declared.page.Slot.{Slot}
use Rattle.interface.specs.declared.request.Request.{Request}
use Rattle.interface.specs.Numbers.{page_bytes}
use Rattle.interface.specs.Requests.{page_of, offset_of}
use Rattle.frames.specs.declared.Held.{Held}
use Rattle.table.specs.declared.page.VirtualPage.{VirtualPage}
use Rattle.table.specs.Store.{kept, front_of, store_byte}

-- the page of an address, with what stands there
abbrev pub page_at : Request → Slot → VirtualPage
page_at q slot = record { sandbox = q.sandbox; number = record { 0 = page_of q }; slot = slot }

-- the front entry of the page of an address
abbrev pub own_entry : Request → List ℕ → ℕ
own_entry q table = get_or table (front_of q.sandbox (page_of q)) 0

-- "A write changes one byte inside one frame's 256 bytes of the pool; a page without a front first takes an unheld frame": whether the byte was stored. Of a
-- page with a front it is, whatever the marks are; of another nothing changes, and the write is left to what takes a frame
pub record Stored (q : Request) (before table : List ℕ) (stored : Bool) (after : List ℕ) : Type 0 where
  pub front : stored ≡ true → own_entry q table ≡ 0 → ⊥
  pub byte : stored ≡ true → (h : Held) → kept h after table
      ≡ store_byte page_bytes (front_of q.sandbox (page_of q)) (offset_of q) q.p2 (kept h before table)
  pub none : stored ≡ false → after ≡ before
