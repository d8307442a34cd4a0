-- The writes of one page of a roll.
use Rattle.std.specs.Prelude.{ℕ, ◌+◌, ◌*◌, not, List, [], eqb, get_or}
use Rattle.basics.specs.Choice.{◌when◌else◌}
use Rattle.interface.specs.declared.page.Slot.{Slot}
use Rattle.interface.specs.declared.request.Request.{Request}
use Rattle.interface.specs.Requests.{request_of, write_code}
use Rattle.interface.specs.Slots.{is_mapped, backing_at}
use Rattle.table.specs.Store.{back_of, page_in, page_from}
use Rattle.table.specs.Backing.{backing_page}
use Rattle.plain.specs.Machine.{backing_byte}
use Rattle.archive.specs.Archive.{joined, only}

-- of byte j of page i of sandbox s, at which x stands and which has these bytes
abbrev pub byte_line : List ℕ → ℕ → ℕ → Slot → List ℕ → ℕ → List Request
byte_line image s i x bytes j = only (not (eqb (get_or bytes j 0) (backing_byte image (backing_at x) j))) (request_of write_code s (i * 256 + j) (get_or bytes j 0) 0 0 0)

-- of all its bytes
abbrev pub bytes_of : List ℕ → ℕ → ℕ → Slot → List ℕ → List Request
bytes_of image s i x bytes = joined (byte_line image s i x bytes) 256

-- what the snapshot has there, by lent pool and table: "its back frame; else zero bytes or its image page"
abbrev pub back_page : List ℕ → List ℕ → List ℕ → ℕ → ℕ → Slot → List ℕ
back_page image pool table s i x = page_from (backing_page image (backing_at x)) (page_in 256 pool (get_or table (back_of s i) 0))

-- of page i, if it is mapped
abbrev pub page_lines : List ℕ → List ℕ → List ℕ → ℕ → ℕ → Slot → List Request
page_lines image pool table s i x = bytes_of image s i x (back_page image pool table s i x) when is_mapped x else []
