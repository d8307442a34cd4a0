-- A page of a sandbox: where its entries stand, and what it reads.
use Rattle.std.specs.Prelude.{List, ℕ, ◌*◌, ◌≤◌, ◌<◌, length}
use Rattle.interface.specs.Slots.{is_committed, backing_at}
use Rattle.table.specs.declared.page.VirtualPage.{VirtualPage}
use Rattle.table.specs.Store.{Store, front_of, back_of, contents, page_from, under_front}
use Rattle.table.specs.Backing.{backing_page, backing_end}

-- the places of its front entry and of its back entry
abbrev pub front_at : VirtualPage → ℕ
front_at page = front_of page.sandbox page.number.0

abbrev pub back_at : VirtualPage → ℕ
back_at page = back_of page.sandbox page.number.0

-- "else, if committed, its back frame; else zero bytes or its image page": what it reads but for its front
abbrev pub bytes_under : List ℕ → Store → VirtualPage → List ℕ
bytes_under image st page =
    under_front (is_committed page.slot) (backing_page image (backing_at page.slot)) (contents 256 st (back_at page))

-- "A page reads its front frame; else, .."
abbrev pub bytes_read : List ℕ → Store → VirtualPage → List ℕ
bytes_read image st page = page_from (bytes_under image st page) (contents 256 st (front_at page))

-- what the code asks of it: one of the 64 pages of one of the four sandboxes, and the image has the page that it starts with
pub record Placed (image : List ℕ) (page : VirtualPage) : Type 0 where
  pub row : page.sandbox < 4
  pub inside : page.number.0 < 64
  pub backed : backing_end (backing_at page.slot) * 256 ≤ length image
