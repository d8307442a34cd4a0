-- The numbers of document 01, each under its sentence; the codes of the calls stand in Requests. The code has a constant for each, beside the type that it is
-- about: `PageNo::COUNT` for `page_count`.
use Rattle.std.specs.Prelude.{ℕ, ◌/◌}

-- "Four sandboxes stand in a row, numbered 0 to 3."
abbrev pub sandbox_count : ℕ
sandbox_count = 4

-- "Each has 64 pages"
abbrev pub page_count : ℕ
page_count = 64

-- "a page has 256 bytes"
abbrev pub page_bytes : ℕ
page_bytes = 256

-- "so addresses 0 to 16,383"
abbrev pub address_count : ℕ
address_count = 16384

-- "p3 backing, 0 anonymous ..
abbrev pub anonymous_backing : ℕ
anonymous_backing = 0

-- .. 1 image"
abbrev pub image_backing : ℕ
image_backing = 1

-- "map: p1 first page, or 64 for the lowest gap that fits"; "the lowest gap" is 64 where none fits
abbrev pub any_page : ℕ
any_page = 64

-- "rights, 1 for read ..
abbrev pub read_only : ℕ
read_only = 1

-- .. or 3 for read and write"
abbrev pub read_write : ℕ
read_write = 3

-- "A sandbox has at most 8." areas
abbrev pub most_areas : ℕ
most_areas = 8

-- "open: p1 share, 1 to 128"
abbrev pub most_share : ℕ
most_share = 128

-- a byte is 0 to 255
abbrev pub byte_values : ℕ
byte_values = 256

-- the number of whole pages in so many bytes
abbrev pub pages_in : ℕ → ℕ
pages_in bytes = bytes / page_bytes

-- "The pool is 1 to 128 frames of 256 bytes."
abbrev pub most_frames : ℕ
most_frames = 128

-- "The image, read only, is 0 to 64 pages of 256 bytes."
abbrev pub most_image_pages : ℕ
most_image_pages = 64

-- "The page table is 512 16-bit numbers"
abbrev pub table_entries : ℕ
table_entries = 512

-- "for each sandbox 64 front entries, then 64 back entries"
abbrev pub sandbox_entries : ℕ
sandbox_entries = 128
