-- What a page of a sandbox reads, now and in the snapshot; the lowest page at which the two differ, and how many committed pages read something else.
use Rattle.std.specs.Prelude.{Bool, List, ℕ}
use Rattle.interface.specs.declared.page.Backing.{Backing}
use Rattle.interface.specs.Slots.{is_committed, backing_at}
use Rattle.comparison.specs.Compare.{lowest_difference, changed_pages}
use Rattle.pages.specs.Parts.{same_bytes}
use Rattle.table.specs.Store.{Store, front_of, back_of, contents, page_from, under_front}
use Rattle.table.specs.Backing.{backing_page}
use Rattle.areas.specs.Areas.{slots}
use Rattle.records.specs.declared.Record.{Record}

-- "else, if committed, its back frame; else zero bytes or its image page": what page i of sandbox s reads but for its front
unfoldable pub page_under : List ℕ → Store → Record → ℕ → ℕ → List ℕ
page_under image st b s i =
    under_front (is_committed (slots b.present i)) (backing_page image (backing_at (slots b.present i))) (contents 256 st (back_of s i))

-- "A page reads its front frame; else, ..."
unfoldable pub page_read : List ℕ → Store → Record → ℕ → ℕ → List ℕ
page_read image st b s i = page_from (page_under image st b s i) (contents 256 st (front_of s i))

-- what a snapshot page starts with, and so reads without a back: "zero bytes or its image page"
abbrev pub copy_backing : Record → ℕ → Backing
copy_backing b i = backing_at (slots b.snapshot i)

abbrev pub copy_page : List ℕ → Record → ℕ → List ℕ
copy_page image b i = backing_page image (copy_backing b i)

-- what page i of the snapshot reads: a committed page that was never touched since, "its back frame; else zero bytes or its image page"
unfoldable pub copy_read : List ℕ → Store → Record → ℕ → ℕ → List ℕ
copy_read image st b s i = page_from (copy_page image b i) (contents 256 st (back_of s i))

-- whether page i reads what it reads in the snapshot
abbrev pub reads_same : List ℕ → Store → Record → ℕ → ℕ → Bool
reads_same image st b s i = same_bytes 256 (page_read image st b s i) (copy_read image st b s i)

-- request A1: "the lowest page number at which the sandbox and its snapshot differ in being mapped, in rights or in bytes", by "comparing all 64 pages"
unfoldable pub differing : List ℕ → Store → Record → ℕ → ℕ
differing image st b s = lowest_difference (slots b.present) (slots b.snapshot) (reads_same image st b s)

-- request A4: "the number of committed pages still mapped whose bytes differed from the snapshot"
unfoldable pub changed : List ℕ → Store → Record → ℕ → ℕ
changed image st b s = changed_pages (slots b.present) (reads_same image st b s)
