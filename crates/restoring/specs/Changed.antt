-- Request A4, "Copying a page back now also says whether any byte differed": how many pages a rewind finds changed.
use Rattle.std.specs.Prelude.{List, Bool, ◌&&◌, ℕ, zero, suc, ◌+◌}
use Rattle.basics.specs.Ranges.{one}
use Rattle.interface.specs.declared.page.Backing.{Backing}
use Rattle.table.specs.Store.{Store}
use Rattle.table.specs.Backing.{backing_page}
use Rattle.rewind_cases.specs.Rewind.{rewind_to}
use Rattle.page_restore.specs.Differs.{page_differs}

-- how many of the first n pages, each looked at where those before it are rewound; which keep their fronts, and what each starts with
unfoldable pub changed_to : List ℕ → ℕ → (ℕ → Bool) → (ℕ → Backing) → Store → ℕ → ℕ
changed_to image first keep backing s zero = 0
changed_to image first keep backing s (suc n) =
    changed_to image first keep backing s n
    + one (keep n && page_differs 256 (first + n) (first + n + 64) (backing_page image (backing n)) (rewind_to image first keep backing s n))
