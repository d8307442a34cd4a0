-- What a rewind makes of the store at one committed area, and how many of its pages it finds changed.
use Rattle.std.specs.Prelude.{true, List, ℕ, ◌-◌}
use Rattle.interface.specs.Slots.{advance}
use Rattle.table.specs.Store.{Store, front_of, free_to}
use Rattle.rewind_cases.specs.Rewind.{rewind_to}
use Rattle.areas.specs.declared.area.Area.{Area}
use Rattle.restoring.specs.Changed.{changed_to}

-- "All other fronts are freed and cleared": those of the pages from this one on up to the area
abbrev pub freed_before : ℕ → Area → ℕ → Store → Store
freed_before s a page st = free_to 256 (front_of s page) st (a.first.0 - page)

-- then each of the area "keeps its front, whose bytes become the snapshot's"
abbrev pub area_rewound : List ℕ → ℕ → Area → ℕ → Store → Store
area_rewound image s a page st =
    rewind_to image (front_of s a.first.0) (λ i. true) (advance a.backing) (freed_before s a page st) a.pages

-- request A4: those of its pages "whose bytes differed from the snapshot"
abbrev pub area_changed : List ℕ → ℕ → Area → ℕ → Store → ℕ
area_changed image s a page st =
    changed_to image (front_of s a.first.0) (λ i. true) (advance a.backing) (freed_before s a page st) a.pages
