-- Runs of kept frames (A3): which frames a rewind keeps, which run a map takes and how much of it, and which run a write gives a frame up from.
-- Both machines use these words: they go by the lengths of the runs in the order of their ages.
use Rattle.std.specs.Prelude.{ℕ, ◌+◌, ◌-◌, Bool, true, false, not, ◌&&◌, leb, ltb, eqb}
use Rattle.basics.specs.Choice.{◌when◌else◌}
use Rattle.basics.specs.Ranges.{one}
use Rattle.basics.specs.Rows.{best, longer, fitter, walked}
use Rattle.interface.specs.Numbers.{page_count, any_page, anonymous_backing}
use Rattle.interface.specs.declared.page.Backing.{Backing}
use Rattle.interface.specs.declared.page.Backing.TheVariants.{Anonymous, Image}
use Rattle.interface.specs.declared.page.Slot.{Slot}
use Rattle.interface.specs.declared.page.Slot.TheVariants.{Unmapped, Mapped}
use Rattle.interface.specs.declared.request.Request.{Request}
use Rattle.interface.specs.Requests.{◌is◌, map_code}
use Rattle.interface.specs.Slots.{Slots, starts_area, is_anonymous}

-- 'At most 8 runs are kept'
abbrev pub run_places : ℕ
run_places = 8

-- 'the frames of each uncommitted anonymous area': whether a rewind keeps the front of such a page in a run
abbrev pub is_spared : Slot → Bool
is_spared Unmapped = false
is_spared (Mapped t) = not t.committed && is_anonymous t.backing

-- 'An anonymous map at 64 takes ..'
abbrev pub takes_run : Request → Bool
takes_run q = q is map_code && (eqb q.p1 any_page && eqb q.p3 anonymous_backing)

-- '.. the shortest run at least as long as its pages; if none is that long, the longest': its place
unfoldable pub run_for : ℕ → (ℕ → ℕ) → ℕ
run_for pages lengths = best (fitter pages) lengths run_places

-- 'The first new pages get these frames as fronts': how many of them
unfoldable pub granted : ℕ → (ℕ → ℕ) → ℕ
granted pages lengths = pages when leb pages (lengths (run_for pages lengths)) else lengths (run_for pages lengths)

-- 'the longest run': its place
unfoldable pub longest_run : (ℕ → ℕ) → ℕ
longest_run lengths = best longer lengths run_places

-- 'When a write would bring fronts, backs and kept frames above the share': of a page with or without a front, where so many are held
abbrev pub gives_up : Bool → ℕ → ℕ → Bool
gives_up front share held = not front && ltb share (held + 1)

-- the lengths that a rewind leaves: "the frames of each uncommitted anonymous area, if any, are .. kept as one run, whose length is its number of frames";
-- "of one rewind's runs the lower page is older". Area by area in page order; an area without such frames makes a run of none, which changes nothing.
unfoldable pub runs_rewound : Slots → (ℕ → Bool) → (ℕ → ℕ) → ℕ → ℕ
runs_rewound f front lengths = walked (λ length. length) run_places 0 (starts_area f) (λ i length. length + one (front i && is_spared (f i))) lengths page_count
