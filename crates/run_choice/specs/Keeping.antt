-- Request A3 in its own words: what the definitions of specs/Runs come to (proved in proofs/KeepingLaws). A run is its length, and the oldest stands first;
-- length 0 is no run.
use Rattle.std.specs.Prelude.{ℕ, suc, ◌+◌, ◌≤◌, ◌<◌, ◌≡◌, Bool, true, false, ◌&&◌, eqb}
use Rattle.basics.specs.Ranges.{count}
use Rattle.basics.specs.Longest.{by_age, Longest}
use Rattle.interface.specs.Numbers.{page_count}
use Rattle.interface.specs.declared.page.Backing.TheVariants.{Anonymous}
use Rattle.interface.specs.declared.page.Slot.{Slot}
use Rattle.interface.specs.declared.request.Request.{Request}
use Rattle.interface.specs.Requests.{map_code}
use Rattle.interface.specs.Slots.{Slots, is_mapped, is_uncommitted, backing_at, starts_area, areas}
use Rattle.run_choice.specs.Runs.{is_spared, takes_run, gives_up, run_for, granted, longest_run, runs_rewound}

-- the test says that P
abbrev pub SaysThat : Bool → Type 0 → Type 0
SaysThat test P = (test ≡ true → P) × (P → test ≡ true)

-- ---- what a rewind keeps

-- "each uncommitted anonymous area": the pages whose fronts are kept
abbrev pub SparesUncommittedAnonymous : Type 0
SparesUncommittedAnonymous = (x : Slot) → SaysThat (is_spared x) ((is_uncommitted x ≡ true) × (backing_at x ≡ Anonymous))

-- page i is of area number a, counted from 0 in page order: it is mapped, and so many areas have started before its own
abbrev pub is_of_area : Slots → ℕ → ℕ → Bool
is_of_area f a i = is_mapped (f i) && eqb (count (starts_area f) (suc i)) (suc a)

-- "each uncommitted anonymous area": of one area all pages are spared or none
abbrev pub AreasAreSpared : Type 0
AreasAreSpared = (f : Slots) (a i j : ℕ) → is_of_area f a i ≡ true → is_of_area f a j ≡ true → is_spared (f i) ≡ is_spared (f j)

-- "the frames of each uncommitted anonymous area, if any, are cleared and kept as one run, whose length is its number of frames": its pages' fronts
abbrev pub run_of : Slots → (ℕ → Bool) → ℕ → ℕ
run_of f front a = count (λ i. is_of_area f a i && (front i && is_spared (f i))) page_count

-- "At most 8 runs are kept, the longest. All ties go to the older run; of one rewind's runs the lower page is older.": of the old runs and, after them,
-- those of the areas in page order, the 8 longest are left. (An area without such a frame has length 0, which is no run and gives way to every run.)
abbrev pub KeepsTheLongest : Type 0
KeepsTheLongest =
    (f : Slots) (front : ℕ → Bool) (lengths : ℕ → ℕ)
    → Longest (λ length. length) (by_age 8 lengths (run_of f front)) (8 + areas f) (runs_rewound f front lengths) 8

-- ---- which run is chosen, and when

-- "An anonymous map at 64"
abbrev pub TakesAtSixtyFour : Type 0
TakesAtSixtyFour = (q : Request) → SaysThat (takes_run q) ((q.code ≡ map_code) × ((q.p1 ≡ 64) × (q.p3 ≡ 0)))

-- "When a write would bring fronts, backs and kept frames above the share": to a page without a front, which takes one frame more
abbrev pub GivesUpAboveShare : Type 0
GivesUpAboveShare = (front : Bool) (share held : ℕ) → SaysThat (gives_up front share held) ((front ≡ false) × (share < held + 1))

-- "the longest", "All ties go to the older run"
pub record IsLongest (lengths : ℕ → ℕ) (c : ℕ) : Type 0 where
  pub in_row : c < 8
  pub longest : (i : ℕ) → i < 8 → lengths i ≤ lengths c
  pub oldest : (i : ℕ) → i < c → lengths i < lengths c

-- "the shortest run at least as long as its pages", "All ties go to the older run"
pub record IsShortestFor (pages : ℕ) (lengths : ℕ → ℕ) (c : ℕ) : Type 0 where
  pub in_row : c < 8
  pub suffices : pages ≤ lengths c
  pub shortest : (i : ℕ) → i < 8 → pages ≤ lengths i → lengths c ≤ lengths i
  pub oldest : (i : ℕ) → i < c → pages ≤ lengths i → lengths c < lengths i

-- "An anonymous map at 64 takes the shortest run at least as long as its pages": where there is one
abbrev pub TakesTheShortest : Type 0
TakesTheShortest =
    (pages : ℕ) (lengths : ℕ → ℕ) (i : ℕ) → i < 8 → pages ≤ lengths i → IsShortestFor pages lengths (run_for pages lengths)

-- "if none is that long, the longest"
abbrev pub ElseTheLongest : Type 0
ElseTheLongest = (pages : ℕ) (lengths : ℕ → ℕ) → ((i : ℕ) → i < 8 → lengths i < pages) → IsLongest lengths (run_for pages lengths)

-- "The first new pages get these frames as fronts": all of them where the run is long enough, else as many as it has
pub record IsGranted (pages length given : ℕ) : Type 0 where
  pub all : pages ≤ length → given ≡ pages
  pub some : length ≤ pages → given ≡ length

abbrev pub GrantsTheFirst : Type 0
GrantsTheFirst = (pages : ℕ) (lengths : ℕ → ℕ) → IsGranted pages (lengths (run_for pages lengths)) (granted pages lengths)

-- "one frame of the longest run is given up first"
abbrev pub GivesUpTheLongest : Type 0
GivesUpTheLongest = (lengths : ℕ → ℕ) → IsLongest lengths (longest_run lengths)
