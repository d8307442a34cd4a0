-- THE LAYOUT: a state in 932 bytes. Each part of it is a table, from an area up to the state; every size and place has one name, made of those before it.
use Rattle.std.specs.Prelude.{ℕ, ◌+◌, ◌*◌, ◌^◌, ◌<◌, ◌≡◌, Bool, ◌&&◌, ◌||◌, List, [], ◌∷◌, leb, eqb, length, get_or, drop}
use Rattle.basics.specs.Choice.{◌when◌else◌}
use Rattle.basics.specs.Ranges.{one}
use Rattle.interface.specs.declared.page.Backing.{Backing}
use Rattle.interface.specs.declared.page.Backing.TheVariants.{Anonymous, Image}
use Rattle.pages.specs.Parts.{part_at}
use Rattle.frames.specs.declared.Held.{Held}
use Rattle.frames.specs.Frames.{none_held}
use Rattle.runs.specs.declared.Runs.{Runs}
use Rattle.runs.specs.Row.{row}
use Rattle.kept.specs.Spare.{Words}
use Rattle.areas.specs.declared.area.Area.{Area}
use Rattle.areas.specs.declared.area.Areas.{Areas}
use Rattle.interface.specs.Slots.{kind_of, start_of}
use Rattle.areas.specs.Areas.{none}
use Rattle.state.specs.declared.sandbox.Sandbox.{Sandbox}
use Rattle.state.specs.declared.sandbox.Machine.{Machine}
use Rattle.state.specs.World.{closed_sandbox}
use Rattle.layout.specs.Rows.{digits, spelled, Part, part, byte, flat, row_bytes, row_from, is_row}

-- ---- how many bytes each part has, and where it stands

abbrev pub area_size : ℕ
area_size = 6

-- "A sandbox has at most 8": their places, behind the count of them
abbrev pub places_size : ℕ
places_size = 8 * area_size

abbrev pub areas_size : ℕ
areas_size = 1 + places_size

-- "marked one bit a frame", in "two 64-bit words": the held frames, and those of a run
abbrev pub word_size : ℕ
word_size = 8

abbrev pub marks_size : ℕ
marks_size = 2 * word_size

-- "At most 8 runs are kept" (A3)
abbrev pub runs_size : ℕ
runs_size = 8 * marks_size

abbrev pub present_at : ℕ
present_at = 3

abbrev pub snapshot_at : ℕ
snapshot_at = present_at + areas_size

abbrev pub runs_at : ℕ
runs_at = snapshot_at + areas_size

abbrev pub sandbox_size : ℕ
sandbox_size = runs_at + runs_size

-- "Four sandboxes stand in a row", and behind them the marks of the held frames
abbrev pub held_at : ℕ
held_at = 4 * sandbox_size

abbrev pub state_size : ℕ
state_size = held_at + marks_size

-- ---- from a state to its bytes

-- an area: first page, pages, rights, mark (1 for committed), kind of backing, first image page (0 when anonymous)
abbrev pub area_parts : Area → List Part
area_parts a =
    byte a.first.0
    ∷ byte a.pages
    ∷ byte a.rights
    ∷ byte (one a.committed)
    ∷ byte (kind_of a.backing)
    ∷ byte (start_of a.backing)
    ∷ []

unfoldable pub area_bytes : Area → List ℕ
area_bytes a = flat (area_parts a)

-- the areas of a sandbox: their number, then all eight places
abbrev pub areas_parts : Areas → List Part
areas_parts s =
    byte s.count
    ∷ part places_size (row_bytes area_bytes none 8 s.list)
    ∷ []

unfoldable pub areas_bytes : Areas → List ℕ
areas_bytes s = flat (areas_parts s)

-- marks: of frames 0 to 63, then of frames 64 to 127, a word each, its lowest byte first
abbrev pub marks_parts : Held → List Part
marks_parts h =
    part word_size (digits word_size h.low)
    ∷ part word_size (digits word_size h.high)
    ∷ []

unfoldable pub marks_bytes : Held → List ℕ
marks_bytes h = flat (marks_parts h)

-- the runs of a sandbox: all eight places, the oldest first
unfoldable pub runs_bytes : Runs → List ℕ
runs_bytes r = row_bytes marks_bytes none_held 8 r.list

-- a sandbox: 1 when open, the share, 1 when a snapshot was taken, its areas, the snapshot's areas, its runs
abbrev pub sandbox_parts : Sandbox → List Part
sandbox_parts b =
    byte (one b.rec.opened)
    ∷ byte b.rec.share
    ∷ byte (one b.rec.taken)
    ∷ part areas_size (areas_bytes b.rec.present)
    ∷ part areas_size (areas_bytes b.rec.snapshot)
    ∷ part runs_size (runs_bytes b.runs)
    ∷ []

unfoldable pub sandbox_bytes : Sandbox → List ℕ
sandbox_bytes b = flat (sandbox_parts b)

-- the state: the four sandboxes, then the held marks
abbrev pub state_parts : Machine → List Part
state_parts m =
    part held_at (row_bytes sandbox_bytes closed_sandbox 4 m.sandboxes)
    ∷ part marks_size (marks_bytes m.held)
    ∷ []

unfoldable pub state_bytes : Machine → List ℕ
state_bytes m = flat (state_parts m)

-- ---- from bytes to a state, whatever they are: a flag that is not 1 is false, a kind that is not 1 is anonymous

abbrev pub backing_from : ℕ → ℕ → Backing
backing_from kind page = Image (record { 0 = page }) when eqb kind 1 else Anonymous

unfoldable pub area_from : List ℕ → Area
area_from b = record {
  first = record { 0 = get_or b 0 0 };
  pages = get_or b 1 0;
  rights = get_or b 2 0;
  committed = eqb (get_or b 3 0) 1;
  backing = backing_from (get_or b 4 0) (get_or b 5 0);
}

unfoldable pub areas_from : List ℕ → Areas
areas_from b = record { count = get_or b 0 0; list = row_from area_from area_size 8 (drop 1 b) }

unfoldable pub marks_from : List ℕ → Held
marks_from b = record { low = spelled (part_at b 0 word_size); high = spelled (part_at b word_size word_size) }

unfoldable pub runs_from : List ℕ → Runs
runs_from b = record { list = row_from marks_from marks_size 8 b }

unfoldable pub sandbox_from : List ℕ → Sandbox
sandbox_from b = record {
  rec = record {
    opened = eqb (get_or b 0 0) 1;
    share = get_or b 1 0;
    taken = eqb (get_or b 2 0) 1;
    present = areas_from (part_at b present_at areas_size);
    snapshot = areas_from (part_at b snapshot_at areas_size);
  };
  runs = runs_from (part_at b runs_at runs_size);
}

unfoldable pub state_from : List ℕ → Machine
state_from b = record {
  sandboxes = row_from sandbox_from sandbox_size 4 b;
  held = marks_from (part_at b held_at marks_size);
}

-- ---- which bytes are a state's: flags and kinds are 0 or 1, an anonymous backing has image page 0, and the length is right. Any 8 bytes are a word, so marks
-- are not tested.

unfoldable pub is_area : List ℕ → Bool
is_area b = leb (get_or b 3 0) 1 && (leb (get_or b 4 0) 1 && (eqb (get_or b 4 0) 1 || eqb (get_or b 5 0) 0))

unfoldable pub is_areas : List ℕ → Bool
is_areas b = is_row is_area area_size 8 (drop 1 b)

unfoldable pub is_sandbox : List ℕ → Bool
is_sandbox b =
    leb (get_or b 0 0) 1
    && (leb (get_or b 2 0) 1
    && (is_areas (part_at b present_at areas_size)
    && is_areas (part_at b snapshot_at areas_size)))

unfoldable pub are_sandboxes : List ℕ → Bool
are_sandboxes b = is_row is_sandbox sandbox_size 4 b

unfoldable pub is_state : List ℕ → Bool
is_state b = eqb (length b) state_size && are_sandboxes b

-- ---- what the types of a state say: 8 places for areas and 8 for runs, a row of 4, words of 64 bits

pub record Placed (b : Sandbox) : Type 0 where
  pub present : length b.rec.present.list ≡ 8
  pub snapshot : length b.rec.snapshot.list ≡ 8
  pub runs : length b.runs.list ≡ 8
  pub words : Words (row b.runs)

pub record Shaped (m : Machine) : Type 0 where
  pub row : length m.sandboxes ≡ 4
  pub each : (s : ℕ) → s < 4 → Placed (get_or m.sandboxes s closed_sandbox)
  pub low : m.held.low < 2 ^ 64
  pub high : m.held.high < 2 ^ 64
