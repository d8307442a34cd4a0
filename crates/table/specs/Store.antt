-- The page table, the pool and the held marks as one store of pages, seen by what each entry holds.
use Rattle.std.specs.Prelude.{◌≡◌, List, Bool, ℕ, zero, suc, ◌+◌, ◌-◌, ◌*◌, ◌^◌, ◌≤◌, ◌<◌, eqb, length, get_or, set}
use Rattle.std.proofs.Math.Option.{Option, none, some}
use Rattle.basics.specs.Choice.{◌when◌else◌}
use Rattle.frames.specs.declared.Held.{Held}
use Rattle.frames.specs.Frames.{held, mark, none_held}
use Rattle.pages.specs.Parts.{frame, set_frame, zeros}
use Rattle.marks.specs.Named.{Named}

-- the held marks, the bytes of the pool, the entries of the table
pub record Store : Type 0 where
  pub marks : Held
  pub pool : List ℕ
  pub table : List ℕ

-- the store of these three
abbrev pub kept : Held → List ℕ → List ℕ → Store
kept marks pool table = record { marks = marks; pool = pool; table = table }

-- ---- entries, and what they hold

-- 'An entry is 0 for none, else a frame number plus one': entry k, and 0 past the end
abbrev pub entry : Store → ℕ → ℕ
entry s k = get_or s.table k 0

-- 'for each sandbox 64 front entries, then 64 back entries': the place of a page's front entry
abbrev pub front_of : ℕ → ℕ → ℕ
front_of sandbox page = sandbox * 128 + page

-- and of its back entry
abbrev pub back_of : ℕ → ℕ → ℕ
back_of sandbox page = sandbox * 128 + page + 64

-- the page that an entry names in a pool of frames of size bytes
abbrev pub page_in : ℕ → List ℕ → ℕ → Option (List ℕ)
page_in size pool zero = none
page_in size pool (suc f) = some (frame size pool f)

-- what entry k holds: no page, or the bytes of one
unfoldable pub contents : ℕ → Store → ℕ → Option (List ℕ)
contents size s k = page_in size s.pool (entry s k)

-- a page changed, where there is one
abbrev pub over_page : (List ℕ → List ℕ) → Option (List ℕ) → Option (List ℕ)
over_page change none = none
over_page change (some page) = some (change page)

-- the page there is, or else other bytes
abbrev pub page_from : List ℕ → Option (List ℕ) → List ℕ
page_from bytes none = bytes
page_from bytes (some page) = page

-- 'else, if committed, its back frame; else zero bytes or its image page': what a page without a front reads, its backing's bytes given
abbrev pub under_front : Bool → List ℕ → Option (List ℕ) → List ℕ
under_front committed bytes back = page_from bytes back when committed else bytes

-- ---- what is asked of a store

-- the table is whole, and each entry names a frame of the pool or none: what the code asks to be safe
pub record Ranged (size : ℕ) (pool table : List ℕ) : Type 0 where
  pub entries : length table ≡ 512
  pub few : (k : ℕ) → get_or table k 0 ≤ 128
  pub room : (k : ℕ) → get_or table k 0 * size ≤ length pool

-- 'entries name frames of the pool, no frame twice; the held marks are those frames', of n frames of size bytes: what a sound state has
pub record Filed (size n : ℕ) (s : Store) : Type 0 where
  pub few : n ≤ 128
  pub pages : length s.pool ≡ n * size
  pub entries : length s.table ≡ 512
  pub names : Named n s.marks (entry s)
  -- the marks are two words of 64 bits
  pub low : s.marks.low < 2 ^ 64
  pub high : s.marks.high < 2 ^ 64

-- 'a frame that no entry names is zero', where it is asked. C says of which unheld frames it is asked.
-- Unit: of all, as after every list. ⊥: of none, for a sound state may come with a dirty free frame. One frame: what becomes of that frame.
pub record Tidy (C : ℕ → Type 0) (size n : ℕ) (s : Store) : Type 0 where
  pub filed : Filed size n s
  pub clean : (f : ℕ) → C f → f < n → held s.marks f ≡ 0 → frame size s.pool f ≡ zeros size

-- ---- what is done to one entry

-- the one primitive: entry k becomes e, frame f gets the mark b and these bytes
unfoldable pub put : ℕ → Store → ℕ → ℕ → ℕ → ℕ → List ℕ → Store
put size s k e f b bytes = kept (mark s.marks f b) (set_frame size s.pool f bytes) (set s.table k e)

-- 'freed and cleared to zero': entry k gives up its page, if it has one
unfoldable pub free : ℕ → ℕ → Store → Store
free size k s = s when eqb (entry s k) 0 else put size s k 0 (entry s k - 1) 0 (zeros size)

-- 'takes an unheld frame and fills it': entry k, which has none, takes frame f with these bytes
unfoldable pub take : ℕ → ℕ → ℕ → List ℕ → Store → Store
take size k f bytes s = put size s k (f + 1) f 1 bytes

-- the page of entry k, if it has one, gets these bytes
unfoldable pub fill : ℕ → ℕ → List ℕ → Store → Store
fill size k bytes s = s when eqb (entry s k) 0 else kept s.marks (set_frame size s.pool (entry s k - 1) bytes) s.table

-- 'A write changes one byte inside one frame's 256 bytes of the pool': a byte of the page of entry k, if it has one
unfoldable pub store_byte : ℕ → ℕ → ℕ → ℕ → Store → Store
unfolding fill
store_byte size k offset byte s = fill size k (set (frame size s.pool (entry s k - 1)) offset byte) s

-- entry k is cleared, and what it was goes to entry j
unfoldable pub move : ℕ → ℕ → Store → Store
move k j s = kept s.marks s.pool (set (set s.table k 0) j (entry s k))

-- ---- what is done to a run of entries

-- unmap: the n entries from first on give up their pages
unfoldable pub free_to : ℕ → ℕ → Store → ℕ → Store
free_to size first s zero = s
free_to size first s (suc n) = free size (first + n) (free_to size first s n)

-- snapshot, 'its front entry moves to the back': the first n pages of the sandbox whose entries start at first
unfoldable pub move_to : ℕ → Store → ℕ → Store
move_to first s zero = s
move_to first s (suc n) = move (first + n) (first + n + 64) (move_to first s n)

-- ---- a start, and a frame taken

-- 'no held frame; starting clears pool and table': the store over a pool of so many bytes
abbrev pub cleared : ℕ → Store
cleared bytes = kept none_held (zeros bytes) (zeros 512)

-- the store that a start leaves over n frames
unfoldable pub fresh : ℕ → ℕ → Store
fresh size n = cleared (n * size)
