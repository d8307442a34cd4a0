-- What a roll leaves in the lent pool and table, for a host to look at: "The lists of demand 3", of pool and table alone.
use Rattle.std.specs.Prelude.{◌≡◌, true, List, ℕ, suc, ◌+◌, ◌*◌, ◌≤◌, ◌<◌, length, get_or}
use Rattle.basics.specs.Ranges.{one, sum}
use Rattle.interface.specs.declared.request.Request.{Request}
use Rattle.interface.specs.Slots.{is_mapped, mapped_pages, copied}
use Rattle.pages.specs.Parts.{frame, zeros, listed}
use Rattle.marks.specs.Named.{used, used_below}
use Rattle.marks.specs.Marks.{from}
use Rattle.table.specs.Store.{front_of, back_of}
use Rattle.plain.specs.Machine.{Given, Kept, copy_slots, copy_bytes, frames_held, shares}
use Rattle.plain_claims.specs.Lists.{up_to, Rewound}

-- entry k of a table: "An entry is 0 for none, else a frame number plus one"
abbrev pub Names : List ℕ → ℕ → ℕ → Type 0
Names table k f = get_or table k 0 ≡ suc f

-- frame f of the pool holds these 256 bytes
abbrev pub Holds : List ℕ → ℕ → (ℕ → ℕ) → Type 0
Holds pool f bytes = frame 256 pool f ≡ listed 256 bytes

-- of page i of the snapshot: it is mapped there, and frame f holds "the copy's bytes of it"
abbrev pub HoldsCopy : List ℕ → ℕ → Kept → ℕ → Type 0
HoldsCopy pool f k i = (is_mapped (copied (copy_slots k.core) i) ≡ true) × Holds pool f (copy_bytes k.core.copy i)

-- of each sandbox, whose state in the plain machine is k
pub record LeftAt (pool table : List ℕ) (s : ℕ) (k : Kept) : Type 0 where
  -- a front or back entry names a frame exactly where the plain machine has the mark
  pub front_marks : (i : ℕ) → i < 64 → used (get_or table (front_of s i) 0) ≡ one (k.traces.front i)
  pub back_marks : (i : ℕ) → i < 64 → used (get_or table (back_of s i) 0) ≡ one (k.traces.back i)
  -- "a front holds the 256 bytes that its page has in the plain machine, a back those that it has in the copy"
  pub fronts : (i f : ℕ) → i < 64 → Names table (front_of s i) f → Holds pool f (k.core.pages.bytes i)
  pub backs : (i f : ℕ) → i < 64 → Names table (back_of s i) f → Holds pool f (copy_bytes k.core.copy i)
  -- "A sandbox holds the frames that its front and back entries name; call 9 counts them", and the frames that its runs keep (A3): a report would say so many
  pub counted : used_below (from (s * 128) table) 128 + sum k.traces.runs 8 ≡ frames_held k.traces
  -- "no sandbox holds more than its share", kept frames among them; "a sandbox's mapped pages and backs together are at most its share"
  pub share : used_below (from (s * 128) table) 128 + sum k.traces.runs 8 ≤ k.core.share
  pub covered : mapped_pages k.core.pages.slots + used_below (from (s * 128 + 64) table) 64 ≤ k.core.share

-- after these requests
pub record Left (g : Given) (qs : List Request) (pool table : List ℕ) : Type 0 where
  pub bytes : length pool ≡ g.frames * 256
  pub entries : length table ≡ 512
  -- "entries name frames of the pool, no frame twice"
  pub named : (k f : ℕ) → Names table k f → f < g.frames
  pub once : (k j f : ℕ) → Names table k f → Names table j f → k ≡ j
  -- "a frame that no entry names is zero"
  pub rest : (f : ℕ) → f < g.frames → ((k : ℕ) → Names table k f → ⊥) → frame 256 pool f ≡ zeros 256
  pub each : (s : ℕ) → s < 4 → LeftAt pool table s (up_to g qs s)
  -- "the shares together at most the pool"
  pub pooled : shares (up_to g qs) ≤ g.frames
  -- "In a rewound sandbox each front and back is that of a snapshot page and holds the copy's bytes of it."
  pub rewound_fronts : (s i f : ℕ) → s < 4 → i < 64 → Rewound g s qs → Names table (front_of s i) f → HoldsCopy pool f (up_to g qs s) i
  pub rewound_backs : (s i f : ℕ) → s < 4 → i < 64 → Rewound g s qs → Names table (back_of s i) f → HoldsCopy pool f (up_to g qs s) i
