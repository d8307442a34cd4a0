-- What is claimed of the plain machine, for every list from fresh. proofs/Claims proves each.
use Rattle.std.specs.Prelude.{ℕ, ◌+◌, ◌/◌, ◌≤◌, ◌<◌, ◌≡◌, true, false, ◌||◌, List, [], ◌∷◌, ◌++◌, eqb, length}
use Rattle.std.proofs.Math.Option.{some}
use Rattle.basics.specs.Choice.{◌when◌else◌}
use Rattle.basics.specs.Ranges.{count}
use Rattle.interface.specs.Numbers.{sandbox_count, page_count, page_bytes, read_write, most_areas, most_share}
use Rattle.interface.specs.declared.request.Request.{Request}
use Rattle.interface.specs.Answers.{Answered}
use Rattle.interface.specs.Requests.{◌is◌, open_code, read_code, write_code, snapshot_code, rewind_code, report_code, compare_code, page_of, offset_of}
use Rattle.interface.specs.Slots.{Slots, is_mapped, is_committed, is_uncommitted, rights_at, backing_at, areas, mapped_pages, all_are, charge_of, copied}
use Rattle.interface.specs.Limits.{within}
use Rattle.interface.specs.Refusals.{is_taken}
use Rattle.interface.specs.Examples.{ok, refused, call, in_sandbox}
use Rattle.gaps.specs.Gaps.{Unmaps, mapped_alone, all_ok}
use Rattle.plain.specs.Machine.{Given, Core, Kept, Plain, fresh, closed, frames_held, copy_slots, copy_bytes, backing_byte, shares, view_of}
use Rattle.plain.specs.Machine.{number_at, answer, answers, after, after_all}
use Rattle.plain_claims.specs.Lists.{up_to, Then, naming, told_later, Rewound}

-- "two lists .. : up to and with an accepted snapshot of the sandbox they are the same; each goes on with calls of its own up to an accepted rewind of
-- that sandbox; after it, the calls naming that sandbox are the same in the same order, with any calls of others between them. Each of these
-- calls has the same number and value in both, apart from the value of an accepted report."
abbrev pub TwoLists : Given → Type 0
TwoLists g =
    (s : ℕ) (common own₁ own₂ later₁ later₂ : List Request) (snapshot rewind₁ rewind₂ : Request)
    → Then g s snapshot_code common snapshot
    → Then g s rewind_code (common ++ snapshot ∷ own₁) rewind₁
    → Then g s rewind_code (common ++ snapshot ∷ own₂) rewind₂
    → naming s later₁ ≡ naming s later₂
    → let before₁ = common ++ snapshot ∷ own₁ ++ rewind₁ ∷ [] in
    let before₂ = common ++ snapshot ∷ own₂ ++ rewind₂ ∷ [] in
    told_later s before₁ later₁ (answers g fresh (before₁ ++ later₁)) ≡ told_later s before₂ later₂ (answers g fresh (before₂ ++ later₂))

-- its mappings, rights, marks and bytes, of all pages, are those of the copy
abbrev pub Restored : Core → Type 0
Restored c = c.copy ≡ some c.pages

-- "a rewound sandbox has exactly the mappings, rights and bytes the plain machine copied at its snapshot"
abbrev pub RewoundIsRestored : Given → Type 0
RewoundIsRestored g = (s : ℕ) (qs : List Request) → Rewound g s qs → Restored (up_to g qs s).core

-- what holds of a sandbox after every list
pub record Keeps (k : Kept) : Type 0 where
  -- "It never exceeds the share"; "A sandbox has at most 8"
  pub charged : charge_of k.core.pages.slots (copy_slots k.core) ≤ k.core.share
  pub in_areas : areas k.core.pages.slots ≤ most_areas
  -- fronts stand on mapped pages; committed pages and backs are snapshot pages
  pub front_mapped : (i : ℕ) → k.traces.front i ≡ true → is_mapped (k.core.pages.slots i) ≡ true
  pub committed_in : (i : ℕ) → is_committed (k.core.pages.slots i) ≡ true → is_mapped (copied (copy_slots k.core) i) ≡ true
  pub back_in : (i : ℕ) → k.traces.back i ≡ true → is_mapped (copied (copy_slots k.core) i) ≡ true
  -- fronts, backs and kept frames "stay within the share" (A3)
  pub in_share : frames_held k.traces ≤ k.core.share
  -- the back marks are always those of the copy
  pub back_copied : k.traces.back ≡ k.traces.copied_back
  -- no page past 63
  pub inside : (i : ℕ) → is_mapped (k.core.pages.slots i) ≡ true → i < page_count
  pub copy_inside : (i : ℕ) → is_mapped (copied (copy_slots k.core) i) ≡ true → i < page_count
  -- the copy keeps the limits too, so that a rewind is never refused by them
  pub copy_charged : charge_of (copied (copy_slots k.core)) (copy_slots k.core) ≤ k.core.share
  pub copy_areas : areas (copied (copy_slots k.core)) ≤ most_areas
  -- an open sandbox has a share of 1 to 128; a closed one has nothing
  pub open_share : k.core.opened ≡ true → (1 ≤ k.core.share) × (k.core.share ≤ most_share)
  pub closed_empty : k.core.opened ≡ false → k ≡ closed

-- of all sandboxes: "the shares together never exceed the pool"
pub record Holds (g : Given) (p : Plain) : Type 0 where
  pub each : (s : ℕ) → Keeps (p s)
  pub pooled : shares p ≤ g.frames

-- What a page has whose front or back mark is missing.
pub record Reads (g : Given) (k : Kept) : Type 0 where
  -- a page without a front: the copy's bytes if it is committed, else its backing's
  pub old : (i : ℕ) → is_committed (k.core.pages.slots i) ≡ true → k.traces.front i ≡ false → k.core.pages.bytes i ≡ copy_bytes k.core.copy i
  pub new : (i : ℕ) → is_uncommitted (k.core.pages.slots i) ≡ true → k.traces.front i ≡ false
      → k.core.pages.bytes i ≡ backing_byte g.image (backing_at (k.core.pages.slots i))
  -- a snapshot page without a back: its backing's
  pub unbacked : (i : ℕ) → is_mapped (copied (copy_slots k.core) i) ≡ true → k.traces.back i ≡ false
      → copy_bytes k.core.copy i ≡ backing_byte g.image (backing_at (copied (copy_slots k.core) i))
  -- committed pages agree with the copy's in backing, and the copy's are committed
  pub backing : (i : ℕ) → is_committed (k.core.pages.slots i) ≡ true → backing_at (k.core.pages.slots i) ≡ backing_at (copied (copy_slots k.core) i)
  pub marked : (i : ℕ) → is_mapped (copied (copy_slots k.core) i) ≡ true → is_committed (copied (copy_slots k.core) i) ≡ true

-- "a sandbox's mapped pages and backs together are at most its share"
abbrev pub Covered : Kept → Type 0
Covered k = mapped_pages k.core.pages.slots + count k.traces.back page_count ≤ k.core.share

-- "a next write within its limits, to any mapped page with rights 3, is accepted and leaves the page with a front"
abbrev pub NextWrite : Given → Plain → Type 0
NextWrite g p =
    (q : Request) → q.code ≡ write_code → q.sandbox < sandbox_count → (p q.sandbox).core.opened ≡ true → within (length g.image / page_bytes) q ≡ true
    → is_mapped ((p q.sandbox).core.pages.slots (page_of q)) ≡ true → rights_at ((p q.sandbox).core.pages.slots (page_of q)) ≡ read_write
    → (number_at g p q ≡ 0) × ((after g p q q.sandbox).traces.front (page_of q) ≡ true)

-- after a snapshot a rewind is never refused
abbrev pub NextRewind : Given → Plain → Type 0
NextRewind g p =
    (q : Request) → q.code ≡ rewind_code → q.sandbox < sandbox_count → within (length g.image / page_bytes) q ≡ true
    → is_taken (copy_slots (p q.sandbox).core) ≡ true → number_at g p q ≡ 0

-- all of this, after every list
pub record Always (g : Given) (p : Plain) : Type 0 where
  pub holds : Holds g p
  pub reads : (s : ℕ) → Reads g (p s)
  pub covered : (s : ℕ) → Covered (p s)
  pub next_write : NextWrite g p
  pub next_rewind : NextRewind g p

-- ---- what people quote

-- a refused call changes nothing
abbrev pub RefusedChangesNothing : Given → Type 0
RefusedChangesNothing g = (p : Plain) (q : Request) → eqb (number_at g p q) 0 ≡ false → after g p q ≡ p

-- reads, reports and call 10 change nothing
abbrev pub ReadsChangeNothing : Given → Type 0
ReadsChangeNothing g = (p : Plain) (q : Request) → (q is read_code || (q is report_code || q is compare_code)) ≡ true → after g p q ≡ p

-- rewinding twice is rewinding once
abbrev pub RewindTwice : Given → Type 0
RewindTwice g = (qs : List Request) (q : Request) → (q is rewind_code) ≡ true → after g (after g (up_to g qs) q) q ≡ after g (up_to g qs) q

-- only open can be refused because of another sandbox: any other call is refused alike where its own sandbox is alike
abbrev pub OnlyOpenMeetsOthers : Given → Type 0
OnlyOpenMeetsOthers g =
    (p p' : Plain) (q : Request) → (q is open_code) ≡ false → (p q.sandbox).core ≡ (p' q.sandbox).core → number_at g p q ≡ number_at g p' q

-- ---- request A1, "Still clean?"

-- call 10 of sandbox s
abbrev pub compare_of : ℕ → Request
compare_of s = in_sandbox s (call compare_code)

-- right after an accepted snapshot call 10 answers 64
abbrev pub CleanAfterSnapshot : Given → Type 0
CleanAfterSnapshot g =
    (s : ℕ) (qs : List Request) (q : Request) → Then g s snapshot_code qs q → answer g (up_to g (qs ++ q ∷ [])) (compare_of s) ≡ ok page_count

-- and right after an accepted rewind: "until a later call changes what the plain machine keeps for it"
abbrev pub CleanWhileRewound : Given → Type 0
CleanWhileRewound g = (s : ℕ) (qs : List Request) → Rewound g s qs → answer g (up_to g qs) (compare_of s) ≡ ok page_count

-- what a read within its limits would answer of the copy: its byte, or that the page is not mapped there
abbrev pub copy_answer : Core → Request → Answered
copy_answer c q = ok (copy_bytes c.copy (page_of q) (offset_of q)) when is_mapped (copied (copy_slots c) (page_of q)) else refused 9

-- where call 10 answers 64, every read answers what the copy has
abbrev pub CleanReadsCopy : Given → Type 0
CleanReadsCopy g =
    (p : Plain) (s : ℕ) → answer g p (compare_of s) ≡ ok page_count
    → (q : Request) → (q is read_code) ≡ true → q.sandbox ≡ s → within (length g.image / page_bytes) q ≡ true → answer g p q ≡ copy_answer (p s).core q

-- ---- request A2, "Unmapping over gaps": of an unmap within its limits, of an open sandbox, after every list

abbrev pub UnmapsAfter : Given → List Request → Request → Type 0
UnmapsAfter g qs q = Unmaps (view_of g (shares (up_to g qs)) (up_to g qs q.sandbox).core) q

-- the slots of the sandbox that it names
abbrev pub slots_before : Given → List Request → Request → Slots
slots_before g qs q = (up_to g qs q.sandbox).core.pages.slots

-- "a range with none mapped is accepted and changes nothing"
abbrev pub UnmapOfNothing : Given → Type 0
UnmapOfNothing g =
    (qs : List Request) (q : Request) → UnmapsAfter g qs q → all_are false (slots_before g qs q) q.p1 q.p2 ≡ true
    → (answer g (up_to g qs) q ≡ ok 0) × (after g (up_to g qs) q ≡ up_to g qs)

-- "Unmap now passes over unmapped pages": where it is accepted, so are the unmaps of its mapped pages alone, and they leave the same
abbrev pub UnmapsAlone : Given → Type 0
UnmapsAlone g =
    (qs : List Request) (q : Request) → UnmapsAfter g qs q → number_at g (up_to g qs) q ≡ 0
    → let alone = mapped_alone q (slots_before g qs q) in
    (answers g (up_to g qs) alone ≡ all_ok alone) × (after_all g (up_to g qs) alone ≡ after g (up_to g qs) q)
