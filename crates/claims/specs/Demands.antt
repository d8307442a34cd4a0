-- THE DEMANDS. Each statement stands under its sentence from the order or from document 01; proofs/Claims proves every one, of every image and pool
-- that a start accepts, and of every list of requests.
use Rattle.std.specs.Prelude.{◌≡◌, true, List, [], ◌∷◌, ◌++◌, ℕ, suc, ◌+◌, ◌*◌, ◌≤◌, ◌<◌, length, get_or}
use Rattle.interface.specs.declared.request.Request.{Request}
use Rattle.interface.specs.Answers.{Answered}
use Rattle.interface.specs.Requests.{◌is◌, write_code, snapshot_code, rewind_code, page_of}
use Rattle.interface.specs.Slots.{is_mapped, rights_at, mapped_pages, copied}
use Rattle.interface.specs.Limits.{within}
use Rattle.interface.specs.Refusals.{refusal}
use Rattle.interface.specs.Numbers.{pages_in}
use Rattle.pages.specs.Parts.{frame, zeros, listed}
use Rattle.frames.specs.Frames.{held}
use Rattle.kept.specs.Spare.{kept_by, Spare, Words}
use Rattle.marks.specs.Named.{used_below}
use Rattle.marks.specs.Marks.{from}
use Rattle.table.specs.Store.{entry, front_of, back_of, contents}
use Rattle.areas.specs.Areas.{slots}
use Rattle.state.specs.World.{World, sandbox_at, record_at, shares_of, started, lengths_ok, rows_of}
use Rattle.state.specs.Start.{started_by}
use Rattle.state.specs.Sound.{Sound}
use Rattle.content.specs.Content.{page_read}
use Rattle.memory.specs.Memory.{held_by}
use Rattle.step.specs.Step.{view_at, Chosen, Outcome, Stepped}
use Rattle.plain.specs.Machine.{Given, fresh, copy_slots, copy_bytes, answers}
use Rattle.plain_claims.specs.Lists.{up_to, naming, told_later, Rewound}
use Rattle.simulation.specs.Lent.{Lent}
use Rattle.claims.specs.Touches.{Touches}

-- ---- lists of calls

-- "Each call gets the state, pool and table as the one before returned or left them": requests, their answers, and the world after them, each
-- step with what `call` ensures.
pub data Run (image : List ℕ) : World → List Request → List Answered → World → Type 0 where
  none : {w : World} → Run image w [] [] w
  more : {w v : World} {q : Request} {o : Outcome} {qs : List Request} {as' : List Answered}
      → Stepped image w q o → Run image o.world qs as' v → Run image w (q ∷ qs) (o.answer ∷ as') v

-- "A list starts from the state, pool and table that a start not refused leaves"
abbrev pub RunFrom : Given → List Request → List Answered → World → Type 0
RunFrom g qs as' v = Run g.image (started g.frames) qs as' v

-- a start that is not refused is given such an image and pool, and leaves the world from which lists start, whatever pool and table held before
abbrev pub StartsLists : Type 0
StartsLists =
    (pool table image : List ℕ) → lengths_ok (length pool) (length table) (length image) ≡ true
    → Lent (record { image = image; frames = pages_in (length pool) }) × (started_by pool table image ≡ started (pages_in (length pool)))

-- every list has a run, so that nothing below is empty
abbrev pub EveryListRuns : Given → Type 0
EveryListRuns g = (qs : List Request) → (as' : List Answered) × ((v : World) × RunFrom g qs as' v)

-- ---- demand 1

-- the code is that of one of the ten calls
abbrev pub Coded : Request → Type 0
Coded q = (1 ≤ q.code) × (q.code ≤ 10)

-- "answers document 01's refusal number and value 0 and changes nothing. Every other call .. touches only the memory named for it."
-- (That each call ends, with the number and value of `step`, is the contract of `call` itself.)
pub record Demand1 (image : List ℕ) (w : World) (q : Request) (o : Outcome) : Type 0 where
  -- "call code not 1 to 9", now 1 to 10
  pub uncalled : (Coded q → ⊥) → o.answer.number ≡ 2
  -- "lent length wrong, or state unsound". That four sandboxes stand in the row is what the type [Sandbox; 4] says of any state, and that a run is two words of
  -- 64 bits what the type Held says.
  pub unsound : Coded q → length w.sandboxes ≡ 4 → ((s : ℕ) → s < 4 → Words (rows_of w s)) → (Sound image w → ⊥) → o.answer.number ≡ 3
  -- the table, whatever is handed in: "When several apply, the lowest number is answered"
  pub table : o.answer.number ≡ refusal (view_at image w q.sandbox) q
  -- a refused call answers value 0 and leaves state, pool and table
  pub refused : (o.answer.number ≡ 0 → ⊥) → (o.answer.value ≡ 0) × (o.world ≡ w)
  -- an accepted call leaves the other sandboxes, their entries and what these hold
  pub others : o.answer.number ≡ 0 → (s : ℕ) → s < 4 → (q.sandbox ≡ s → ⊥) → sandbox_at o.world s ≡ sandbox_at w s
  pub entries : o.answer.number ≡ 0 → (s i : ℕ) → s < 4 → i < 128 → (q.sandbox ≡ s → ⊥)
      → entry o.world.store (s * 128 + i) ≡ entry w.store (s * 128 + i)
  pub contents : o.answer.number ≡ 0 → (s i : ℕ) → s < 4 → i < 128 → (q.sandbox ≡ s → ⊥)
      → contents 256 o.world.store (s * 128 + i) ≡ contents 256 w.store (s * 128 + i)
  -- in its own sandbox too it changes the entries, frames and runs that it names, and the frames that it gives up and takes, and nothing else: see Touches
  pub touches : (t : Stepped image w q o) → o.answer.number ≡ 0 → Touches image w q o t.frame t.given
  -- a sound state stays sound, whatever its unheld frames hold
  pub sound : Sound image w → Sound image o.world

-- ---- demand 2

-- "From a fresh state each call gives the number and value of the plain checkpoint-and-restore machine, which copies whole address spaces; it refuses where
-- that machine refuses and nowhere else."
abbrev pub Demand2 : Given → Type 0
Demand2 g = (qs : List Request) (as' : List Answered) (v : World) → RunFrom g qs as' v → as' ≡ answers g fresh qs

-- ---- demand 3

module _ (g : Given) (qs : List Request) (v : World) where
  -- "a rewound sandbox has exactly the mappings, rights and bytes the plain machine copied at its snapshot"
  pub record AsSnapshot (s : ℕ) : Type 0 where
    pub mappings : slots (record_at v s).present ≡ copied (copy_slots (up_to g qs s).core)
    pub bytes : (i : ℕ) → i < 64 → is_mapped (slots (record_at v s).present i) ≡ true
        → page_read g.image v.store (record_at v s) s i ≡ listed 256 (copy_bytes (up_to g qs s).core.copy i)
    -- "In a rewound sandbox each front and back is that of a snapshot page and holds the copy's bytes of it."
    pub fronts : (i f : ℕ) → i < 64 → entry v.store (front_of s i) ≡ suc f
        → (is_mapped (copied (copy_slots (up_to g qs s).core) i) ≡ true) × (frame 256 v.store.pool f ≡ listed 256 (copy_bytes (up_to g qs s).core.copy i))
    pub backs : (i f : ℕ) → i < 64 → entry v.store (back_of s i) ≡ suc f
        → (is_mapped (copied (copy_slots (up_to g qs s).core) i) ≡ true) × (frame 256 v.store.pool f ≡ listed 256 (copy_bytes (up_to g qs s).core.copy i))
    -- "A rewound sandbox's frames hold snapshot pages or zeros" (A3): its kept frames are zero
    pub kept : (i f : ℕ) → i < 8 → f < 128 → held (rows_of v s i) f ≡ 1 → (f < g.frames) × (frame 256 v.store.pool f ≡ zeros 256)

  -- "After every list a front holds the 256 bytes that its page has in the plain machine, a back those that it has in the copy, and a frame that no entry names
  -- is zero."
  pub record Frames : Type 0 where
    pub fronts : (s i f : ℕ) → s < 4 → i < 64 → entry v.store (front_of s i) ≡ suc f
        → frame 256 v.store.pool f ≡ listed 256 ((up_to g qs s).core.pages.bytes i)
    pub backs : (s i f : ℕ) → s < 4 → i < 64 → entry v.store (back_of s i) ≡ suc f
        → frame 256 v.store.pool f ≡ listed 256 (copy_bytes (up_to g qs s).core.copy i)
    pub rest : (f : ℕ) → f < g.frames → ((k : ℕ) → entry v.store k ≡ suc f → ⊥) → frame 256 v.store.pool f ≡ zeros 256
    -- "unheld frames are zero": by the held marks
    pub unheld : (f : ℕ) → f < g.frames → held v.store.marks f ≡ 0 → frame 256 v.store.pool f ≡ zeros 256
    -- "Kept frames are held and zero, belong to one run and no entry" (A3)
    pub kept : Spare 256 g.frames v.store (rows_of v)
    -- "A sandbox holds the frames that its front and back entries name; call 9 counts them", and those that its runs keep (A3)
    pub counted : (s : ℕ) → s < 4 → held_by v.store s ≡ used_below (from (s * 128) v.store.table) 128

  -- "no sandbox holds more than its share; no accepted mapping ever lacks a frame"
  pub record Promise : Type 0 where
    pub share : (s : ℕ) → s < 4 → used_below (from (s * 128) v.store.table) 128 + kept_by (rows_of v s) ≤ (record_at v s).share
    -- "a sandbox's mapped pages and backs together are at most its share, the shares together at most the pool"
    pub covered : (s : ℕ) → s < 4 → mapped_pages (slots (record_at v s).present) + used_below (from (s * 128 + 64) v.store.table) 64 ≤ (record_at v s).share
    pub pooled : shares_of v ≤ g.frames
    -- "a next write within its limits, to any mapped page with rights 3, is accepted and leaves the page with a front"
    pub next : (q : Request) (o : Outcome) → Stepped g.image v q o → q.code ≡ write_code → q.sandbox < 4 → (record_at v q.sandbox).opened ≡ true
        → within (pages_in (length g.image)) q ≡ true → is_mapped (slots (record_at v q.sandbox).present (page_of q)) ≡ true
        → rights_at (slots (record_at v q.sandbox).present (page_of q)) ≡ 3
        → (o.answer.number ≡ 0) × ((f : ℕ) × (entry o.world.store (front_of q.sandbox (page_of q)) ≡ suc f))
    -- a write that gives up a frame has one to give up, and one that takes a frame finds one (that its page's front entry alone names it afterwards, and no run
    -- keeps it, is `alone` in Touches)
    pub found : (q : Request) → (f : ℕ) × ((given : ℕ) × Chosen g.image v q f given)

-- q is this call of sandbox s, and the answer at its place in the list says that it was accepted
pub record Took (s call : ℕ) (q : Request) (as' : List Answered) (place : ℕ) : Type 0 where
  pub called : (q is call) ≡ true
  pub names : q.sandbox ≡ s
  pub taken : (get_or as' place (record { number = 1; value = 0 })).number ≡ 0

-- "Demand 3 is a single claim about a whole list of calls, and not one claim for each call."
pub record Demand3 (g : Given) : Type 0 where
  pub rewound : (s : ℕ) (qs : List Request) (as' : List Answered) (v : World) → s < 4 → RunFrom g qs as' v → Rewound g s qs → AsSnapshot g qs v s
  pub frames : (qs : List Request) (as' : List Answered) (v : World) → RunFrom g qs as' v → Frames g qs v
  pub promise : (qs : List Request) (as' : List Answered) (v : World) → RunFrom g qs as' v → Promise g qs v
  -- the state after every list is sound
  pub sound : (qs : List Request) (as' : List Answered) (v : World) → RunFrom g qs as' v → Sound g.image v
  -- "two lists alike up to a sandbox's snapshot and alike in its calls after its rewind give it the same answers ever after (call 9's count apart),
  -- whatever anyone called in between or others call later". Whether the snapshot and the rewinds were accepted is read off the answers.
  pub two_lists :
      (s : ℕ) (common own₁ own₂ later₁ later₂ : List Request) (snapshot rewind₁ rewind₂ : Request) (as₁ as₂ : List Answered) (v₁ v₂ : World)
      → let before₁ = common ++ snapshot ∷ own₁ ++ rewind₁ ∷ [] in
      let before₂ = common ++ snapshot ∷ own₂ ++ rewind₂ ∷ [] in
      RunFrom g (before₁ ++ later₁) as₁ v₁
      → RunFrom g (before₂ ++ later₂) as₂ v₂
      → Took s snapshot_code snapshot as₁ (length common)
      → Took s rewind_code rewind₁ as₁ (length (common ++ snapshot ∷ own₁))
      → Took s rewind_code rewind₂ as₂ (length (common ++ snapshot ∷ own₂))
      → naming s later₁ ≡ naming s later₂
      → told_later s before₁ later₁ as₁ ≡ told_later s before₂ later₂ as₂
