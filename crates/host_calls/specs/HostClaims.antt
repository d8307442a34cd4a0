-- WHAT A HOST GETS that keeps the state as bytes and makes a call at a time: the demands, of what it hands over and gets back. proofs/HostClaims proves them.
use Rattle.std.specs.Prelude.{◌≡◌, true, false, List, [], ◌∷◌, ◌++◌, ℕ, ◌<◌, length}
use Rattle.interface.specs.declared.request.Request.{Request}
use Rattle.interface.specs.Answers.{Answered}
use Rattle.interface.specs.Requests.{snapshot_code, rewind_code}
use Rattle.interface.specs.Slots.{all_are}
use Rattle.gaps.specs.Gaps.{Unmaps}
use Rattle.interface.specs.Numbers.{pages_in}
use Rattle.pages.specs.Parts.{zeros}
use Rattle.state.specs.World.{lengths_ok}
use Rattle.step.specs.Step.{view_at}
use Rattle.state.specs.Sound.{Sound}
use Rattle.layout.specs.Rows.{Bytes}
use Rattle.layout.specs.Layout.{state_size, is_state}
use Rattle.plain.specs.Machine.{Given, fresh, answers}
use Rattle.plain_claims.specs.Lists.{naming, told_later, Rewound}
use Rattle.claims.specs.Demands.{Run, RunFrom, Demand1, AsSnapshot, Frames, Promise, Took}
use Rattle.consequences.specs.OverGaps.{pages_of, OverGaps}
use Rattle.host_calls.specs.declared.Told.{Told}
use Rattle.host_calls.specs.Calls.{Handed, handed, hands_of, world_in, outcome_in, start_number, start_hands, Called, Calls}

-- "with the image and the pool's number of frames"
abbrev pub given_by : List ℕ → Handed → Given
given_by image h = record { image = image; frames = pages_in (length h.pool) }

-- ---- of any bytes that are a state's, also those that a host makes up

-- demand 1 of each call: it "answers document 01's refusal number and value 0 and changes nothing. Every other call .. touches only the memory named for it"
abbrev pub HostDemand1 : Type 0
HostDemand1 =
    (image : List ℕ) (h l : Handed) (q : Request) (t : Told) → Called image h q t l → is_state h.state ≡ true → Demand1 image (world_in h) q (outcome_in t l)

-- calls in turn are a run of the machine, and what is handed back are the bytes of the world after it
abbrev pub CallsAreRuns : Type 0
CallsAreRuns =
    (image : List ℕ) (h l : Handed) (qs : List Request) (as' : List Answered) → Bytes h.state → is_state h.state ≡ true → Calls image h qs as' l
    → Run image (world_in h) qs as' (world_in l) × (l ≡ hands_of (world_in l))

-- request A2 of each unmap of an open sandbox of a sound state, within its limits: "Unmap now passes over unmapped pages, and a range with none mapped is
-- accepted and changes nothing", not a byte
abbrev pub HostOverGaps : Type 0
HostOverGaps =
    (image : List ℕ) (h l : Handed) (q : Request) (t : Told) → Called image h q t l → Bytes h.state → is_state h.state ≡ true
    → Sound image (world_in h) → Unmaps (view_at image (world_in h) q.sandbox) q
    → OverGaps image (world_in h) q (outcome_in t l) × (all_are false (pages_of (world_in h) q) q.p1 q.p2 ≡ true → l ≡ h)

-- ---- of a host whose start answered 0, whatever memory it lent and whatever it calls

pub record HostClaims (image : List ℕ) (h : Handed) : Type 0 where
  -- "starting clears pool and table", and a fresh state is all zero
  pub starts : start_hands image h ≡ handed (zeros state_size) (zeros (length h.pool)) (zeros 512)
  -- every list of requests has its calls, so that nothing below is empty
  pub every : (qs : List Request) → (as' : List Answered) × ((l : Handed) × Calls image (start_hands image h) qs as' l)
  -- "A list starts from the state, pool and table that a start not refused leaves": the calls are such a list
  pub runs : (qs : List Request) (as' : List Answered) (l : Handed) → Calls image (start_hands image h) qs as' l
      → RunFrom (given_by image h) qs as' (world_in l) × (l ≡ hands_of (world_in l))
  -- demand 2: "From a fresh state each call gives the number and value of the plain checkpoint-and-restore machine"
  pub plain : (qs : List Request) (as' : List Answered) (l : Handed) → Calls image (start_hands image h) qs as' l → as' ≡ answers (given_by image h) fresh qs
  -- demand 3, of the state, pool and table in the host's hands: "a rewound sandbox has exactly the mappings, rights and bytes the plain machine copied at its
  -- snapshot"
  pub rewound : (s : ℕ) (qs : List Request) (as' : List Answered) (l : Handed) → s < 4 → Calls image (start_hands image h) qs as' l
      → Rewound (given_by image h) s qs → AsSnapshot (given_by image h) qs (world_in l) s
  -- "After every list a front holds the 256 bytes that its page has in the plain machine, a back those that it has in the copy, and a frame that no entry names
  -- is zero."
  pub frames : (qs : List Request) (as' : List Answered) (l : Handed) → Calls image (start_hands image h) qs as' l → Frames (given_by image h) qs (world_in l)
  -- "no sandbox holds more than its share; no accepted mapping ever lacks a frame"
  pub promise : (qs : List Request) (as' : List Answered) (l : Handed) → Calls image (start_hands image h) qs as' l → Promise (given_by image h) qs (world_in l)
  -- "two lists alike up to a sandbox's snapshot and alike in its calls after its rewind give it the same answers ever after (call 9's count apart), whatever
  -- anyone called in between or others call later"
  pub two_lists :
      (s : ℕ) (common own₁ own₂ later₁ later₂ : List Request) (snapshot rewind₁ rewind₂ : Request) (as₁ as₂ : List Answered) (l₁ l₂ : Handed)
      → let before₁ = common ++ snapshot ∷ own₁ ++ rewind₁ ∷ [] in
      let before₂ = common ++ snapshot ∷ own₂ ++ rewind₂ ∷ [] in
      Calls image (start_hands image h) (before₁ ++ later₁) as₁ l₁
      → Calls image (start_hands image h) (before₂ ++ later₂) as₂ l₂
      → Took s snapshot_code snapshot as₁ (length common)
      → Took s rewind_code rewind₁ as₁ (length (common ++ snapshot ∷ own₁))
      → Took s rewind_code rewind₂ as₂ (length (common ++ snapshot ∷ own₂))
      → naming s later₁ ≡ naming s later₂
      → told_later s before₁ later₁ as₁ ≡ told_later s before₂ later₂ as₂

-- a start that answers 0 gives a host all of this, and it answers 0 where every lent length is right
abbrev pub HostStarts : Type 0
HostStarts =
    (image : List ℕ) (h : Handed)
    → (start_number image h ≡ 0 → HostClaims image h)
    × (length h.state ≡ state_size → lengths_ok (length h.pool) (length h.table) (length image) ≡ true → start_number image h ≡ 0)
