-- What the code asks to be safe: of a request within its limits, of a record of a sound state, and of a request that the rows before have let pass.
use Rattle.std.specs.Prelude.{◌≡◌, true, false, ℕ, ◌+◌, ◌≤◌, ◌<◌}
use Rattle.interface.specs.Numbers.{page_count, address_count, any_page, anonymous_backing, read_write, most_share, most_image_pages, byte_values}
use Rattle.interface.specs.declared.request.Request.{Request}
use Rattle.interface.specs.Requests.{open_code, map_code, unmap_code, protect_code, read_code, write_code, rewind_code}
use Rattle.interface.specs.Slots.{all_are}
use Rattle.interface.specs.Outcome.{first_of}
use Rattle.interface.specs.Refusals.{View, is_taken}
use Rattle.records.specs.declared.Record.{Record}
use Rattle.records.specs.Sound.{SoundRecord}

-- what the limits of its parameters say of a request, over an image of at most 64 pages
pub record Fit (q : Request) : Type 0 where
  pub share : q.code ≡ open_code → q.p1 ≤ most_share
  pub place : q.code ≡ map_code → (q.p1 ≤ any_page) × (q.p2 ≤ page_count) × (q.p5 ≤ read_write)
  pub named : q.code ≡ map_code → (q.p1 ≡ any_page → ⊥) → q.p1 + q.p2 ≤ page_count
  pub image : q.code ≡ map_code → (q.p3 ≡ anonymous_backing → ⊥) → q.p4 ≤ most_image_pages
  pub unmapped : q.code ≡ unmap_code → q.p1 + q.p2 ≤ page_count
  pub protected : q.code ≡ protect_code → (q.p1 + q.p2 ≤ page_count) × (q.p3 ≤ read_write)
  pub read : q.code ≡ read_code → q.p1 < address_count
  pub written : q.code ≡ write_code → (q.p1 < address_count) × (q.p2 < byte_values)

-- a sound record, over an image of so many pages, at most 64
pub record Ready (images : ℕ) (r : Record) : Type 0 where
  pub few : images ≤ most_image_pages
  pub sound : SoundRecord images r

-- a request that rows 5, 6, 8, 10 and 11 have let pass
pub record Passed (v : View) (q : Request) : Type 0 where
  pub fit : Fit q
  pub closed : q.code ≡ open_code → v.opened ≡ false
  pub taken : q.code ≡ rewind_code → is_taken v.copy ≡ true
  pub fits : q.code ≡ map_code → first_of v.slots q + q.p2 ≤ page_count
  pub free : q.code ≡ map_code → all_are false v.slots (first_of v.slots q) q.p2 ≡ true
