-- What an accepted request meets: no row of "Turned back" applies. (A consequence of `refusal`, proved in proofs/AcceptedLaws.)
use Rattle.std.specs.Prelude.{◌+◌, ◌≤◌, ◌<◌, ◌≡◌, true, false, eqb}
use Rattle.interface.specs.Numbers.{sandbox_count, page_count, any_page, read_write, most_areas}
use Rattle.interface.specs.declared.request.Request.{Request}
use Rattle.interface.specs.Requests.{◌is◌, open_code, map_code, write_code, snapshot_code, is_call, page_of, needs_snapshot}
use Rattle.interface.specs.Slots.{rights_at, areas, all_are, lowest_gap}
use Rattle.interface.specs.Limits.{within}
use Rattle.interface.specs.Outcome.{share_after}
use Rattle.interface.specs.Refusals.{View, is_taken, all_mapped, slots_then, charge_then}

pub record Accepted (v : View) (q : Request) : Type 0 where
  pub coded : is_call q ≡ true
  pub sound : v.sound ≡ true
  pub in_row : q.sandbox < sandbox_count
  pub opened : (q is open_code) ≡ false → v.opened ≡ true
  pub closed : (q is open_code) ≡ true → v.opened ≡ false
  pub in_limits : within v.images q ≡ true
  pub untaken : (q is snapshot_code) ≡ true → is_taken v.copy ≡ false
  pub taken : needs_snapshot q ≡ true → is_taken v.copy ≡ true
  pub mapped : all_mapped v.slots q ≡ true
  pub free : (q is map_code) ≡ true → eqb q.p1 any_page ≡ false → all_are false v.slots q.p1 q.p2 ≡ true
  pub has_gap : (q is map_code) ≡ true → eqb q.p1 any_page ≡ true → lowest_gap v.slots q.p2 < page_count
  pub writable : (q is write_code) ≡ true → rights_at (v.slots (page_of q)) ≡ read_write
  pub pooled : (q is open_code) ≡ true → v.shares + q.p1 ≤ v.frames
  pub charged : charge_then v q ≤ share_after q v.share
  pub in_areas : areas (slots_then v q) ≤ most_areas
