-- From no refusal to what an accepted request meets.
use Prim.Native.Nat.{ℕ, ◌+◌, ◌-◌, ◌≤◌, ◌<◌}
use mathlib.Core.Path.{◌≡◌}
use mathlib.Core.Bool.{true, false, not, ◌&&◌}
use native.Mathlib.Omega.{arith}
use lib.Dec.{leb, ltb, eqb}
use borrow.Author.Tests.{leb-true, ltb-true, ltb-false, eqb-true, eqb-false, not-false}
use Rattle.basics.proofs.TestLaws.{by_cases, and_left, and_right, and-not-right, or_left, or_right}
use Rattle.basics.proofs.LoopLaws.{lowest-range, lowest-passes, lowest-least}
use Rattle.interface.specs.declared.answer.Refusal.{Refusal}
use Rattle.interface.specs.declared.answer.Refusal.TheVariants.{NoSuchCall, Unsound, NotOpen, AlreadyOpen, OutsideLimits, SnapshotTaken, NoSnapshot}
use Rattle.interface.specs.declared.answer.Refusal.TheVariants.{NotMapped, AlreadyMapped, NoGap, NotWritable, ShareExceeded, TooManyAreas}
use Rattle.interface.specs.declared.request.Request.{Request}
use Rattle.interface.specs.Requests.{◌is◌, open_code, map_code, write_code, snapshot_code, needs_snapshot}
use Rattle.interface.specs.Slots.{Slots, all_are, gap_at, lowest_gap}
use Rattle.interface.specs.Limits.{within}
use Rattle.interface.specs.Outcome.{first_of}
use Rattle.interface.specs.Refusals.{View, applies, refusal}
use Rattle.interface.specs.Accepted.{Accepted}
use Rattle.interface.proofs.TableLaws.{all_past}

-- the lowest gap is at most 64, and what is below 64 is a gap
pub gap-range : (f : Slots) (n : ℕ) → lowest_gap f n ≤ 64
unfolding lowest_gap
gap-range f n = omega (arith, (lowest-range (gap_at f n) 0 64).1)

pub gap-some : (f : Slots) (n : ℕ) → eqb (lowest_gap f n) 64 ≡ false → lowest_gap f n < 64
gap-some f n h = omega (arith, gap-range f n, eqb-false (lowest_gap f n) 64 h)

pub gap-found : (f : Slots) (n : ℕ) → lowest_gap f n < 64 → gap_at f n (lowest_gap f n) ≡ true
unfolding lowest_gap
gap-found f n h = lowest-passes (gap_at f n) 0 64 (omega arith)

pub gap-lowest : (f : Slots) (n i : ℕ) → i < lowest_gap f n → gap_at f n i ≡ false
unfolding lowest_gap
gap-lowest f n i h = lowest-least (gap_at f n) 0 64 i (omega arith) h

pub gap-fits : (f : Slots) (n : ℕ) → lowest_gap f n < 64 → lowest_gap f n + n ≤ 64
gap-fits f n h = omega (arith, leb-true n (64 - lowest_gap f n) (and_left (leb n (64 - lowest_gap f n)) _ (gap-found f n h)))

-- no row applies
pub no_row : (v : View) (q : Request) → refusal v q ≡ 0 → (row : Refusal) → applies v q row ≡ false
unfolding applies refusal
no_row v q e = all_past (applies v q) e

pub accepted : (v : View) (q : Request) → refusal v q ≡ 0 → Accepted v q
unfolding applies
accepted v q e =
    let past = no_row v q e in
    let opening = past NotOpen in
    let share = past ShareExceeded in
    record {
      coded = not-false _ (past NoSuchCall);
      sound = not-false _ (past Unsound);
      in_row = ltb-true q.sandbox 4 (not-false _ (or_left _ _ opening));
      opened = λ o. not-false _ (and-not-right (not (q is open_code)) _ (or_right (not (ltb q.sandbox 4)) _ opening) (rw o));
      closed = λ o. and-not-right (q is open_code) v.opened (past AlreadyOpen) o;
      in_limits = not-false _ (past OutsideLimits);
      untaken = and-not-right (q is snapshot_code) _ (past SnapshotTaken);
      taken = λ o. not-false _ (and-not-right (needs_snapshot q) _ (past NoSnapshot) o);
      mapped = not-false _ (past NotMapped);
      free = λ o n. not-false _ (and-not-right (q is map_code && not (eqb q.p1 64)) _ (past AlreadyMapped) (rw (o, n)));
      has_gap = λ o n. gap-some v.slots q.p2 (and-not-right (q is map_code && eqb q.p1 64) _ (past NoGap) (rw (o, n)));
      writable = λ o. eqb-true _ 3 (not-false _ (and-not-right (q is write_code) _ (past NotWritable) o));
      pooled = λ o. ltb-false _ _ (and-not-right (q is open_code) _ (or_left _ _ share) o);
      charged = ltb-false _ _ (or_right (q is open_code && ltb v.frames (v.shares + q.p1)) _ share);
      in_areas = ltb-false 8 _ (past TooManyAreas);
    }

-- the pages of a map end at page 63 at the latest
pub map-fits : (v : View) (q : Request) → Accepted v q → q.code ≡ map_code → first_of v.slots q + q.p2 ≤ 64
unfolding first_of within
map-fits v q a e =
    let is_map : (q is map_code) ≡ true = rw e in
    by_cases (eqb q.p1 64)
    (λ t. rw (t, first_of) (gap-fits v.slots q.p2 (a.has_gap is_map t)))
    (λ t. rw (t, first_of) (let w = rw (e, t) at a.in_limits in leb-true _ 64 (search (and_left, and_right))))

-- and they are unmapped before it
pub map-unmapped : (v : View) (q : Request) → Accepted v q → q.code ≡ map_code → all_are false v.slots (first_of v.slots q) q.p2 ≡ true
unfolding first_of
map-unmapped v q a e =
    let is_map : (q is map_code) ≡ true = rw e in
    by_cases (eqb q.p1 64)
    (λ t. rw (t, first_of) (and_right (leb q.p2 (64 - lowest_gap v.slots q.p2)) _ (gap-found v.slots q.p2 (a.has_gap is_map t))))
    (λ t. rw (t, first_of) (a.free is_map t))
