-- The decision, row by row: what the rows before allow to be asked, a refusal with its number, and row 14 by what was packed.
use Prim.Native.Nat.{ℕ, ◌+◌, ◌-◌, ◌≤◌, ◌<◌}
use mathlib.Core.Path.{◌≡◌, refl, sym, ◌∙◌, ap}
use mathlib.Core.Bool.{true, false, not, ◌&&◌}
use lib.Dec.{leb, ltb, eqb}
use native.Mathlib.Omega.{arith}
use borrow.Author.Tests.{eqb-false, leb-true, leb-false, le-leb, le-ltb, lt-ltb, eq-eqb, not-false}
use Rattle.std.specs.Prelude.{Ok, Err}
use Rattle.basics.proofs.TestLaws.{by_cases, and_right, and-not-right, or_left, or_right}
use Rattle.interface.specs.declared.answer.Refusal.{Refusal}
use Rattle.interface.specs.declared.answer.Refusal.TheVariants.{Malformed, NoSuchCall, Unsound, NotOpen, AlreadyOpen, OutsideLimits}
use Rattle.interface.specs.declared.answer.Refusal.TheVariants.{SnapshotTaken, NoSnapshot, NotMapped, AlreadyMapped, NoGap, NotWritable}
use Rattle.interface.specs.declared.answer.Refusal.TheVariants.{ShareExceeded, TooManyAreas, OutputTooShort}
use Rattle.interface.specs.declared.request.Request.{Request}
use Rattle.interface.specs.Requests.{◌is◌, open_code, map_code, unmap_code, protect_code, snapshot_code, rewind_code, is_call, needs_snapshot}
use Rattle.interface.specs.Slots.{areas, all_are, lowest_gap}
use Rattle.interface.specs.Limits.{within}
use Rattle.interface.specs.Outcome.{first_of, slots_after}
use Rattle.interface.specs.Refusals.{View, slots_then, applies, refusal}
use Rattle.interface.specs.Settled.{Settled}
use Rattle.interface.proofs.KindLaws.{kind}
use Rattle.interface.proofs.TableLaws.{Past, lowest-applies, from-here, some_number}
use Rattle.interface.proofs.AcceptedLaws.{gap-some, gap-found, gap-fits}
use Rattle.interface.proofs.RowLaws.{row-14}
use Rattle.areas.specs.Areas.{slots}
use Rattle.packing.specs.declared.pack.Packed.{Packed}
use Rattle.packing.proofs.PackLaws.{pack-fits}
use Rattle.records.specs.declared.Record.{Record}
use Rattle.records.specs.Record.{copy_of, view_from}
use Rattle.rules.specs.After.{changes, packed_after}
use Rattle.rules.specs.Ready.{Fit, Passed}
use Rattle.page_decision.specs.Decision.{Decided}
use Rattle.page_decision.specs.Earlier.{NoneBefore}
use Rattle.rules.proofs.FitLaws.{fit}

module _ (v : View) (q : Request) where
  -- the rows before this one do not apply
  abbrev pub Behind : Refusal → Type 0
  Behind = Past (applies v q)

  -- the rows before 9 by their numbers, and one by one
  pub behind-8 : NoneBefore NotMapped v q → Behind NotMapped
  behind-8 none =
      let past3 : Behind NotOpen = (none Unsound (omega arith), (none NoSuchCall (omega arith), (none Malformed (omega arith), tt))) in
      let past5 : Behind OutsideLimits = (none AlreadyOpen (omega arith), (none NotOpen (omega arith), past3)) in
      (none NoSnapshot (omega arith), (none SnapshotTaken (omega arith), (none OutsideLimits (omega arith), past5)))

  pub none-before-9 : Behind NotMapped → NoneBefore NotMapped v q
  none-before-9 p NoSnapshot l = p.0
  none-before-9 p SnapshotTaken l = p.1.0
  none-before-9 p OutsideLimits l = p.1.1.0
  none-before-9 p AlreadyOpen l = p.1.1.1.0
  none-before-9 p NotOpen l = p.1.1.1.1.0
  none-before-9 p Unsound l = p.1.1.1.1.1.0
  none-before-9 p NoSuchCall l = p.1.1.1.1.1.1.0
  none-before-9 p Malformed l = p.1.1.1.1.1.1.1.0
  none-before-9 p NotMapped l = absurd (omega arith)
  none-before-9 p AlreadyMapped l = absurd (omega arith)
  none-before-9 p NoGap l = absurd (omega arith)
  none-before-9 p NotWritable l = absurd (omega arith)
  none-before-9 p ShareExceeded l = absurd (omega arith)
  none-before-9 p TooManyAreas l = absurd (omega arith)
  none-before-9 p OutputTooShort l = absurd (omega arith)

  -- row 6, by the test of the limits
  pub limits-row : not (within v.images q) ≡ applies v q OutsideLimits
  unfolding applies
  limits-row = refl

  -- ---- what the rows before allow to be asked

  -- behind row 6 the request is within its limits
  pub fit_of : v.images ≤ 64 → Behind SnapshotTaken → Fit q
  unfolding applies
  fit_of h p = fit v.images q h (not-false _ p.0)

  -- rows 10 and 11 of a map
  module _ (p : Behind NotWritable) (is_map : (q is map_code) ≡ true) where
    free-named : eqb q.p1 64 ≡ false → all_are false v.slots q.p1 q.p2 ≡ true
    unfolding applies
    free-named t = not-false _ (and-not-right (q is map_code && not (eqb q.p1 64)) _ p.1.0 (rw (is_map, t)))

    has-gap : eqb q.p1 64 ≡ true → lowest_gap v.slots q.p2 < 64
    unfolding applies
    has-gap t = gap-some v.slots q.p2 (and-not-right (q is map_code && eqb q.p1 64) _ p.0 (rw (is_map, t)))

  map-fits : Behind NotWritable → Fit q → q.code ≡ map_code → first_of v.slots q + q.p2 ≤ 64
  unfolding first_of
  map-fits p f e =
      by_cases (eqb q.p1 64)
      (λ t. rw (t, first_of) (gap-fits v.slots q.p2 (has-gap p (eq-eqb _ _ e) t)))
      (λ t. rw (t, first_of) (f.named e (eqb-false q.p1 64 t)))

  map-free : Behind NotWritable → q.code ≡ map_code → all_are false v.slots (first_of v.slots q) q.p2 ≡ true
  unfolding first_of
  map-free p e =
      let is_map : (q is map_code) ≡ true = eq-eqb _ _ e in
      by_cases (eqb q.p1 64)
      (λ t. rw (t, first_of) (and_right (leb q.p2 (64 - lowest_gap v.slots q.p2)) _ (gap-found v.slots q.p2 (has-gap p is_map t))))
      (λ t. rw (t, first_of) (free-named p is_map t))

  -- behind row 11 what it would leave can be computed
  pub passed-of : v.images ≤ 64 → Behind NotWritable → Passed v q
  unfolding applies
  passed-of h p =
      let mapped = p.1.1 in
      let taken = mapped.1 in
      let limits = taken.1.1 in
      let f = fit_of h limits in
      record {
        fit = f;
        closed = λ e. and-not-right (q is open_code) v.opened limits.1.0 (eq-eqb _ _ e);
        taken = λ e. not-false _ (and-not-right (needs_snapshot q) _ taken.0 (rw e));
        fits = map-fits p f;
        free = map-free p;
      }

  -- ---- decisions

  module _ (b : Record) where
    -- the first row that applies is answered, and no areas
    pub refused : (why : Refusal) → Behind why → applies v q why ≡ true → Decided v q b (Err why)
    unfolding refusal
    refused why p e =
        let number = lowest-applies (applies v q) why p e in
        record { number = sym number; areas = tt; left = rw (number, some_number why) }

    -- none applies
    pub accepted : (p : Packed) → p ≡ packed_after q b → Behind OutputTooShort → Decided v q b (Ok p.areas)
    unfolding refusal applies
    accepted p told none =
        let number = from-here (applies v q) OutputTooShort none in
        record { number = sym number; areas = ap (λ x. x.areas) told; left = rw number (ap (λ x. x.areas) told) }

-- rows 1 to 3 of a call in a sound state
pub sound-call : (v : View) (q : Request) → v.sound ≡ true → is_call q ≡ true → Behind v q NotOpen
unfolding applies
sound-call v q s e = (rw s, (rw e, (refl, tt)))

-- ---- row 14

unpacked : (q : Request) (b : Record) → changes q ≡ false → (packed_after q b).fits ≡ true
unfolding packed_after
unpacked q b e = by_cases (q is rewind_code) (λ t. rw (e, t)) (λ t. rw (e, t))

packed : (q : Request) (b : Record) → changes q ≡ true → (packed_after q b).fits ≡ leb (areas (slots_after q (slots b.present) (copy_of b))) 8
unfolding packed_after
packed q b e = rw e (pack-fits (slots_after q (slots b.present) (copy_of b)))

more-than : (n : ℕ) → ltb 8 n ≡ not (leb n 8)
more-than n = by_cases (leb n 8) (λ e. rw e (le-ltb 8 n (leb-true n 8 e))) (λ e. rw e (lt-ltb 8 n (leb-false n 8 e)))

module _ (frames images shares : ℕ) (b : Record) (q : Request) where
  abbrev view : View
  view = view_from true frames images shares b

  fits-few : Settled view → (packed_after q b).fits ≡ leb (areas (slots_then view q)) 8
  fits-few s =
      by_cases (changes q) (packed q b)
      (λ e.
      let m = or_left (q is map_code) _ e in
      let rest = or_right (q is map_code) _ e in
      let u = or_left (q is unmap_code) _ rest in
      let last = or_right (q is unmap_code) _ rest in
      let few = row-14 view s q (kind q) m u (or_left (q is protect_code) _ last) (or_right (q is protect_code) _ last) in
      unpacked q b e ∙ sym (le-leb _ 8 few))

  -- row 14 by what was packed
  pub packed-row : Settled view → (p : Packed) → p ≡ packed_after q b → applies view q TooManyAreas ≡ not p.fits
  unfolding applies
  packed-row s p told = more-than (areas (slots_then view q)) ∙ ap not (sym (ap (λ x. x.fits) told ∙ fits-few s))
