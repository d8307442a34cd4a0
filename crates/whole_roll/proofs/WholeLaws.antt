-- The segments of the roll put one behind the other, and the roll put where it fits.
use Prim.Native.Nat.{ℕ, ◌+◌, ◌*◌, ◌≤◌, ◌<◌}
use mathlib.Core.Path.{◌≡◌, refl, ap, ◌∙◌}
use mathlib.Core.Bool.{true, false, false≢true}
use mathlib.Core.List.{List, ◌++◌}
use native.Mathlib.Omega.{arith}
use lib.ListN.{length, drop, length-append}
use borrow.Author.Tests.{lt-ltb, le-ltb}
use Rattle.std.specs.Prelude.{Ok, Err}
use Rattle.interface.specs.declared.answer.Refusal.TheVariants.{OutputTooShort}
use Rattle.interface.specs.declared.request.Request.{Request}
use Rattle.pages.specs.Parts.{set_part}
use Rattle.archive.specs.Archive.{opening, closing}
use Rattle.archive.specs.Text.{printed_roll}
use Rattle.archive.specs.Written.{written_as}
use Rattle.archive.proofs.TextLaws.{length-roll}
use Rattle.printing.specs.declared.Cursor.{Cursor}
use Rattle.printing.specs.Put.{lined, Placed, placed, put, Room}
use Rattle.segments.specs.declared.Snapshot.{Snapshot}
use Rattle.segments.specs.ByAreas.{maps_of, protects_of}
use Rattle.segments.specs.ByPages.{writes_of}
use Rattle.segments.proofs.ByAreasLaws.{maps-most, protects-most}
use Rattle.segments.proofs.ByPagesLaws.{writes-most}
use Rattle.whole_roll.specs.Whole.{to_maps, to_writes, to_protects, roll_of, left, fitted}

-- ---- the segments

prefix-room : (to : Cursor) (out : List ℕ) (l x : List Request) → Room to out (l ++ x) → Room to out l
prefix-room to out l x room = record {
  few = omega (arith, room.few, length-append l x);
  fits = λ e. omega (arith, room.fits e, length-append l x);
}

module _ (image pool table : List ℕ) (b : Snapshot) where
  -- the first line, 8 maps, a write for each of 16,384 bytes, 8 protects and the last line
  pub roll-most : length (roll_of image pool table b) ≤ 16402
  unfolding roll_of
  roll-most =
      omega (
        arith,
        length-append (to_protects image pool table b) (closing b.sandbox),
        length-append (to_writes image pool table b) (protects_of b),
        length-append (to_maps b) (writes_of image pool table b),
        length-append (opening b.sandbox b.share) (maps_of b),
        maps-most b,
        writes-most image pool table b,
        protects-most b,
      )

  pub whole : (to : Cursor) (out : List ℕ) → put to out (to_protects image pool table b ++ closing b.sandbox) ≡ put to out (roll_of image pool table b)
  unfolding roll_of
  whole to out = refl

  -- room for the roll is room for what is put first
  module _ (to : Cursor) (out : List ℕ) (room : Room to out (roll_of image pool table b)) where
    pub room-roll : Room to out (to_protects image pool table b ++ closing b.sandbox)
    unfolding roll_of
    room-roll = room

    pub room-protects : Room to out (to_protects image pool table b)
    room-protects = prefix-room to out (to_protects image pool table b) (closing b.sandbox) room-roll

    pub room-writes : Room to out (to_writes image pool table b)
    room-writes = prefix-room to out (to_writes image pool table b) (protects_of b) room-protects

    pub room-maps : Room to out (to_maps b)
    room-maps = prefix-room to out (to_maps b) (writes_of image pool table b) room-writes

    pub room_open : Room to out (opening b.sandbox b.share)
    room_open = prefix-room to out (opening b.sandbox b.share) (maps_of b) room-maps

-- ---- counted, and then written where it fits

abbrev counting : Cursor
counting = record { line = 0; writes = false }

abbrev writing : Cursor
writing = record { line = 0; writes = true }

-- lines that are counted need no bytes
pub count_room : (out : List ℕ) (l : List Request) → length l ≤ 16402 → Room counting out l
count_room out l most = record { few = omega arith; fits = λ e. absurd (false≢true e) }

module _ (out out₁ : List ℕ) (counted : Cursor) (l : List Request) (is : placed counted out₁ ≡ put counting out l) where
  -- and touch nothing
  untouched : out₁ ≡ out
  unfolding lined
  untouched = ap (λ (p : Placed). p.out) is

  lines_are : counted.line ≡ length l
  lines_are = ap (λ (p : Placed). p.cursor.line) is ∙ omega arith

  pub too_long : length out₁ < counted.line * 43 → left (Err OutputTooShort) out₁ ≡ fitted l out
  unfolding fitted written_as
  too_long h =
      let z : length out < length l * 43 = omega (arith, ap length untouched, lines_are) in
      rw (lt-ltb (length out) (length l * 43) z, untouched)

  module _ (h : counted.line * 43 ≤ length out₁) where
    pub fits-room : length l ≤ 16402 → Room writing out₁ l
    fits-room most = record { few = omega arith; fits = λ e. omega (arith, lines_are) }

    -- lines written from the start on
    at-start : lined writing out₁ l ≡ printed_roll l ++ drop (length l * 43) out
    unfolding lined set_part
    at-start = let at : 0 + length (printed_roll l) ≡ length l * 43 = omega (arith, length-roll l) in rw (untouched, at)

    pub fits_in : (to₂ : Cursor) (out₂ : List ℕ) → placed to₂ out₂ ≡ put writing out₁ l → left (Ok counted.line) out₂ ≡ fitted l out
    unfolding fitted written_as
    fits_in to₂ out₂ now =
        let z : length l * 43 ≤ length out = omega (arith, ap length untouched, lines_are) in
        let text : out₂ ≡ printed_roll l ++ drop (length l * 43) out = ap (λ (p : Placed). p.out) now ∙ at-start in
        rw (le-ltb (length out) (length l * 43) z, lines_are, text)
