-- The rows of an archive roll: what holds where none applies, and the other way.
use Prim.Native.Nat.{ℕ, ◌≤◌, ◌<◌}
use mathlib.Core.Path.{◌≡◌}
use mathlib.Core.Bool.{true, not}
use lib.Dec.{ltb}
use borrow.Author.Tests.{lt-ltb, le-ltb, ltb-true, ltb-false, not-false}
use Rattle.basics.proofs.TestLaws.{passed, or_left, or_right}
use Rattle.interface.specs.Refusals.{View, is_taken, archive_refusal}

module _ (v : View) (s bytes room : ℕ) where
  pub record Allowed : Type 0 where
    pub sound : v.sound ≡ true
    pub row : s < 4
    pub opened : v.opened ≡ true
    pub snapshot : is_taken v.copy ≡ true
    pub fits : bytes ≤ room

  pub allowed : archive_refusal v s bytes room ≡ 0 → Allowed
  unfolding archive_refusal
  allowed e =
      let sound = passed 2 _ (not v.sound) e in
      let opened = passed 3 _ _ sound.1 in
      let snapshot = passed 7 _ (not (is_taken v.copy)) opened.1 in
      let fits = passed 14 _ (ltb room bytes) snapshot.1 in
      record {
        sound = not-false v.sound sound.0;
        row = ltb-true s 4 (not-false _ (or_left (not (ltb s 4)) (not v.opened) opened.0));
        opened = not-false v.opened (or_right (not (ltb s 4)) _ opened.0);
        snapshot = not-false _ snapshot.0;
        fits = ltb-false room bytes fits.0;
      }

  pub none-applies : Allowed → archive_refusal v s bytes room ≡ 0
  unfolding archive_refusal
  none-applies a = rw (a.sound, lt-ltb s 4 a.row, a.opened, a.snapshot, le-ltb room bytes a.fits)
