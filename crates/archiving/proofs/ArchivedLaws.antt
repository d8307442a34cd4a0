-- The ways out of the archive function.
use Prim.Native.Nat.{ℕ, ◌≤◌, ◌<◌}
use mathlib.Core.Path.{◌≡◌, ap, ◌∙◌}
use mathlib.Core.Bool.{true, false}
use mathlib.Core.List.{List}
use borrow.Author.Tests.{lt-ltb, le-ltb}
use Rattle.interface.specs.Answers.{Answer}
use Rattle.std.specs.Prelude.{Err}
use Rattle.interface.specs.declared.answer.Refusal.TheVariants.{Unsound, NotOpen, NoSnapshot}
use Rattle.interface.specs.declared.request.Request.{Request}
use Rattle.interface.specs.Refusals.{archive_refusal}
use Rattle.state.specs.World.{World, record_at}
use Rattle.soundness.specs.Test.{soundb}
use Rattle.archive.specs.Written.{written_as}
use Rattle.replay.specs.Snapshot.{archive_of, archive_number, written}
use Rattle.whole_roll.specs.Whole.{left, fitted}

module _ (image : List ℕ) (w : World) (s : ℕ) (out : List ℕ) where
  pub refused-3 : soundb image w ≡ false → left (Err Unsound) out ≡ written image w s out
  unfolding written archive_number archive_refusal written_as
  refused-3 e = rw e

  module _ (sound : soundb image w ≡ true) where
    pub refused-4 : 4 ≤ s → left (Err NotOpen) out ≡ written image w s out
    unfolding written archive_number archive_refusal written_as
    refused-4 l = rw (sound, le-ltb s 4 l)

    module _ (row : s < 4) where
      pub refused-closed : (record_at w s).opened ≡ false → left (Err NotOpen) out ≡ written image w s out
      unfolding written archive_number archive_refusal written_as
      refused-closed e = rw (sound, lt-ltb s 4 row, e)

      module _ (opened : (record_at w s).opened ≡ true) where
        pub refused-8 : (record_at w s).taken ≡ false → left (Err NoSnapshot) out ≡ written image w s out
        unfolding written archive_number archive_refusal written_as
        refused-8 e = rw (sound, lt-ltb s 4 row, opened, e)

        pub filed : (record_at w s).taken ≡ true → (answer : Answer) (now : List ℕ) (roll : List Request) → roll ≡ archive_of image w s
            → left answer now ≡ fitted roll out → left answer now ≡ written image w s out
        unfolding written archive_number archive_refusal fitted
        filed taken answer now roll is x = x ∙ ap (λ l. fitted l out) is ∙ rw (sound, lt-ltb s 4 row, opened, taken)
