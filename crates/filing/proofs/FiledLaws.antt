-- The ways out of the archive function over a state in bytes.
use Prim.Native.Nat.{ℕ}
use mathlib.Core.Path.{◌≡◌, ap, ◌∙◌}
use mathlib.Core.Bool.{true, false}
use mathlib.Core.List.{List}
use Rattle.interface.specs.Answers.{Answer}
use Rattle.std.specs.Prelude.{Err}
use Rattle.interface.specs.declared.answer.Refusal.TheVariants.{Unsound}
use Rattle.state.specs.declared.sandbox.Machine.{Machine}
use Rattle.state.specs.World.{world_of}
use Rattle.layout.specs.Layout.{is_state, state_from}
use Rattle.archive.specs.Written.{written_as}
use Rattle.replay.specs.Snapshot.{written}
use Rattle.whole_roll.specs.Whole.{left as leaves}
use Rattle.host_calls.specs.declared.Told.{Told}
use Rattle.host_calls.specs.Calls.{Handed, told_by}
use Rattle.filing.specs.Filed.{left, filed}

module _ (image : List ℕ) (h : Handed) (s : ℕ) (out : List ℕ) where
  pub no-state : is_state h.state ≡ false → left (told_by (Err Unsound)) out ≡ filed image h s out
  unfolding filed written_as
  no-state n = rw n

  pub a-state : is_state h.state ≡ true → (m : Machine) (answer : Answer) (t : Told) (now : List ℕ) → m ≡ state_from h.state
      → leaves answer now ≡ written image (world_of m h.pool h.table) s out → t ≡ told_by answer → left t now ≡ filed image h s out
  unfolding filed
  a-state y m answer t now e is told =
      ap (λ (x : Told). left x now) told ∙ is ∙ ap (λ (x : Machine). written image (world_of x h.pool h.table) s out) e ∙ rw y
