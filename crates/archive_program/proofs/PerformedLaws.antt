-- What is answered has room in the output.
use mathlib.Core.Path.{◌≡◌, ap}
use mathlib.Core.Bool.{true, false, not, ◌||◌}
use mathlib.Core.List.{List}
use Prim.Native.Nat.{ℕ, ◌*◌, ◌≤◌}
use native.Mathlib.Omega.{arith}
use lib.Dec.{eqb, ltb}
use lib.ListN.{length}
use borrow.Author.Tests.{ltb-false, eqb-true}
use Rattle.basics.proofs.TestLaws.{by_cases}
use Rattle.interface.specs.Answers.{Answer}
use Rattle.interface.specs.declared.request.Request.{Request}
use Rattle.interface.specs.Answers.{value_of}
use Rattle.interface.specs.Refusals.{View, is_taken, archive_refusal}
use Rattle.state.specs.World.{World}
use Rattle.step.specs.Step.{view_at}
use Rattle.soundness.specs.Test.{soundb}
use Rattle.archive.specs.Written.{Written, written_as}
use Rattle.archive.proofs.RowLaws.{allowed}
use Rattle.replay.specs.Snapshot.{archive_of, archive_number, written}
use Rattle.whole_roll.specs.Whole.{left}

number_fits : (image : List ℕ) (w : World) (s room : ℕ) → archive_number image w s room ≡ 0 → length (archive_of image w s) * 43 ≤ room
unfolding archive_number
number_fits image w s room free = (allowed (view_at image w s) s (length (archive_of image w s) * 43) room free).fits

value-fits : (number : ℕ) (roll : List Request) (out : List ℕ) → (number ≡ 0 → length roll * 43 ≤ length out)
    → (written_as number roll out).answer.value * 43 ≤ length out
unfolding written_as
value-fits number roll out fits =
    by_cases (eqb number 0) (λ e. rw e (fits (eqb-true number 0 e))) (λ e. rw e (omega arith))

pub answered-fits : (image : List ℕ) (w : World) (s : ℕ) (out₀ : List ℕ) (answer : Answer) (out : List ℕ) → left answer out ≡ written image w s out₀
    → value_of answer * 43 ≤ length out₀
unfolding written
answered-fits image w s out₀ answer out e =
    let same : value_of answer ≡ (written image w s out₀).answer.value = ap (λ (x : Written). x.answer.value) e in
    rw same (value-fits (archive_number image w s (length out₀)) (archive_of image w s) out₀ (number_fits image w s (length out₀)))
