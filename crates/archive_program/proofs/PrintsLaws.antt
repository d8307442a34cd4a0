-- What is handed on is the plain machine's archive roll; over a wrong length it is refused.
use mathlib.Core.Path.{◌≡◌, refl, ap, ◌∙◌}
use mathlib.Core.Bool.{true, false}
use mathlib.Core.List.{List, []}
use mathlib.Core.Option.{some}
use Prim.Native.Nat.{ℕ, ◌*◌, ◌≤◌, ◌<◌}
use native.Mathlib.Omega.{arith}
use lib.ListN.{length, take}
use lib.Seq.{take_at}
use borrow.Author.Tests.{le-ltb}
use Rattle.interface.specs.Answers.{Answer}
use Rattle.interface.specs.declared.request.Request.{Request}
use Rattle.interface.specs.Refusals.{View, is_taken, archive_refusal}
use Rattle.lines.specs.Lines.{lines_of}
use Rattle.state.specs.World.{World, lengths_ok}
use Rattle.soundness.specs.Test.{soundb}
use Rattle.plain.specs.Machine.{Given, Pages, view_of, shares}
use Rattle.plain_claims.specs.Lists.{up_to}
use Rattle.claims.proofs.Claims.{claim-start}
use Rattle.roll.specs.Replies.{lent}
use Rattle.roll.specs.Play.{lines_in, requests}
use Rattle.roll.proofs.RepliesLaws.{run_of, replies-are-refusals}
use Rattle.archive.proofs.RowLaws.{none-applies}
use Rattle.archive.specs.Archive.{archive}
use Rattle.archive.specs.Text.{printed_roll}
use Rattle.archive.specs.Written.{Written, written_as, roll_of, plain_written}
use Rattle.archive.specs.Claims.{Occurs}
use Rattle.archive.proofs.Replay.{opened}
use Rattle.archive.proofs.TextLaws.{length-roll, longest}
use Rattle.replay.specs.Snapshot.{archive_number, written}
use Rattle.replay.proofs.Claims.{written-as-plain}
use Rattle.whole_roll.specs.Whole.{left}
use Rattle.image_file.proofs.ImageLaws.{unreadable-is-wrong}
use Rattle.archive_program.specs.Performed.{handed_on}
use Rattle.archive_program.specs.Prints.{AnswersPlain, PrintsArchive, RefusesWrongLength, RefusesUnreadable}

-- ---- right lengths

pub answers-plain : AnswersPlain
answers-plain image pool₀ table₀ s out₀ answer out ok p =
    let r = p.input in
    let run = run_of image r.roll pool₀ table₀ [] r.replies p.world ok r.played in
    let plain = written-as-plain (lent image pool₀) (claim-start pool₀ table₀ image ok).0 in
    p.archived ∙ plain _ _ p.world run s out₀

-- the text of an archive roll that was written is what is handed on
text-handed : (roll : List Request) (out₀ : List ℕ) (answer : Answer) (out : List ℕ) → left answer out ≡ written_as 0 roll out₀
    → handed_on answer out ≡ printed_roll roll
unfolding written_as
text-handed roll out₀ answer out e =
    ap (λ (x : Written). take (x.answer.value * 43) x.out) e ∙ take_at (printed_roll roll) _ (length roll * 43) (length-roll roll)

plain-accepts : (g : Given) (qs : List Request) (s : ℕ) (d : Pages) (out : List ℕ) → s < 4 → (up_to g qs s).core.copy ≡ some d → 705286 ≤ length out
    → plain_written g (up_to g qs) s out ≡ written_as 0 (archive s (up_to g qs s).core.share d g.image) out
unfolding plain_written
plain-accepts g qs s d out row copy room =
    let p = up_to g qs in
    let v : View = view_of g (shares p) (p s).core in
    let share = (p s).core.share in
    let roll : List Request = archive s share d g.image in
    let o : Occurs g s share d = record { list = qs; row = row; shared = refl; copy = copy } in
    let few = longest g s share d o in
    let free = none-applies v s (length roll * 43) (length out)
    (record { sound = refl; row = row; opened = opened g s share d o; snapshot = rw copy refl; fits = omega (arith, few, room) }) in
    let same : roll_of g p s ≡ roll = rw copy refl in
    ap (λ l. written_as (archive_refusal v s (length l * 43) (length out)) l out) same ∙ ap (λ n. written_as n roll out) free

pub prints-archive : PrintsArchive
prints-archive image pool₀ table₀ s out₀ answer out ok p room row d copy =
    text-handed _ out₀ answer out (answers-plain image pool₀ table₀ s out₀ answer out ok p
    ∙ plain-accepts (lent image pool₀) (requests (lines_in p.input.roll (lines_of (length p.input.roll)))) s d out₀ row copy room)

-- ---- a wrong length

unsound-3 : (image : List ℕ) (w : World) (s : ℕ) (out : List ℕ)
    → lengths_ok (length w.store.pool) (length w.store.table) (length image) ≡ false
    → written image w s out ≡ record { answer = record { number = 3; value = 0 }; out = out }
unfolding written written_as archive_number archive_refusal soundb
unsound-3 image w s out wrong = rw wrong

pub refuses-wrong-length : RefusesWrongLength
refuses-wrong-length image pool₀ table₀ s out₀ answer out wrong p =
    let r = p.input in
    let same = replies-are-refusals image r.roll pool₀ table₀ [] r.replies p.world wrong r.played in
    let e = p.archived ∙ unsound-3 image p.world s out₀ (rw (same.0, same.1.0) wrong) in
    record {
      told = ap (λ (x : Written). x.answer) e;
      kept = ap (λ (x : Written). x.out) e;
      silent = ap (λ (x : Written). take (x.answer.value * 43) x.out) e;
    }

pub refuses-unreadable : RefusesUnreadable
refuses-unreadable image pool₀ table₀ s out₀ answer out e p =
    refuses-wrong-length image pool₀ table₀ s out₀ answer out (rw e (unreadable-is-wrong (length pool₀) (length table₀))) p
