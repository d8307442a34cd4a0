-- The machine's snapshot is the plain machine's copy; so the claims about rolls of the plain machine hold of the machine that runs.
use Prim.Native.Nat.{ℕ, ◌*◌, ◌≤◌, ◌<◌}
use mathlib.Core.Path.{◌≡◌, refl, sym, ap, ap₂, ◌∙◌}
use mathlib.Core.Bool.{Bool, true, false, false≢true, not, ◌||◌}
use mathlib.Core.List.{List}
use mathlib.Core.Option.{Option, some, none}
use native.Mathlib.Omega.{arith}
use lib.Dec.{eqb, ltb}
use lib.ListN.{length}
use borrow.Author.Tests.{ltb-true, le-ltb}
use Rattle.basics.proofs.TestLaws.{by_cases, or_left}
use Rattle.interface.specs.declared.request.Request.{Request}
use Rattle.interface.specs.Answers.{Answered}
use Rattle.interface.specs.Slots.{is_mapped, copied}
use Rattle.interface.specs.Refusals.{View, is_taken, archive_refusal}
use Rattle.pages.specs.Parts.{listed}
use Rattle.pages.proofs.ListedLaws.{listed_at, listed_same}
use Rattle.areas.specs.Areas.{slots}
use Rattle.state.specs.World.{World, sandbox_at, record_at}
use Rattle.step.specs.Step.{view_at}
use Rattle.soundness.specs.Test.{soundb}
use Rattle.content.specs.Content.{copy_read}
use Rattle.plain.specs.Machine.{Given, Pages, copy_slots, view_of, shares}
use Rattle.plain_claims.specs.Lists.{up_to}
use Rattle.claims.specs.Demands.{RunFrom}
use Rattle.simulation.specs.Lent.{Lent}
use Rattle.simulation.specs.Agrees.{Agrees}
use Rattle.simulation.proofs.ReadSteps.{copy-read, page-read}
use Rattle.simulation.proofs.SoundLaws.{frames-same, shares-same, agrees-tested}
use Rattle.simulation.proofs.Simulate.{view-at}
use Rattle.claims.proofs.Runs.{list-agrees, demand-2}
use Rattle.archive.proofs.RowLaws.{none-applies}
use Rattle.archive.specs.Archive.{archive}
use Rattle.archive.specs.Text.{Sayable, printed_roll}
use Rattle.archive.specs.Written.{Written, written_as, roll_of, plain_written}
use Rattle.archive.specs.Segments.{AllTaken}
use Rattle.archive.specs.Claims.{Alike, Occurs, Rebuilds}
use Rattle.archive.proofs.Replay.{replay, opened, only_if, is-snapshot, alike-sym, alike-trans, archive-alike}
use Rattle.archive.proofs.TextLaws.{archive-sayable, archive-length, longest, lines-of-roll}
use Rattle.replay.specs.Snapshot.{snapshot_of, archive_of, archive_number, written}
use Rattle.replay.specs.Claims.{After, Snapped, WrittenAsPlain, AcceptedOf, LongestOf, Rebuilt, ReplayOf, AgainOf, OnlyIfOf, IfAlikeOf, Text}
use Rattle.replay.specs.Claims.{TextOf, Archived}
use Rattle.replay.proofs.TextLaws.{roll-read, roll-one}

taken-some : (o : Option Pages) → is_taken o ≡ true → (d : Pages) × (o ≡ some d)
taken-some none h = absurd (false≢true h)
taken-some (some d) h = (d, refl)

-- ---- the snapshot of the world after a list is the plain machine's copy

module _ (g : Given) (L : Lent g) (s : ℕ) (w : World) (S : Snapped g s w) where
  abbrev qs : List Request
  qs = S.after.list

  agrees : Agrees (λ f. Unit {0}) g w (up_to g qs)
  agrees = list-agrees g L qs S.after.answers w S.after.run

  has-copy : (d : Pages) × ((up_to g qs s).core.copy ≡ some d)
  has-copy = taken-some (up_to g qs s).core.copy (sym (agrees.each s S.row).taken ∙ S.taken)

  pub copy : Pages
  copy = has-copy.0

  pub is-copy : (up_to g qs s).core.copy ≡ some copy
  unfolding copy
  is-copy = has-copy.1

  pub occurs : Occurs g s (record_at w s).share copy
  occurs = record { list = qs; row = omega (arith, S.row); shared = sym (agrees.each s S.row).share; copy = is-copy }

  pub is_open : (record_at w s).opened ≡ true
  unfolding occurs
  is_open = (agrees.each s S.row).opened ∙ opened g s (record_at w s).share copy occurs

  copy-slots : copied (copy_slots (up_to g qs s).core) ≡ copy.slots
  copy-slots = rw is-copy

  snapshot-bytes : (i : ℕ) → is_mapped (copy.slots i) ≡ true → copy_read g.image w.store (record_at w s) s i ≡ listed 256 (copy.bytes i)
  snapshot-bytes i m =
      let there : is_mapped (copied (copy_slots (up_to g qs s).core) i) ≡ true = rw copy-slots m in
      let inside = (agrees.holds.each s).copy_inside i there in
      copy-read g L w.store s (sandbox_at w s) (up_to g qs s) (agrees.holds.each s) (agrees.reads s) (agrees.each s S.row) i inside there ∙ rw is-copy

  pub snapshot-slots : slots (record_at w s).snapshot ≡ copy.slots
  snapshot-slots = (agrees.each s S.row).copy ∙ copy-slots

  pub snapshot-alike : Alike (snapshot_of g.image w s) copy
  snapshot-alike = record {
    slots = snapshot-slots;
    bytes = λ i j m b. rw (snapshot-bytes i (rw snapshot-slots at m)) (listed_at 256 (copy.bytes i) j b);
  }

  abbrev roll : List Request
  roll = archive s (record_at w s).share copy g.image

  pub same-roll : archive_of g.image w s ≡ roll
  same-roll = archive-alike s (record_at w s).share (snapshot_of g.image w s) copy g.image snapshot-alike

  pub sayable : Sayable (archive_of g.image w s)
  sayable =
      rw same-roll
      (archive-sayable s (record_at w s).share copy g.image (omega (arith, S.row)) (is-snapshot g s (record_at w s).share copy occurs) L.images)

  text : Text (archive_of g.image w s)
  text = record {
    whole = lines-of-roll (archive_of g.image w s) (omega (arith, archive-length s (record_at w s).share (snapshot_of g.image w s) g.image));
    read = λ rest. roll-read (archive_of g.image w s) rest sayable;
    one = roll-one (archive_of g.image w s);
  }

  -- ---- played from the start

  module _ (bs : List Answered) (v : World) (run : RunFrom g (archive_of g.image w s) bs v) where
    rebuilds : Rebuilds g s (record_at w s).share copy roll
    rebuilds = replay g s (record_at w s).share copy occurs

    run-of-roll : RunFrom g roll bs v
    run-of-roll = rw same-roll at run

    again : Agrees (λ f. Unit {0}) g v (up_to g roll)
    again = list-agrees g L roll bs v run-of-roll

    all-taken : AllTaken bs
    all-taken = rw (demand-2 g L roll bs v run-of-roll) rebuilds.taken

    new-copy : slots (record_at v s).snapshot ≡ slots (record_at w s).snapshot
    new-copy = (again.each s S.row).copy ∙ rw rebuilds.copy rebuilds.alike.slots ∙ sym snapshot-slots

    new-present : slots (record_at v s).present ≡ slots (record_at w s).snapshot
    new-present = (again.each s S.row).present ∙ ap (λ (d : Pages). d.slots) rebuilds.present ∙ rebuilds.alike.slots ∙ sym snapshot-slots

    -- a page of what was rebuilt
    new-page : (i : ℕ) → is_mapped (slots (record_at w s).snapshot i) ≡ true
        → listed 256 (rebuilds.pages.bytes i) ≡ copy_read g.image w.store (record_at w s) s i
    new-page i m =
        let there : is_mapped (copy.slots i) ≡ true = rw snapshot-slots at m in
        let mapped : is_mapped (rebuilds.pages.slots i) ≡ true = rw rebuilds.alike.slots there in
        listed_same 256 (rebuilds.pages.bytes i) (copy.bytes i) (λ j b. rebuilds.alike.bytes i j mapped b) ∙ sym (snapshot-bytes i there)

    copy-there : (i : ℕ) → is_mapped (slots (record_at w s).snapshot i) ≡ true → is_mapped (copied (copy_slots (up_to g roll s).core) i) ≡ true
    copy-there i m = rw (← (again.each s S.row).copy, new-copy) m

    page-there : (i : ℕ) → is_mapped (slots (record_at w s).snapshot i) ≡ true → is_mapped ((up_to g roll s).core.pages.slots i) ≡ true
    page-there i m = rw (← (again.each s S.row).present, new-present) m

    pub rebuilt : Rebuilt g.image s w v
    rebuilt = record {
      taken = (again.each s S.row).taken ∙ rw rebuilds.copy;
      share = (again.each s S.row).share ∙ rebuilds.shared;
      copy = new-copy;
      present = new-present;
      copy_bytes = λ i d m.
          copy-read g L v.store s (sandbox_at v s) (up_to g roll s) (again.holds.each s) (again.reads s) (again.each s S.row) i d (copy-there i m)
          ∙ rw rebuilds.copy (new-page i m);
      bytes = λ i d m.
          page-read g L v.store s (sandbox_at v s) (up_to g roll s) (again.holds.each s) (again.reads s) (again.each s S.row) i d (page-there i m)
          ∙ rw rebuilds.present (new-page i m);
    }

    -- the snapshot of the rebuilt sandbox, in the same words
    rebuilt-alike : Alike (snapshot_of g.image v s) (snapshot_of g.image w s)
    rebuilt-alike = record {
      slots = new-copy;
      bytes = λ i j m b.
          let there : is_mapped (slots (record_at w s).snapshot i) ≡ true = rw new-copy at m in
          let inside : i < 64 = (again.holds.each s).copy_inside i (copy-there i there) in
          rw (rebuilt.copy_bytes i inside there);
    }

    pub same-again : archive_of g.image v s ≡ archive_of g.image w s
    same-again =
        ap (λ share. archive s share (snapshot_of g.image v s) g.image) rebuilt.share
        ∙ archive-alike s (record_at w s).share (snapshot_of g.image v s) (snapshot_of g.image w s) g.image rebuilt-alike

-- ---- what is written is the plain machine's

-- what is written where a row applies does not hang on the roll
refused-alike : (n : ℕ) (roll roll' : List Request) (out : List ℕ) → eqb n 0 ≡ false → written_as n roll out ≡ written_as n roll' out
unfolding written_as
refused-alike n roll roll' out e = rw e

module _ (v : View) (s bytes room : ℕ) (sound : v.sound ≡ true) where
  closed-4 : (not (ltb s 4) || not v.opened) ≡ true → archive_refusal v s bytes room ≡ 4
  unfolding archive_refusal
  closed-4 e = rw (sound, e)

  bare-8 : (not (ltb s 4) || not v.opened) ≡ false → is_taken v.copy ≡ false → archive_refusal v s bytes room ≡ 8
  unfolding archive_refusal
  bare-8 e t = rw (sound, e, t)

module _ (g : Given) (L : Lent g) (qs : List Request) (as' : List Answered) (w : World) (r : RunFrom g qs as' w) (s : ℕ) (out : List ℕ) where
  agree : Agrees (λ f. Unit {0}) g w (up_to g qs)
  agree = list-agrees g L qs as' w r

  abbrev mine : View
  mine = view_at g.image w s

  abbrev theirs : View
  theirs = view_of g (shares (up_to g qs)) (up_to g qs s).core

  sound : mine.sound ≡ true
  sound = agrees-tested g w (up_to g qs) agree L

  -- refused by both with one number
  both-refused : (n : ℕ) → eqb n 0 ≡ false → archive_refusal mine s (length (archive_of g.image w s) * 43) (length out) ≡ n
      → archive_refusal theirs s (length (roll_of g (up_to g qs) s) * 43) (length out) ≡ n → written g.image w s out ≡ plain_written g (up_to g qs) s out
  unfolding written archive_number plain_written
  both-refused n e a b = rw (a, b) (refused-alike n (archive_of g.image w s) (roll_of g (up_to g qs) s) out e)

  above : ltb s 4 ≡ false → written g.image w s out ≡ plain_written g (up_to g qs) s out
  above e = both-refused 4 refl (closed-4 mine s _ (length out) sound (rw e)) (closed-4 theirs s _ (length out) refl (rw e))

  module _ (l : s < 4) where
    view : mine ≡ theirs
    view = view-at g w (shares (up_to g qs)) s (up_to g qs s) sound (frames-same g w (up_to g qs) agree) (shares-same g w (up_to g qs) agree) (agree.each s l)

    with-copy : (record_at w s).taken ≡ true → written g.image w s out ≡ plain_written g (up_to g qs) s out
    unfolding written archive_number plain_written
    with-copy t =
        let S : Snapped g s w = record { after = record { list = qs; answers = as'; run = r }; row = l; taken = t } in
        let same : archive_of g.image w s ≡ roll_of g (up_to g qs) s = same-roll g L s w S ∙ rw ((agree.each s l).share, is-copy g L s w S) in
        ap₂ (λ (x : View) (y : List Request). written_as (archive_refusal x s (length y * 43) (length out)) y out) view same

    without : (record_at w s).taken ≡ false → written g.image w s out ≡ plain_written g (up_to g qs) s out
    without t =
        let opened : View → Bool = λ x. not (ltb s 4) || not x.opened in
        by_cases (opened mine)
        (λ e. both-refused 4 refl (closed-4 mine s _ (length out) sound e) (closed-4 theirs s _ (length out) refl (ap opened (sym view) ∙ e)))
        (λ e. both-refused 8 refl (bare-8 mine s _ (length out) sound e (rw t))
        (bare-8 theirs s _ (length out) refl (ap opened (sym view) ∙ e) (ap (λ (x : View). is_taken x.copy) (sym view) ∙ rw t)))

pub written-as-plain : (g : Given) → Lent g → WrittenAsPlain g
written-as-plain g L qs as' w r s out =
    by_cases (ltb s 4)
    (λ e. let l : s < 4 = ltb-true s 4 e in
    by_cases (record_at w s).taken (with-copy g L qs as' w r s out l) (without g L qs as' w r s out l))
    (above g L qs as' w r s out)

-- ---- with room

pub accepted-of : (g : Given) → Lent g → AcceptedOf g
unfolding written archive_number
accepted-of g L s w S out fits =
    let roll : List Request = archive_of g.image w s in
    let A = agrees g L s w S in
    let sound = agrees-tested g w (up_to g S.after.list) A L in
    rw (none-applies (view_at g.image w s) s (length roll * 43) (length out)
    (record { sound = sound; row = S.row; opened = is_open g L s w S; snapshot = rw S.taken; fits = fits }))

pub longest-of : (g : Given) → Lent g → LongestOf g
longest-of g L s w S = rw (same-roll g L s w S) (longest g s (record_at w s).share (copy g L s w S) (occurs g L s w S))

-- ---- the claims

pub replay-of : (g : Given) → Lent g → ReplayOf g
replay-of g L s w S bs v run = (all-taken g L s w S bs v run, rebuilt g L s w S bs v run)

pub again-of : (g : Given) → Lent g → AgainOf g
again-of g L s w S bs v run = let same = same-again g L s w S bs v run in (same, ap printed_roll same)

pub text_of : (g : Given) → Lent g → TextOf g
text_of g L s w S = text g L s w S

pub if-alike-of : (image : List ℕ) → IfAlikeOf image
if-alike-of image s w₁ w₂ e h =
    ap (λ share. archive s share (snapshot_of image w₁ s) image) e
    ∙ archive-alike s (record_at w₂ s).share (snapshot_of image w₁ s) (snapshot_of image w₂ s) image h

pub only-if-of : (image : List ℕ) (frames₁ frames₂ : ℕ) → Lent (record { image = image; frames = frames₁ }) → Lent (record { image = image; frames = frames₂ })
    → OnlyIfOf image frames₁ frames₂
only-if-of image frames₁ frames₂ L₁ L₂ s₁ s₂ w₁ w₂ S₁ S₂ e =
    let g₁ : Given = record { image = image; frames = frames₁ } in
    let g₂ : Given = record { image = image; frames = frames₂ } in
    let d₁ = copy g₁ L₁ s₁ w₁ S₁ in
    let d₂ = copy g₂ L₂ s₂ w₂ S₂ in
    let rolls : archive s₁ (record_at w₁ s₁).share d₁ image ≡ archive s₂ (record_at w₂ s₂).share d₂ image
    = sym (same-roll g₁ L₁ s₁ w₁ S₁) ∙ e ∙ same-roll g₂ L₂ s₂ w₂ S₂ in
    let same = only_if image frames₁ frames₂ s₁ s₂ (record_at w₁ s₁).share (record_at w₂ s₂).share d₁ d₂
    (occurs g₁ L₁ s₁ w₁ S₁) (occurs g₂ L₂ s₂ w₂ S₂) rolls in
    alike-trans (snapshot_of image w₁ s₁) d₁ (snapshot_of image w₂ s₂) (snapshot-alike g₁ L₁ s₁ w₁ S₁)
    (alike-trans d₁ d₂ (snapshot_of image w₂ s₂) same (alike-sym (snapshot_of image w₂ s₂) d₂ (snapshot-alike g₂ L₂ s₂ w₂ S₂)))

pub archived : (g : Given) → Lent g → Archived g
archived g L = record {
  plain = written-as-plain g L;
  accepted = accepted-of g L;
  longest = longest-of g L;
  replay = replay-of g L;
  again = again-of g L;
  text = text_of g L;
}
