-- THE THEOREMS of specs/HostArchive.
use Prim.Native.Nat.{ℕ, ◌*◌, ◌≤◌, ◌<◌}
use mathlib.Core.Path.{◌≡◌, sym, ap, ◌∙◌}
use mathlib.Core.Bool.{Bool, true, false, false≢true, not, ◌||◌}
use mathlib.Core.List.{List}
use native.Mathlib.Omega.{arith}
use lib.Dec.{ltb}
use lib.ListN.{length, drop}
use borrow.Author.Tests.{ltb-false}
use Rattle.basics.proofs.TestLaws.{by_cases, or_left}
use Rattle.interface.specs.declared.request.Request.{Request}
use Rattle.interface.specs.Answers.{Answered}
use Rattle.interface.specs.Refusals.{View, is_taken, archive_refusal}
use Rattle.records.specs.Record.{copy_of}
use Rattle.state.specs.World.{World, record_at}
use Rattle.step.specs.Step.{view_at}
use Rattle.soundness.specs.Test.{soundb}
use Rattle.layout.specs.Layout.{is_state}
use Rattle.layout.specs.Claims.{machine_of}
use Rattle.layout.proofs.Claims.{passes}
use Rattle.plain.specs.Machine.{Given}
use Rattle.claims.specs.Demands.{RunFrom}
use Rattle.roll.specs.Play.{lines_in, requests}
use Rattle.archive.proofs.RowLaws.{Allowed, allowed}
use Rattle.archive.specs.Segments.{AllTaken}
use Rattle.archive.specs.Written.{Written, written_as}
use Rattle.replay.specs.Snapshot.{archive_of, archive_number, written}
use Rattle.replay.specs.Claims.{Snapped, Rebuilt, Archived}
use Rattle.replay.proofs.Claims.{archived}
use Rattle.host_calls.specs.Calls.{Handed, world_in, start_number, start_hands, Calls}
use Rattle.host_calls.specs.HostClaims.{given_by}
use Rattle.host_calls.proofs.HostClaims.{lent, host-claims}
use Rattle.filing.specs.Filed.{filed}
use Rattle.filing.specs.HostArchive.{Replays, HostArchive, HostFiles}

-- ---- what is not refused

taken_of : (w : World) (s : ℕ) → is_taken (copy_of (record_at w s)) ≡ true → (record_at w s).taken ≡ true
taken_of w s h = by_cases (record_at w s).taken (λ e. e) (λ e. absurd (false≢true (rw e at h)))

was-allowed : (image : List ℕ) (w : World) (s : ℕ) (out : List ℕ) → (written image w s out).answer.number ≡ 0
    → Allowed (view_at image w s) s (length (archive_of image w s) * 43) (length out)
unfolding written written_as archive_number
was-allowed image w s out h = allowed (view_at image w s) s (length (archive_of image w s) * 43) (length out) h

-- ---- of a start that answered 0

module _ (image : List ℕ) (h : Handed) (ok : start_number image h ≡ 0) where
  abbrev g : Given
  g = given_by image h

  claims : Archived g
  claims = archived g (lent image h ok)

  -- the host's calls, and what it then has in its hands
  module _ (qs : List Request) (as' : List Answered) (l : Handed) (calls : Calls image (start_hands image h) qs as' l) where
    run : RunFrom g qs as' (world_in l)
    run = ((host-claims image h ok).runs qs as' l calls).0

    a-state : is_state l.state ≡ true
    a-state = ap (λ (k : Handed). is_state k.state) ((host-claims image h ok).runs qs as' l calls).1 ∙ passes (machine_of (world_in l))

    module _ (s : ℕ) (out : List ℕ) where
      files : filed image l s out ≡ written image (world_in l) s out
      unfolding filed
      files = rw a-state

      module _ (row : s < 4) (taken : (record_at (world_in l) s).taken ≡ true) where
        snapped : Snapped g s (world_in l)
        snapped = record { after = record { list = qs; answers = as'; run = run }; row = row; taken = taken }

        -- what stands in the output where the roll fits
        fitting : length (archive_of image (world_in l) s) * 43 ≤ length out → filed image l s out ≡ written_as 0 (archive_of image (world_in l) s) out
        fitting room = files ∙ claims.accepted s (world_in l) snapped out room

        not-refused : 705286 ≤ length out → (filed image l s out).answer.number ≡ 0
        unfolding written_as
        not-refused room = ap (λ (w : Written). w.answer.number) (fitting (omega (arith, claims.longest s (world_in l) snapped)))

  module _ (qs : List Request) (as' : List Answered) (l : Handed) (calls : Calls image (start_hands image h) qs as' l) (s : ℕ) (out : List ℕ)
      (zero : (filed image l s out).answer.number ≡ 0) where
    a : Allowed (view_at image (world_in l) s) s (length (archive_of image (world_in l) s) * 43) (length out)
    a = was-allowed image (world_in l) s out (ap (λ (w : Written). w.answer.number) (sym (files qs as' l calls s out)) ∙ zero)

    here : Snapped g s (world_in l)
    here = snapped qs as' l calls s out a.row (taken_of (world_in l) s a.snapshot)

    filed-is : filed image l s out ≡ written_as 0 (archive_of image (world_in l) s) out
    filed-is = fitting qs as' l calls s out a.row (taken_of (world_in l) s a.snapshot) a.fits

    read : let w = filed image l s out in requests (lines_in w.out w.answer.value) ≡ archive_of image (world_in l) s
    unfolding written_as
    read =
        ap (λ (w : Written). requests (lines_in w.out w.answer.value)) filed-is
        ∙ (claims.text s (world_in l) here).read (drop (length (archive_of image (world_in l) s) * 43) out)

    module _ (bs : List Answered) (k : Handed) (played : Calls image (start_hands image h) (archive_of image (world_in l) s) bs k) where
      rebuilt : AllTaken bs × Rebuilt image s (world_in l) (world_in k)
      rebuilt = claims.replay s (world_in l) here bs (world_in k) (run (archive_of image (world_in l) s) bs k played)

      again : filed image k s out ≡ filed image l s out
      again =
          let same = (claims.again s (world_in l) here bs (world_in k) (run (archive_of image (world_in l) s) bs k played)).0 in
          fitting (archive_of image (world_in l) s) bs k played s out a.row rebuilt.1.taken (rw same a.fits)
          ∙ ap (λ (roll : List Request). written_as 0 roll out) same ∙ sym filed-is

    pub replays : Replays image h l s out
    replays = record { read = read; rebuilt = rebuilt; again = again }

  pub host-archive : HostArchive image h
  host-archive = record {
    plain = λ qs as' l calls s out. files qs as' l calls s out ∙ claims.plain qs as' (world_in l) (run qs as' l calls) s out;
    accepted = λ qs as' l calls s out row taken room. not-refused qs as' l calls s out row taken (omega (arith, room));
    replays = λ qs as' l calls s out zero. replays qs as' l calls s out zero;
  }

pub host-files : HostFiles
host-files image h ok = host-archive image h ok
