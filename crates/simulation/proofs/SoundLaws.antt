-- A world that agrees with the plain machine is sound; the world that a start leaves agrees with the fresh machine.
use mathlib.Core.Path.{◌≡◌, refl, ap, ◌∙◌}
use mathlib.Core.Bool.{true}
use Prim.Native.Nat.{ℕ, ◌<◌}
use native.Mathlib.Omega.{arith}
use lib.ListN.{length, get_or-replicate}
use Rattle.interface.specs.Numbers.{pages_in}
use Rattle.frames.specs.Frames.{none_held, count_held}
use Rattle.frames.proofs.FrameLaws.{none-count, held-zero}
use Rattle.words.proofs.SumLaws.{sum_same}
use Rattle.runs.specs.Row.{row, no_runs}
use Rattle.kept.proofs.StoreRuns.{none_kept}
use Rattle.table.specs.Store.{Store, front_of, back_of, fresh as freshStore}
use Rattle.table.proofs.StoreLaws.{none-entry}
use Rattle.table.proofs.StartLaws.{fresh-tidy, fresh-none}
use Rattle.areas.proofs.OrderLaws.{none-slots, empty-formed}
use Rattle.state.specs.declared.sandbox.Sandbox.{Sandbox}
use Rattle.state.specs.World.{World, sandbox_at, record_at, shares_of, frames_of, closed_sandbox, started, rows_of}
use Rattle.state.specs.Sound.{SoundAt, Sound}
use Rattle.soundness.specs.Test.{soundb}
use Rattle.soundness.proofs.TestLaws.{sound-of}
use Rattle.plain.specs.Machine.{Given, Kept, Plain, shares, fresh, closed}
use Rattle.plain_claims.specs.Claims.{Keeps, Reads}
use Rattle.plain_claims.proofs.KeptLaws.{holds-fresh}
use Rattle.plain_claims.proofs.ReadLaws.{reads-fresh}
use Rattle.simulation.specs.Lent.{Lent}
use Rattle.simulation.specs.Agrees.{AgreesAt, Agrees}
use Rattle.simulation.proofs.AreaSteps.{copy-same}
use Rattle.simulation.proofs.HeldSteps.{holds_same}
use Rattle.simulation.proofs.ReadSteps.{at, copy_at, no_front, no-back}

-- ---- agreement is soundness

module _ (g : Given) (L : Lent g) (st : Store) (s : ℕ) (b : Sandbox) (k : Kept) (h : Keeps k) (r : Reads g k) (A : AgreesAt g st s b k) where
  sound-at : SoundAt (pages_in (length g.image)) st s b
  sound-at =
      let now = at g L st s b k h r A in
      let copy = copy_at g L st s b k h r A in
      record {
        rec = record {
          present = A.formed;
          snapshot = A.formed_copy;
          marked = λ i. rw (copy i) (r.marked i);
          committed = λ i. rw (now i, copy i) (h.committed_in i);
          backing = λ i. rw (now i, copy i) (r.backing i);
          charged = rw (A.present, copy-same b.rec k.core A.taken A.copy, A.share) h.charged;
          shared = rw (A.opened, A.share) h.open_share;
          untaken = A.untaken;
          closed = λ e. ap (λ (x : Sandbox). x.rec) (A.closed e);
        };
        fronts = λ i l. rw (now i) (λ m. none-entry 256 st (front_of s i) (A.fronts i l ∙ rw (no_front g L st s b k h r A i m)));
        backs = λ i l. rw (copy i) (λ m. none-entry 256 st (back_of s i) (A.backs i l ∙ rw (no-back g L st s b k h r A i m)));
        in_share = rw A.share (omega (arith, holds_same g st s b k A, h.in_share));
        places = A.places;
        closed = λ e. ap (λ (x : Sandbox). x.runs) (A.closed e);
      }

module _ {C : ℕ → Type 0} (g : Given) (w : World) (p : Plain) (A : Agrees C g w p) where
  pub frames-same : frames_of w ≡ g.frames
  frames-same = omega (arith, A.tidy.filed.pages)

  pub shares-same : shares_of w ≡ shares p
  shares-same = sum_same (λ t. (record_at w t).share) (λ t. (p t).core.share) 4 (λ t l. (A.each t l).share)

  pub agrees-sound : Lent g → Sound g.image w
  agrees-sound L =
      record {
        frames = rw frames-same L.frames;
        whole = L.image;
        images = L.images;
        row = A.row;
        filed = rw frames-same A.tidy.filed;
        each = λ s l. sound-at g L w.store s (sandbox_at w s) (p s) (A.holds.each s) (A.reads s) (A.each s l);
        spare = rw frames-same A.spare;
        words = A.words;
        pooled = rw (frames-same, shares-same) A.holds.pooled;
      }

  -- and the machine finds it so
  pub agrees-tested : Lent g → soundb g.image w ≡ true
  agrees-tested L = sound-of g.image w (agrees-sound L)

-- ---- the start

no_run : (i : ℕ) → i < 8 → row no_runs i ≡ none_held
no_run i l = get_or-replicate 8 i none_held none_held l

at-start : (n s i : ℕ) → s < 4 → i < 8 → rows_of (started n) s i ≡ none_held
at-start n s i l d = rw (get_or-replicate 4 s closed_sandbox closed_sandbox l) (no_run i d)

started-at : (g : Given) (s : ℕ) → AgreesAt g (freshStore 256 g.frames) s closed_sandbox closed
started-at g s =
    record {
      opened = refl;
      share = refl;
      formed = empty-formed _;
      present = none-slots;
      formed_copy = empty-formed _;
      taken = refl;
      copy = none-slots;
      untaken = λ _. refl;
      closed = λ _. refl;
      places = refl;
      runs = λ i l. ap count_held (no_run i l) ∙ none-count none_held (λ f d. held-zero f);
      fronts = λ i l. fresh-none 256 g.frames (front_of s i);
      backs = λ i l. fresh-none 256 g.frames (back_of s i);
    }

pub started-agrees : {C : ℕ → Type 0} (g : Given) → Lent g → Agrees C g (started g.frames) fresh
started-agrees g L =
    record {
      tidy = fresh-tidy 256 g.frames L.few;
      row = refl;
      spare = none_kept 256 g.frames (freshStore 256 g.frames) (rows_of (started g.frames)) (λ s i l d. at-start g.frames s i l d);
      words = λ s l. record {
        low = λ i d. rw (at-start g.frames s i l d) (omega arith);
        high = λ i d. rw (at-start g.frames s i l d) (omega arith);
      };
      each = λ s l. rw (get_or-replicate 4 s closed_sandbox closed_sandbox l) (started-at g s);
      holds = holds-fresh g;
      reads = reads-fresh g;
    }
