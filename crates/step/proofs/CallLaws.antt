-- A call, by each of its ways out; and what a sound state gives to the parts of an accepted call.
use Prim.Native.Nat.{ℕ, ◌≤◌, ◌<◌}
use mathlib.Core.Path.{◌≡◌, refl, sym, ap, ◌∙◌}
use mathlib.Core.Logic.{⊎_elim, inl, inr}
use mathlib.Core.Bool.{true, false, false≢true}
use mathlib.Core.List.{List}
use lib.Dec.{eqb}
use lib.ListN.{length, set}
use borrow.Author.Tests.{eq-eqb, le-ltb}
use Rattle.basics.proofs.TestLaws.{and_left, and_right, and-of}
use Rattle.interface.specs.declared.answer.Refusal.{Refusal}
use Rattle.interface.specs.declared.answer.Refusal.TheVariants.{NoSuchCall, Unsound, NotOpen}
use Rattle.interface.specs.declared.request.Request.{Request}
use Rattle.interface.specs.Answers.{refusal_number}
use Rattle.interface.specs.Requests.{write_code, is_call, page_of}
use Rattle.interface.specs.Slots.{is_mapped}
use Rattle.interface.specs.Refusals.{all_mapped, applies, refusal}
use Rattle.interface.proofs.TableLaws.{some_number, lowest-applies}
use Rattle.interface.proofs.AcceptedLaws.{accepted, map-fits}
use Rattle.interface.specs.Numbers.{pages_in}
use Rattle.table.specs.Store.{Store}
use Rattle.runs.specs.declared.Runs.{Runs}
use Rattle.areas.specs.Areas.{slots}
use Rattle.state.specs.declared.sandbox.Sandbox.{Sandbox}
use Rattle.records.specs.Record.{view_from}
use Rattle.state.specs.World.{World, sandbox_at, record_at, shares_of, frames_of}
use Rattle.soundness.specs.Test.{soundb}
use Rattle.soundness.proofs.TestLaws.{Tested}
use Rattle.soundness.proofs.Room.{room-left, frame-there}
use Rattle.rules.specs.After.{record_after}
use Rattle.rules.specs.Ready.{Ready}
use Rattle.rules.proofs.FitLaws.{fit, page-small}
use Rattle.memory.specs.Memory.{value_at}
use Rattle.memory.specs.Parts.{Asked, StoreStepped}
use Rattle.memory.proofs.MemoryLaws.{with-frames}
use Rattle.step.specs.Step.{view_at, Outcome, Stepped, number_at, takes, gives, step}
use Rattle.step.specs.Performed.{Performed}

module _ (image : List ℕ) (w : World) (q : Request) where
  -- a refused call
  pub stepped-refused : (why : Refusal) → refusal_number why ≡ number_at image w q
      → Stepped image w q (record { answer = record { number = refusal_number why; value = 0 }; world = w })
  unfolding step takes gives
  stepped-refused why e =
      let no : eqb (number_at image w q) 0 ≡ false = rw (← e) (some_number why) in
      record {
        frame = 0;
        given = 0;
        chosen = record {
          gave = λ t. absurd (false≢true (sym no ∙ and_left (eqb (number_at image w q) 0) _ t));
          free = λ t. absurd (false≢true (sym no ∙ and_left (eqb (number_at image w q) 0) _ t));
        };
        equals = rw (no, e);
      }

  -- rows 2 and 3, the first that apply
  pub number-two : is_call q ≡ false → refusal_number NoSuchCall ≡ number_at image w q
  unfolding number_at refusal applies
  number-two e = sym (lowest-applies (applies (view_at image w q.sandbox) q) NoSuchCall (refl, tt) (rw e))

  pub number-three : is_call q ≡ true → soundb image w ≡ false → refusal_number Unsound ≡ number_at image w q
  unfolding number_at refusal applies
  number-three e s = sym (lowest-applies (applies (view_at image w q.sandbox) q) Unsound (rw e, (refl, tt)) (rw s))

  -- row 4, of a sandbox past the four
  pub number-four : is_call q ≡ true → soundb image w ≡ true → 4 ≤ q.sandbox → refusal_number NotOpen ≡ number_at image w q
  unfolding number_at refusal applies
  number-four e s past = sym (lowest-applies (applies (view_at image w q.sandbox) q) NotOpen (rw s, (rw e, (refl, tt))) (rw (le-ltb q.sandbox 4 past)))

  -- the view of a sound state
  pub number-rest : soundb image w ≡ true
      → refusal (view_from true (frames_of w) (pages_in (length image)) (shares_of w) (record_at w q.sandbox)) q ≡ number_at image w q
  unfolding number_at
  number-rest s = rw s

  -- an accepted call
  pub stepped : (o : Outcome) → number_at image w q ≡ 0 → Performed image w q o → Stepped image w q o
  unfolding step takes gives
  stepped o n p =
      let accepted : eqb (number_at image w q) 0 ≡ true = eq-eqb (number_at image w q) 0 n in
      record {
        frame = p.frame;
        given = p.given;
        chosen = record {
          gave = λ t. p.gave (and_right (eqb (number_at image w q) 0) _ t);
          free = λ t. ⊎_elim (λ u. inl u) (λ g. inr (and-of accepted g.0, g.1)) (p.takes (and_right (eqb (number_at image w q) 0) _ t));
        };
        equals = p.so ∙ rw n;
      }

  pub performed : (value : ℕ) (sandboxes : List Sandbox) (st : Store) (runs : Runs) → StoreStepped image q w st runs
      → value ≡ value_at image q (sandbox_at w q.sandbox) w.store
      → sandboxes ≡ set w.sandboxes q.sandbox (record { rec = record_after q (record_at w q.sandbox); runs = runs })
      → Performed image w q (record { answer = record { number = 0; value = value }; world = record { sandboxes = sandboxes; store = st } })
  performed value sandboxes st runs t v e = with-frames q w _ _ (λ f g after. rw (v, e, after.0, after.1)) t

  module _ (S : Tested image w) (row : q.sandbox < 4) where
    -- the sandbox of a sound state
    pub ready : Ready (pages_in (length image)) (record_at w q.sandbox)
    ready = record { few = S.images; sound = (S.each q.sandbox row).rec }

  module _ (S : Tested image w) where
    -- what an accepted call's parts ask
    pub asked : number_at image w q ≡ 0 → Asked image q w
    unfolding all_mapped number_at
    asked n =
        let a = accepted (view_at image w q.sandbox) q n in
        let row = a.in_row in
        let within-limits = fit (pages_in (length image)) q S.images a.in_limits in
        let small : q.code ≡ write_code → page_of q < 64 = λ e. page-small q.p1 (within-limits.written e).0 in
        let there : q.code ≡ write_code → is_mapped (slots (record_at w q.sandbox).present (page_of q)) ≡ true = λ e. rw e at a.mapped in
        record {
          row = row;
          fit = within-limits;
          ready = ready S row;
          filed = S.filed;
          spare = S.spare;
          found = S.found;
          mapped = λ e. map-fits (view_at image w q.sandbox) q a e;
          fits = λ e z. room-left image w S q.sandbox (page_of q) row (small e) (there e) z;
          room = λ e z h.
              let f = frame-there image w S q.sandbox (page_of q) row (small e) (there e) z h in
              (f.0, record { of_pool = f.1.0; unnamed = f.1.1.0; unkept = f.1.1.1 });
        }
