-- A step of the machine and one of the plain machine give the same answer and keep the agreement.
use mathlib.Core.Path.{◌≡◌, refl, sym, ap, ◌∙◌, fun_ext}
use mathlib.Core.Logic.{◌⊎◌, inl, inr, ⊎_elim}
use mathlib.Core.Bool.{true, false, not, false≢true}
use Prim.Native.Nat.{ℕ, ◌+◌, ◌*◌, ◌<◌}
use native.Mathlib.Omega.{arith}
use lib.Dec.{ltb, eqb}
use lib.ListN.{length-set}
use lib.Seq.{get_or-set_same, get_or-set_other}
use borrow.Author.Tests.{eq-eqb, eqb-true, eqb-false, ltb-true}
use Rattle.basics.specs.Rows.{in_place}
use Rattle.basics.specs.Choice.{◌when◌else◌}
use Rattle.basics.proofs.TestLaws.{by_cases}
use Rattle.interface.specs.declared.request.Request.{Request}
use Rattle.interface.specs.Requests.{◌is◌, write_code, is_call, page_of}
use Rattle.interface.specs.Outcome.{share_after}
use Rattle.interface.specs.Refusals.{View, applies, refusal}
use Rattle.interface.specs.Accepted.{Accepted}
use Rattle.interface.proofs.KindLaws.{kind}
use Rattle.interface.proofs.AcceptedLaws.{accepted}
use Rattle.frames.specs.Frames.{held}
use Rattle.table.specs.Store.{Store, entry, front_of, back_of, contents}
use Rattle.state.specs.declared.sandbox.Sandbox.{Sandbox}
use Rattle.runs.specs.declared.Runs.{Runs}
use Rattle.runs.specs.Row.{row}
use Rattle.kept.specs.Spare.{kept_at, Spare}
use Rattle.soundness.specs.Test.{soundb}
use Rattle.state.specs.World.{World, sandbox_at, record_at, closed_sandbox, frames_of, shares_of, rows_of}
use Rattle.memory.specs.Memory.{gives_at, longest_of, runs_after, store_after, value_at}
use Rattle.step.specs.Step.{view_at, sandbox_then, world_after, number_at, step, Outcome, Stepped}
use Rattle.plain.specs.Machine.{Given, Kept, Plain, shares, view_of, kept_after, answer, after}
use Rattle.plain.specs.Machine.{number_at as plainNumber, value_at as plainValue}
use Rattle.plain_claims.proofs.KeptLaws.{holds_after}
use Rattle.plain_claims.proofs.ReadLaws.{reads-after}
use Rattle.plain_claims.proofs.OneSandbox.{after-others}
use Rattle.plain_claims.proofs.Corollaries.{refused-changes-nothing}
use Rattle.simulation.specs.Lent.{Lent}
use Rattle.simulation.specs.Agrees.{AgreesAt, Agrees}
use Rattle.simulation.proofs.StepLaws.{gave-up, frame-free}
use Rattle.simulation.proofs.AreaSteps.{copy-same, slots-after, formed-after, copy-after, formed-copy-after, taken-after, untaken-after}
use Rattle.simulation.proofs.MapSteps.{Stored}
use Rattle.simulation.proofs.ValueSteps.{value_same}
use Rattle.simulation.proofs.StoreSteps.{stored-after}
use Rattle.simulation.proofs.RunSteps.{Runned, runned}
use Rattle.simulation.proofs.SoundLaws.{frames-same, shares-same, agrees-tested}

-- ---- the number

-- past the four sandboxes the number needs no more of the view
past-four : (v : View) (q : Request) → v.sound ≡ true → ltb q.sandbox 4 ≡ false → refusal v q ≡ 2 when not (is_call q) else 4
unfolding applies refusal
past-four v q s r = rw (s, r)

-- a sandbox that agrees gives the view that the plain machine has
pub view-at : (g : Given) (w : World) (total s : ℕ) (k : Kept) → soundb g.image w ≡ true → frames_of w ≡ g.frames → shares_of w ≡ total
    → AgreesAt g w.store s (sandbox_at w s) k → view_at g.image w s ≡ view_of g total k.core
view-at g w total s k sound frames total-is A =
    λ i. record {
      sound = sound i;
      frames = frames i;
      images = (view_of g total k.core).images;
      shares = total-is i;
      opened = A.opened i;
      share = A.share i;
      slots = A.present i;
      copy = copy-same (record_at w s) k.core A.taken A.copy i;
    }

module _ {C : ℕ → Type 0} (g : Given) (L : Lent g) (w : World) (p : Plain) (A : Agrees C g w p) where
  view-same : (s : ℕ) → s < 4 → view_at g.image w s ≡ view_of g (shares p) (p s).core
  view-same s l = view-at g w (shares p) s (p s) (agrees-tested g w p A L) (frames-same g w p A) (shares-same g w p A) (A.each s l)

  pub number_same : (q : Request) → number_at g.image w q ≡ plainNumber g p q
  unfolding number_at
  number_same q =
      by_cases (ltb q.sandbox 4)
      (λ r. ap (λ (v : View). refusal v q) (view-same q.sandbox (ltb-true q.sandbox 4 r)))
      (λ r. past-four (view_at g.image w q.sandbox) q (agrees-tested g w p A L) r
      ∙ sym (past-four (view_of g (shares p) (p q.sandbox).core) q refl r))

-- ---- an accepted request

module _ {C : ℕ → Type 0} (g : Given) (L : Lent g) (w : World) (p : Plain) (A : Agrees C g w p) (q : Request) (n : plainNumber g p q ≡ 0) where
  met : Accepted (view_of g (shares p) (p q.sandbox).core) q
  met = accepted _ q n

  low : q.sandbox < 4
  low = omega (arith, met.in_row)

  mine : AgreesAt g w.store q.sandbox (sandbox_at w q.sandbox) (p q.sandbox)
  mine = A.each q.sandbox low

  values : value_at g.image q (sandbox_at w q.sandbox) w.store ≡ plainValue g q (p q.sandbox)
  values = value_same g L w p A q met low mine

  -- a sandbox that the request does not name
  agrees-other : (r : Store) (t : ℕ) (b : Sandbox) (k : Kept) → ((x : ℕ) → x < 128 → contents 256 r (t * 128 + x) ≡ contents 256 w.store (t * 128 + x))
      → AgreesAt g w.store t b k → AgreesAt g r t b k
  agrees-other r t b k e a =
      record {
        opened = a.opened;
        share = a.share;
        formed = a.formed;
        present = a.present;
        formed_copy = a.formed_copy;
        taken = a.taken;
        copy = a.copy;
        untaken = a.untaken;
        closed = a.closed;
        places = a.places;
        runs = a.runs;
        fronts = λ i l. e i (omega arith) ∙ a.fronts i l;
        backs = λ i l. let z : back_of t i ≡ t * 128 + (i + 64) = omega arith in rw z (e (i + 64) (omega arith)) ∙ a.backs i l;
      }

  module _ (f given : ℕ)
      (gave : gives_at q (sandbox_at w q.sandbox) w.store ≡ true
      → (given < 128) × (held (rows_of w q.sandbox (longest_of (sandbox_at w q.sandbox))) given ≡ 1))
      (free : (q is write_code) ≡ true → eqb (entry w.store (front_of q.sandbox (page_of q))) 0 ≡ true
      → (f < g.frames)
      × ((held w.store.marks f ≡ 0) × ((kept_at (rows_of w) f ≡ 0) ⊎ ((gives_at q (sandbox_at w q.sandbox) w.store ≡ true) × (f ≡ given))))) where
    store-after : Stored C g w.store (store_after g.image f q (sandbox_at w q.sandbox) w.store) q.sandbox (kept_after g q (p q.sandbox))
    store-after =
        stored-after g L q w.store A.tidy (sandbox_at w q.sandbox) (p q.sandbox) met.in_row
        (A.holds.each q.sandbox) (A.reads q.sandbox) mine (shares p) met f (kind q) (rows_of w) A.spare refl
        (λ e z. let x = free e z in (x.0, x.1.0))

    abbrev runs_then : Runs
    runs_then = runs_after given q (sandbox_at w q.sandbox) w.store

    runs-after : Runned g.frames (store_after g.image f q (sandbox_at w q.sandbox) w.store) (rows_of w) q.sandbox runs_then
        (kept_after g q (p q.sandbox)).traces.runs
    runs-after =
        runned g L q w.store A.tidy (sandbox_at w q.sandbox) (p q.sandbox) met.in_row (A.holds.each q.sandbox) (A.reads q.sandbox) mine
        (rows_of w) A.spare refl (A.words q.sandbox low) (shares p) met f given gave free (kind q)

    agrees-own : AgreesAt g (store_after g.image f q (sandbox_at w q.sandbox) w.store) q.sandbox (sandbox_then given w q)
        (kept_after g q (p q.sandbox))
    agrees-own =
        let st : Store = w.store in
        let b : Sandbox = sandbox_at w q.sandbox in
        let k : Kept = p q.sandbox in
        let h = A.holds.each q.sandbox in
        record {
          opened = refl;
          share = ap (share_after q) mine.share;
          formed = formed-after g q st b k (shares p) met h mine (kind q);
          present = slots-after g q st b k (shares p) met h mine (kind q);
          formed_copy = formed-copy-after g q st b k (shares p) met h mine;
          taken = taken-after g q st b k (shares p) met h mine;
          copy = copy-after g q st b k (shares p) met h mine;
          untaken = untaken-after g q st b k (shares p) met h mine;
          closed = λ e. absurd (false≢true (sym e));
          places = runs-after.places;
          runs = runs-after.lengths_are;
          fronts = store-after.fronts;
          backs = store-after.backs;
        }

    here : sandbox_at (world_after g.image f given w q) q.sandbox ≡ sandbox_then given w q
    here = get_or-set_same w.sandboxes q.sandbox (sandbox_then given w q) closed_sandbox (omega (arith, low, A.row))

    elsewhere : (t : ℕ) → (q.sandbox ≡ t → ⊥) → sandbox_at (world_after g.image f given w q) t ≡ sandbox_at w t
    elsewhere t apart = get_or-set_other w.sandboxes q.sandbox t (sandbox_then given w q) closed_sandbox (λ z. apart (sym z))

    rows_then : (t : ℕ) → rows_of (world_after g.image f given w q) t ≡ in_place q.sandbox (row runs_then) (rows_of w) t
    rows_then t =
        by_cases (eqb q.sandbox t)
        (λ e. rw e (ap (λ (x : Sandbox). row x.runs) (ap (sandbox_at (world_after g.image f given w q)) (sym (eqb-true q.sandbox t e)) ∙ here)))
        (λ e. rw e (ap (λ (x : Sandbox). row x.runs) (elsewhere t (eqb-false q.sandbox t e))))

    there : after g p q q.sandbox ≡ kept_after g q (p q.sandbox)
    unfolding after
    there = rw (n, eq-eqb q.sandbox q.sandbox refl)

    agrees-accepted : Agrees C g (world_after g.image f given w q) (after g p q)
    agrees-accepted =
        record {
          tidy = store-after.tidy;
          row = length-set w.sandboxes q.sandbox _ ∙ A.row;
          spare = rw (fun_ext rows_then) runs-after.spare;
          words = λ t l. rw (rows_then t) (by_cases (eqb q.sandbox t) (λ e. rw e runs-after.words) (λ e. rw e (A.words t l)));
          each = λ t l. by_cases (eqb q.sandbox t)
              (λ e. rw (← eqb-true q.sandbox t e, here, there) agrees-own)
              (λ e.
              let st : Store = store_after g.image f q (sandbox_at w q.sandbox) w.store in
              let apart = eqb-false q.sandbox t e in
              rw (elsewhere t apart, after-others g p q t e)
              (agrees-other st t (sandbox_at w t) (p t) (λ x m. store-after.others t x apart m) (A.each t l)));
          holds = holds_after g p q A.holds;
          reads = reads-after g p q A.holds A.reads;
        }

-- ---- any request

module _ {C : ℕ → Type 0} (g : Given) (L : Lent g) (w : World) (p : Plain) (A : Agrees C g w p) (q : Request) (o : Outcome) (s : Stepped g.image w q o) where
  module _ (n : plainNumber g p q ≡ 0) where
    number : number_at g.image w q ≡ 0
    number = number_same g L w p A q ∙ n

    spare' : Spare 256 (frames_of w) w.store (rows_of w)
    spare' = rw (frames-same g w p A) A.spare

    gave-frame : gives_at q (sandbox_at w q.sandbox) w.store ≡ true
        → (s.given < 128) × (held (rows_of w q.sandbox (longest_of (sandbox_at w q.sandbox))) s.given ≡ 1)
    gave-frame y =
        let x = gave-up g.image w q o s number (low g L w p A q n) spare' (rw (frames-same g w p A) L.few) y in (x.low, x.kept)

    free-frame : (q is write_code) ≡ true → eqb (entry w.store (front_of q.sandbox (page_of q))) 0 ≡ true
        → (s.frame < g.frames)
        × ((held w.store.marks s.frame ≡ 0)
        × ((kept_at (rows_of w) s.frame ≡ 0) ⊎ ((gives_at q (sandbox_at w q.sandbox) w.store ≡ true) × (s.frame ≡ s.given))))
    free-frame e z =
        let x = frame-free g.image w q o s number (low g L w p A q n) spare' (rw (frames-same g w p A) L.few) e z in
        (rw (← frames-same g w p A) x.0, (x.1.0, ⊎_elim (λ y. inl y.unkept) (λ y. inr y) x.1.1))

  pub step-answer : o.answer ≡ answer g p q
  unfolding step answer
  step-answer =
      rw (s.equals, number_same g L w p A q)
      (by_cases (eqb (plainNumber g p q) 0) (λ e. rw (e, values g L w p A q (eqb-true _ 0 e))) (λ e. rw e))

  pub step-agrees : Agrees C g o.world (after g p q)
  unfolding step
  step-agrees =
      rw (s.equals, number_same g L w p A q)
      (by_cases (eqb (plainNumber g p q) 0)
      (λ e. rw e (agrees-accepted g L w p A q (eqb-true _ 0 e) s.frame s.given (gave-frame (eqb-true _ 0 e)) (free-frame (eqb-true _ 0 e))))
      (λ e. rw (e, refused-changes-nothing g p q e) A))
