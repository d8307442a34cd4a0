-- Demand 3, after every list: rewound sandboxes, what the frames hold, the promise of a frame, and two lists.
use mathlib.Core.Path.{◌≡◌, refl, sym, ap, ◌∙◌}
use mathlib.Core.Logic.{⊎_elim}
use mathlib.Core.Bool.{true}
use mathlib.Core.Option.{some}
use mathlib.Core.List.{List, [], ◌∷◌, ◌++◌, append_assoc}
use Prim.Native.Nat.{ℕ, suc, ◌<◌}
use native.Mathlib.Omega.{arith}
use lib.ListN.{length, get_or}
use lib.Seq.{get_or_at}
use Rattle.interface.specs.declared.request.Request.{Request}
use Rattle.interface.specs.Answers.{Answered}
use Rattle.interface.specs.Requests.{write_code, snapshot_code, rewind_code, page_of}
use Rattle.interface.specs.Slots.{Slots, is_mapped, rights_at}
use Rattle.interface.specs.Limits.{within}
use Rattle.interface.specs.Examples.{refused}
use Rattle.interface.specs.Numbers.{pages_in}
use Rattle.frames.proofs.FrameLaws.{held-or, lt-or-ge}
use Rattle.kept.proofs.SpareLaws.{run-kept}
use Rattle.table.specs.Store.{entry, front_of, back_of}
use Rattle.areas.specs.Areas.{slots}
use Rattle.state.specs.World.{World, sandbox_at, record_at, rows_of}
use Rattle.state.specs.Sound.{Sound}
use Rattle.step.specs.Step.{Outcome, Stepped}
use Rattle.plain.specs.Machine.{Given, Plain, fresh, number_at, answer, after, answers}
use Rattle.plain_claims.specs.Lists.{up_to, Then, Rewound}
use Rattle.plain_claims.proofs.KeptLaws.{frames-suffice, next-write}
use Rattle.plain_claims.proofs.TwoListsLaws.{answers-append, length-answers}
use Rattle.plain_claims.proofs.Claims.{claim-two-lists, claim-rewound}
use Rattle.simulation.specs.Lent.{Lent}
use Rattle.simulation.specs.Agrees.{Agrees}
use Rattle.simulation.proofs.ReadSteps.{page-read, frame_is, some-entry}
use Rattle.simulation.proofs.SoundLaws.{shares-same, agrees-sound}
use Rattle.simulation.proofs.StoreSteps.{write-page}
use Rattle.simulation.proofs.ValueSteps.{held-counts, backs-count}
use Rattle.simulation.proofs.Simulate.{step-answer, step-agrees}
use Rattle.simulation.proofs.TakenLaws.{some-frame}
use Rattle.claims.specs.Demands.{AsSnapshot, Frames, Promise, Took, Demand3}
use Rattle.claims.proofs.Runs.{list-agrees, demand-2}

answer-number : (g : Given) (p : Plain) (q : Request) → (answer g p q).number ≡ number_at g p q
unfolding answer
answer-number g p q = refl

-- ---- after a list

module _ (g : Given) (L : Lent g) (qs : List Request) (v : World) (A : Agrees (λ f. Unit {0}) g v (up_to g qs)) where
  as-snapshot : (s : ℕ) → s < 4 → Rewound g s qs → AsSnapshot g qs v s
  as-snapshot s l r =
      let a = A.each s l in
      let h = A.holds.each s in
      let back : (up_to g qs s).core.copy ≡ some (up_to g qs s).core.pages = claim-rewound g s qs r in
      record {
        mappings = a.present ∙ rw back;
        bytes = λ i d m.
            let mapped = sym (ap (λ (f : Slots). is_mapped (f i)) a.present) ∙ m in
            page-read g L v.store s (sandbox_at v s) (up_to g qs s) h (A.reads s) a i d mapped ∙ rw back;
        fronts = λ i f d e.
            let z = frame_is v.store (front_of s i) ((up_to g qs s).traces.front i) _ (a.fronts i d) f e in
            (rw back (h.front_mapped i z.0), z.1 ∙ rw back);
        backs = λ i f d e.
            let z = frame_is v.store (back_of s i) ((up_to g qs s).traces.back i) _ (a.backs i d) f e in
            (h.back_in i z.0, z.1);
        kept = λ i f d e z.
            let one = run-kept (rows_of v) s i f l d in
            let low : f < g.frames = ⊎_elim (λ y. y) (λ y. absurd (omega (arith, one, z, A.spare.of_pool f y e))) (lt-or-ge f g.frames) in
            (low, A.spare.blank f low (omega (arith, one, z)));
      }

  sound : Sound g.image v
  sound = agrees-sound g v (up_to g qs) A L

  frames-hold : Frames g qs v
  frames-hold =
      record {
        fronts = λ s i f l d e. (frame_is v.store (front_of s i) ((up_to g qs s).traces.front i) _ ((A.each s l).fronts i d) f e).1;
        backs = λ s i f l d e. (frame_is v.store (back_of s i) ((up_to g qs s).traces.back i) _ ((A.each s l).backs i d) f e).1;
        rest = λ f l n. A.tidy.clean f tt l
            (⊎_elim (λ z. z) (λ z. let k = A.tidy.filed.names.named f (omega (arith, L.few)) z in absurd (n k.0 k.1)) (held-or v.store.marks f));
        unheld = λ f l z. A.tidy.clean f tt l z;
        kept = A.spare;
        counted = λ s l. held-counts g v (up_to g qs) A s;
      }

  write-taken : (q : Request) (o : Outcome) → Stepped g.image v q o → q.code ≡ write_code → q.sandbox < 4 → (record_at v q.sandbox).opened ≡ true
      → within (pages_in (length g.image)) q ≡ true → is_mapped (slots (record_at v q.sandbox).present (page_of q)) ≡ true
      → rights_at (slots (record_at v q.sandbox).present (page_of q)) ≡ 3
      → (o.answer.number ≡ 0) × ((f : ℕ) × (entry o.world.store (front_of q.sandbox (page_of q)) ≡ suc f))
  write-taken q o s e l opened limits there right =
      let a = A.each q.sandbox l in
      let x = next-write g (up_to g qs) A.holds q e (omega arith) (sym a.opened ∙ opened) limits
      (sym (ap (λ (f : Slots). is_mapped (f (page_of q))) a.present) ∙ there) (sym (ap (λ (f : Slots). rights_at (f (page_of q))) a.present) ∙ right) in
      let B = step-agrees g L v (up_to g qs) A q o s in (
        ap (λ (y : Answered). y.number) (step-answer g L v (up_to g qs) A q o s) ∙ answer-number g (up_to g qs) q ∙ x.0,
        some-entry o.world.store (front_of q.sandbox (page_of q)) _ _ ((B.each q.sandbox l).fronts (page_of q) (write-page _ q e limits)) x.1,
      )

  promised : Promise g qs v
  promised =
      record {
        share = λ s l. (sound.each s l).in_share;
        covered = λ s l. let a = A.each s l in rw (a.present, a.share, backs-count g v (up_to g qs) A s l) (frames-suffice (up_to g qs s) (A.holds.each s));
        pooled = rw (shares-same g v (up_to g qs) A) A.holds.pooled;
        next = write-taken;
        found = some-frame g.image v sound;
      }

-- ---- two lists

-- the answer at a request's place in the list is that of the plain machine after those before it
pub answer_at : (g : Given) (qs : List Request) (q : Request) (rest : List Request) (as' : List Answered)
    → as' ≡ answers g fresh (qs ++ q ∷ rest) → get_or as' (length qs) (refused 1) ≡ answer g (up_to g qs) q
unfolding answers
answer_at g qs q rest as' e =
    rw (e, answers-append g fresh qs (q ∷ rest))
    (get_or_at (answers g fresh qs) (answer g (up_to g qs) q) (answers g (after g (up_to g qs) q) rest) (refused 1) (length qs) (length-answers g fresh qs))

-- the answers say what was accepted
pub took-then : (g : Given) (s call : ℕ) (qs : List Request) (q : Request) (rest : List Request) (as' : List Answered)
    → as' ≡ answers g fresh (qs ++ q ∷ rest) → Took s call q as' (length qs) → Then g s call qs q
took-then g s call qs q rest as' e t =
    let z = answer_at g qs q rest as' e in
    record { called = t.called; names = t.names; taken = sym (answer-number g (up_to g qs) q) ∙ sym (ap (λ (x : Answered). x.number) z) ∙ t.taken }

pub demand-3 : (g : Given) → Lent g → Demand3 g
demand-3 g L =
    record {
      rewound = λ s qs as' v l r w. as-snapshot g L qs v (list-agrees g L qs as' v r) s l w;
      frames = λ qs as' v r. frames-hold g L qs v (list-agrees g L qs as' v r);
      promise = λ qs as' v r. promised g L qs v (list-agrees g L qs as' v r);
      sound = λ qs as' v r. sound g L qs v (list-agrees g L qs as' v r);
      two_lists = λ s common own₁ own₂ later₁ later₂ snapshot rewind₁ rewind₂ as₁ as₂ v₁ v₂ r₁ r₂ taken back₁ back₂ same.
          let e₁ = demand-2 g L _ as₁ v₁ r₁ in
          let e₂ = demand-2 g L _ as₂ v₂ r₂ in
          rw (e₁, e₂)
          (claim-two-lists g s common own₁ own₂ later₁ later₂ snapshot rewind₁ rewind₂
          (took-then g s snapshot_code common snapshot (own₁ ++ rewind₁ ∷ [] ++ later₁) as₁ (e₁ ∙ ap (answers g fresh) (simp append_assoc)) taken)
          (took-then g s rewind_code (common ++ snapshot ∷ own₁) rewind₁ later₁ as₁ (e₁ ∙ ap (answers g fresh) (simp append_assoc)) back₁)
          (took-then g s rewind_code (common ++ snapshot ∷ own₂) rewind₂ later₂ as₂ (e₂ ∙ ap (answers g fresh) (simp append_assoc)) back₂) same);
    }
