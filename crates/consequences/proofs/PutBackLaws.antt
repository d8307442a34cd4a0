-- What a rewind's value says: of any state by the step, of every list by demand 2 from what the plain machine claims of it.
use mathlib.Core.Path.{◌≡◌, refl, sym, ap, ◌∙◌}
use mathlib.Core.Bool.{true, not, ◌&&◌}
use mathlib.Core.List.{List, [], ◌∷◌, ◌++◌}
use Prim.Native.Nat.{ℕ, ◌≤◌, ◌<◌}
use native.Mathlib.Omega.{arith}
use lib.Dec.{eqb}
use lib.ListN.{length}
use borrow.Author.Tests.{eqb-true, eq-eqb}
use Rattle.basics.proofs.TestLaws.{by_cases, and_both, and-of}
use Rattle.interface.specs.declared.request.Request.{Request}
use Rattle.interface.specs.Answers.{Answered}
use Rattle.interface.specs.Requests.{snapshot_code, rewind_code}
use Rattle.interface.specs.Slots.{is_committed}
use Rattle.comparison.proofs.CompareLaws.{changed-at-most, lowest-unchanged, unchanged-lowest}
use Rattle.table.specs.Store.{entry, front_of, back_of, contents}
use Rattle.areas.specs.Areas.{slots}
use Rattle.records.specs.declared.Record.{Record}
use Rattle.state.specs.World.{World, sandbox_at, record_at}
use Rattle.soundness.proofs.TestLaws.{Tested, tested}
use Rattle.content.specs.Content.{page_under, page_read, copy_read, reads_same, changed}
use Rattle.agreement.proofs.CompareLaws.{passed_over}
use Rattle.memory.proofs.ValueLaws.{rewind-value}
use Rattle.step.specs.Step.{Outcome, Stepped, number_at, step}
use Rattle.plain.specs.Machine.{Given, Plain, fresh, answer}
use Rattle.plain_claims.specs.Lists.{up_to, back}
use Rattle.plain_claims.specs.Claims.{compare_of}
use Rattle.plain_claims.specs.PutBack.{rewind_of}
use Rattle.plain_claims.proofs.PutBackLaws.{clean-puts-nothing-back, nothing-after-snapshot, nothing-while-rewound}
use Rattle.simulation.specs.Lent.{Lent}
use Rattle.simulation.proofs.StepLaws.{was-sound, was-accepted, number_is}
use Rattle.claims.proofs.Runs.{demand-2}
use Rattle.claims.proofs.Demand3Laws.{answer_at, took-then}
use Rattle.consequences.specs.PutBack.{committed_fronts, found_in, RewindsTell, PutBack}
use Rattle.consequences.proofs.StillCleanLaws.{compare-leaves, second}

-- ---- of any state

-- what an accepted rewind answers
rewind-told : (image : List ℕ) (w : World) (q : Request) (o : Outcome) → Stepped image w q o → q.code ≡ rewind_code → number_at image w q ≡ 0
    → o.answer.value ≡ changed image w.store (record_at w q.sandbox) q.sandbox
unfolding step
rewind-told image w q o t e n = rw (t.equals, n) (sym (rewind-value image q (sandbox_at w q.sandbox) w.store _ e refl))

-- a committed page whose bytes differ has a front
has-front : (image : List ℕ) (w : World) → Tested image w → (s : ℕ) → s < 4 → (i : ℕ)
    → (is_committed (slots (record_at w s).present i) && not (reads_same image w.store (record_at w s) s i)) ≡ true
    → (is_committed (slots (record_at w s).present i) && not (eqb (entry w.store (front_of s i)) 0)) ≡ true
unfolding page_read page_under copy_read contents
has-front image w T s row i h =
    let b : Record = record_at w s in
    let front : ℕ = entry w.store (front_of s i) in
    let both = and_both (is_committed (slots b.present i)) _ h in
    by_cases (eqb front 0)
    (λ z. let same = passed_over image w.store.pool (slots b.present i) (slots b.snapshot i) front (entry w.store (back_of s i))
    (and-of both.0 z) ((T.each s row).rec.backing i) in
    let none = rw same at both.1 in cc)
    (λ z. and-of both.0 (rw z))

module _ (image : List ℕ) (w : World) (q : Request) (o : Outcome) (t : Stepped image w q o) (e : q.code ≡ rewind_code) where
  abbrev b : Record
  b = record_at w q.sandbox

  accepted-told : o.answer.number ≡ 0 → o.answer.value ≡ changed image w.store b q.sandbox
  accepted-told n = rewind-told image w q o t e (sym (number_is image w q o t) ∙ n)

  unchanged : found_in image w q.sandbox ≡ 64 → changed image w.store b q.sandbox ≡ 0
  unfolding changed
  unchanged h = lowest-unchanged (slots b.present) (reads_same image w.store b q.sandbox) h

  none_found : changed image w.store b q.sandbox ≡ 0 → found_in image w q.sandbox ≡ 64
  unfolding changed
  none_found z = unchanged-lowest (slots b.present) (reads_same image w.store b q.sandbox) z

  at-most-fronts : o.answer.value ≤ committed_fronts w q.sandbox
  unfolding step changed
  at-most-fronts =
      by_cases (eqb (number_at image w q) 0)
      (λ z. let n = eqb-true (number_at image w q) 0 z in
      let T = tested image w (was-sound image w q n) in
      let row : q.sandbox < 4 = omega (arith, (was-accepted image w q n).in_row) in
      rw (rewind-told image w q o t e n)
      (changed-at-most (slots b.present) (reads_same image w.store b q.sandbox) _ (has-front image w T q.sandbox row)))
      (λ z. rw (t.equals, z) (omega arith))

pub rewinds-tell : (image : List ℕ) → RewindsTell image
rewinds-tell image w q o t e = record {
  fronts = at-most-fronts image w q o t e;
  nothing = λ n h. accepted-told image w q o t e n ∙ unchanged image w q o t e h;
  only_there = λ n z. none_found image w q o t e (sym (accepted-told image w q o t e n) ∙ z);
}

-- ---- of every list

pub put-back : (g : Given) → Lent g → PutBack g
put-back g L =
    record {
      rewind = λ s qs q as' v r t.
          let e = demand-2 g L _ as' v r in
          second g L qs q (rewind_of s) as' e ∙ nothing-while-rewound g s (qs ++ q ∷ []) (back (took-then g s rewind_code qs q (rewind_of s ∷ []) as' e t));
      snapshot = λ s qs q as' v r t.
          let e = demand-2 g L _ as' v r in
          second g L qs q (rewind_of s) as' e ∙ nothing-after-snapshot g s qs q (took-then g s snapshot_code qs q (rewind_of s ∷ []) as' e t);
      rewound = λ s qs as' v w r. answer_at g qs (rewind_of s) [] as' (demand-2 g L _ as' v r) ∙ nothing-while-rewound g s qs w;
      clean = λ s qs as' v r ten.
          let e = demand-2 g L _ as' v r in
          second g L qs (compare_of s) (rewind_of s) as' e
          ∙ ap (λ (p : Plain). answer g p (rewind_of s)) (compare-leaves g qs s)
          ∙ clean-puts-nothing-back g s qs (sym (answer_at g qs (compare_of s) (rewind_of s ∷ []) as' e) ∙ ten);
    }
