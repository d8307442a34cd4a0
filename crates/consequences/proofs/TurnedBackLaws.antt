-- "Turned back" of the machine that runs: by demand 2 from the plain machine's tables, and by the lent lengths alone.
use mathlib.Core.Path.{◌≡◌, refl, sym, ap₂, subst, ◌∙◌}
use mathlib.Core.Bool.{Bool, true, false, not, ◌&&◌, false≢true}
use mathlib.Core.List.{List, [], ◌∷◌}
use mathlib.Core.Option.{none}
use Prim.Native.Nat.{ℕ, ◌*◌}
use native.Mathlib.Omega.{arith}
use lib.Dec.{eqb}
use lib.ListN.{length}
use borrow.Author.Tests.{eqb-true}
use Rattle.basics.specs.Choice.{◌when◌else◌}
use Rattle.basics.specs.Ranges.{count, sum, every, lowest, inside, over}
use Rattle.basics.proofs.TestLaws.{by_cases, and_both}
use Rattle.interface.specs.declared.page.Slot.TheVariants.{Unmapped}
use Rattle.interface.specs.declared.request.Request.{Request}
use Rattle.interface.specs.Answers.{Answered}
use Rattle.interface.specs.Requests.{open_code, is_call}
use Rattle.interface.specs.Slots.{follows, joins, areas, mapped_pages, uncommitted_pages, lowest_gap, charge_of}
use Rattle.interface.specs.Limits.{within}
use Rattle.interface.specs.Outcome.{first_of, slots_after, copy_after}
use Rattle.interface.specs.Refusals.{View, all_mapped, applies, refusal}
use Rattle.interface.specs.Examples.{refused, requests_of, gets_of, call₁}
use Rattle.interface.specs.Numbers.{pages_in}
use Rattle.words.specs.Word.{bit, put_bit}
use Rattle.frames.specs.Frames.{mark, held as heldMark}
use Rattle.pages.specs.Parts.{zeros}
use Rattle.marks.specs.Marks.{add_entry, marks_to, marksb}
use Rattle.state.specs.World.{World, world_of, fresh_machine, started, lengths_ok}
use Rattle.state.specs.Start.{started_by}
use Rattle.state.specs.Lengths.{Lending, lendings}
use Rattle.soundness.specs.Test.{soundb}
use Rattle.state.proofs.LentLaws.{lengths-true}
use Rattle.step.specs.Step.{Outcome, Stepped, number_at}
use Rattle.step.proofs.CallLaws.{number-two, number-three}
use Rattle.plain.specs.Machine.{Given, fresh, closed, value_at, core_value, frames_held, answer, answers}
use Rattle.plain.specs.Cases.{Case, cases_over, no_image, cases, same_answer, same_answers, all_given}
use Rattle.plain.specs.TurnedBack.{turned_back_cases}
use Rattle.plain.specs.StillClean.{still_clean}
use Rattle.plain.specs.OverGaps.{over_gaps}
use Rattle.plain.specs.KeptRuns.{kept_runs}
use Rattle.plain.specs.PutBack.{put_back}
use Rattle.plain.proofs.CaseLaws.{kept-runs, put-back}
use Rattle.plain_claims.proofs.Claims.{claim-cases, claim-turned-back, claim-still-clean, claim-over-gaps}
use Rattle.simulation.specs.Lent.{Lent}
use Rattle.simulation.proofs.StepLaws.{number_is, refused-leaves}
use Rattle.simulation.proofs.SoundLaws.{started-agrees}
use Rattle.simulation.proofs.Simulate.{step-answer}
use Rattle.claims.proofs.Runs.{starts-lists, demand-2}
use Rattle.consequences.specs.TurnedBack.{AllGet, AllGetLent, stray_entry, StrayEntry}

-- ---- the plain machine's tables

same-answer : (a b : Answered) → same_answer a b ≡ true → a ≡ b
same-answer a b e =
    let same = and_both (eqb a.number b.number) _ e in
    λ i. record { number = eqb-true a.number b.number same.0 i; value = eqb-true a.value b.value same.1 i }

same-answers : (l m : List Answered) → same_answers l m ≡ true → l ≡ m
same-answers [] [] e = refl
same-answers [] (b ∷ m) e = absurd (false≢true e)
same-answers (a ∷ l) [] e = absurd (false≢true e)
same-answers (a ∷ l) (b ∷ m) e = let both = and_both (same_answer a b) _ e in ap₂ ◌∷◌ (same-answer a b both.0) (same-answers l m both.1)

-- a start accepts what each roll is played over
unfoldable lentb : List Case → Bool
lentb [] = true
lentb (c ∷ cs) = lengths_ok (c.over.frames * 256) 512 (length c.over.image) && lentb cs

lent_of : (g : Given) → lengths_ok (g.frames * 256) 512 (length g.image) ≡ true → Lent g
lent_of g e =
    let l = lengths-true (g.frames * 256) 512 (length g.image) e in
    let n : pages_in (g.frames * 256) ≡ g.frames = omega arith in
    record { frames = omega (arith, n, l.some); few = omega (arith, n, l.few); image = l.whole; images = l.images }

all-get : (cs : List Case) → lentb cs ≡ true → all_given cs ≡ true → AllGet cs
unfolding lentb all_given
all-get [] l e = tt
all-get (c ∷ cs) l e =
    let lent = and_both (lengths_ok (c.over.frames * 256) 512 (length c.over.image)) (lentb cs) l in
    let given = and_both (same_answers (answers c.over fresh (requests_of c.lines)) (gets_of c.lines)) (all_given cs) e in
    (λ as' v r. demand-2 c.over (lent_of c.over lent.0) _ as' v r ∙ same-answers _ _ given.0, all-get cs lent.1 given.1)

pub cases-get : AllGet (cases_over no_image cases)
unfolding lentb
cases-get = all-get (cases_over no_image cases) refl claim-cases

pub turned-back-get : AllGet turned_back_cases
unfolding lentb
turned-back-get = all-get turned_back_cases refl claim-turned-back

pub still-clean-get : AllGet still_clean
unfolding lentb
still-clean-get = all-get still_clean refl claim-still-clean

pub over-gaps-get : AllGet over_gaps
unfolding lentb
over-gaps-get = all-get over_gaps refl claim-over-gaps

pub kept-runs-get : AllGet kept_runs
unfolding lentb
kept-runs-get = all-get kept_runs refl kept-runs

pub put-back-get : AllGet put_back
unfolding lentb
put-back-get = all-get put_back refl put-back

-- ---- row 3

module _ (image : List ℕ) (w : World) (wrong : lengths_ok (length w.store.pool) (length w.store.table) (length image) ≡ false) where
  unsound : soundb image w ≡ false
  unfolding soundb
  unsound = rw wrong

  wrong-number : (q : Request) → number_at image w q ≡ (2 when not (is_call q) else 3)
  wrong-number q = by_cases (is_call q) (λ e. rw e (sym (number-three image w q e unsound))) (λ e. rw e (sym (number-two image w q e)))

  some-row : (b : Bool) → eqb (2 when b else 3) 0 ≡ false
  some-row true = refl
  some-row false = refl

  pub wrong-length : (q : Request) (o : Outcome) → Stepped image w q o → (o.answer ≡ refused (2 when not (is_call q) else 3)) × (o.world ≡ w)
  wrong-length q o s =
      let left = refused-leaves image w q o s (rw (wrong-number q) (some-row (not (is_call q)))) in
      (λ i. record { number = (number_is image w q o s ∙ wrong-number q) i; value = left.0 i }, left.1)

-- what the first request is decided from
abbrev first_view : ℕ → ℕ → View
first_view frames images = record {
  sound = true;
  frames = frames;
  images = images;
  shares = 0;
  opened = false;
  share = 0;
  slots = λ _. Unmapped;
  copy = none;
}

-- the first answer, from the lengths alone
unfoldable lent_answer : ℕ → ℕ → ℕ → Request → Answered
lent_answer p t i q =
    (let n = refusal (first_view (pages_in p) (pages_in i)) q in
    record { number = n; value = value_at no_image q closed when eqb n 0 else 0 }) when lengths_ok p t i else
    refused (2 when not (is_call q) else 3)

-- of a start that is not refused
fresh-answer : (g : Given) → Lent g → (q : Request) (o : Outcome) → Stepped g.image (started g.frames) q o → o.answer ≡ answer g fresh q
fresh-answer g L q o s = step-answer g L (started g.frames) fresh (started-agrees {C = λ f. Unit {0}} g L) q o s

lent-answer : (pool table image : List ℕ) (q : Request) (o : Outcome) → Stepped image (started_by pool table image) q o
    → o.answer ≡ lent_answer (length pool) (length table) (length image) q
unfolding lent_answer answer core_value sum started_by
lent-answer pool table image q o s =
    by_cases (lengths_ok (length pool) (length table) (length image))
    (λ e. let start = starts-lists pool table image e in
    rw e (fresh-answer (record { image = image; frames = pages_in (length pool) }) start.0 q o (subst (λ w. Stepped image w q o) start.1 s)))
    (λ e. let t : Stepped image (world_of fresh_machine pool table) q o = rw e at s in rw e (wrong-length image (world_of fresh_machine pool table) e q o t).0)

unfoldable lendings_ok : List Lending → Bool
lendings_ok [] = true
lendings_ok (c ∷ cs) = same_answer (lent_answer c.pool c.table c.image c.line.request) c.line.gets && lendings_ok cs

all-get-lent : (cs : List Lending) → lendings_ok cs ≡ true → AllGetLent cs
unfolding lendings_ok
all-get-lent [] e = tt
all-get-lent (c ∷ cs) e =
    let q = c.line.request in
    let given = and_both (same_answer (lent_answer c.pool c.table c.image q) c.line.gets) (lendings_ok cs) e in
    (λ pool table image p t i o s. lent-answer pool table image q o s ∙ rw (p, t, i) (same-answer _ _ given.0), all-get-lent cs given.1)

pub lendings-get : AllGetLent lendings
unfolding lendings_ok lent_answer within all_mapped first_of slots_after copy_after applies refusal core_value frames_held
    count sum every lowest inside over follows joins areas mapped_pages uncommitted_pages lowest_gap charge_of
lendings-get = all-get-lent lendings refl

stray-number : number_at [] stray_entry (call₁ open_code 1) ≡ 3
unfolding number_at applies refusal soundb marksb marks_to add_entry bit put_bit heldMark mark zeros
stray-number = refl

pub stray-entry : StrayEntry
stray-entry o s =
    let n = stray-number in
    let left = refused-leaves [] stray_entry (call₁ open_code 1) o s (rw n refl) in
    (λ i. record { number = (number_is [] stray_entry (call₁ open_code 1) o s ∙ n) i; value = left.0 i }, left.1)
