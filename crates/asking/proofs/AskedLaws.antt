-- What is known of a line by what it asks: a refused one is turned back by its number, and leaves the world; else it is a call on one of the four sandboxes.
use mathlib.Core.Path.{◌≡◌, refl, sym, ap, subst, ◌∙◌}
use mathlib.Core.Bool.{Bool, true, false, false≢true}
use mathlib.Core.List.{List}
use Prim.Native.Nat.{ℕ, ◌≤◌, ◌<◌}
use lib.Dec.{ltb}
use borrow.Author.Tests.{ltb-true, ltb-false}
use Rattle.basics.proofs.TestLaws.{by_cases}
use Rattle.std.specs.Prelude.{Result, Ok, Err}
use Rattle.interface.specs.declared.answer.Refusal.{Refusal}
use Rattle.interface.specs.declared.answer.Refusal.TheVariants.{Malformed, NoSuchCall, Unsound, NotOpen}
use Rattle.interface.specs.declared.request.Request.{Request}
use Rattle.interface.specs.Answers.{refusal_number}
use Rattle.interface.specs.Requests.{is_call}
use Rattle.lines.specs.declared.Line.{Line}
use Rattle.lines.specs.declared.Line.TheVariants.{Call as LineCall, Malformed as LineMalformed}
use Rattle.state.specs.World.{World}
use Rattle.step.specs.Step.{Outcome}
use Rattle.step.proofs.CallLaws.{stepped-refused, number-two, number-three, number-four}
use Rattle.roll.specs.Known.{Known}
use Rattle.roll.specs.Play.{Turned}
use Rattle.roll.proofs.KnownLaws.{known_is}
use Rattle.asking.specs.Asked.{asked_by}

-- what an answer asks: the refusal, and whether there is one
abbrev why_of : Result Request Refusal → Refusal
why_of (Err why) = why
why_of (Ok q) = Malformed

abbrev is_refused : Result Request Refusal → Bool
is_refused (Err why) = true
is_refused (Ok q) = false

abbrev request_of : Request → Result Request Refusal → Request
request_of q (Err why) = q
request_of q (Ok p) = p

-- a refusal that leaves the world
abbrev turned_back : Refusal → World → Outcome
turned_back why w = record { answer = record { number = refusal_number why; value = 0 }; world = w }

false-true : {A : Type 0} → ◌≡◌ {A = Bool} false true → A
false-true e = absurd (false≢true e)

-- what a line asks, by each way
module _ (sound : Bool) (q : Request) where
  pub asks-no-call : is_call q ≡ false → asked_by sound (LineCall q) ≡ Err NoSuchCall
  unfolding asked_by
  asks-no-call none = rw none

  pub asks-unsound : is_call q ≡ true → sound ≡ false → asked_by sound (LineCall q) ≡ Err Unsound
  unfolding asked_by
  asks-unsound coded fails = rw (coded, fails)

  pub asks-past : is_call q ≡ true → sound ≡ true → ltb q.sandbox 4 ≡ false → asked_by sound (LineCall q) ≡ Err NotOpen
  unfolding asked_by
  asks-past coded holds past = rw (coded, holds, past)

  pub asks-call : is_call q ≡ true → sound ≡ true → ltb q.sandbox 4 ≡ true → asked_by sound (LineCall q) ≡ Ok q
  unfolding asked_by
  asks-call coded holds low = rw (coded, holds, low)

module _ (image : List ℕ) (w : World) (sound : Bool) (K : Known sound image w) where
  -- turned back by the row that was found
  by_row : (line : Line) (a : Result Request Refusal) (why : Refusal) → a ≡ asked_by sound line → asked_by sound line ≡ Err why
      → Turned image w line (turned_back why w) → Turned image w line (turned_back (why_of a) w)
  by_row line a why e f t = subst (λ (x : Refusal). Turned image w line (turned_back x w)) (sym (ap why_of (e ∙ f))) t

  refused-call : (q : Request) (a : Result Request Refusal) → a ≡ asked_by sound (LineCall q) → is_refused a ≡ true
      → Turned image w (LineCall q) (turned_back (why_of a) w)
  refused-call q a e r =
      let tested = sym (known_is sound image w K) in
      by_cases (is_call q)
      (λ coded. by_cases sound
      (λ holds. by_cases (ltb q.sandbox 4)
      (λ low. false-true (sym (ap is_refused (e ∙ asks-call sound q coded holds low)) ∙ r))
      (λ past. by_row (LineCall q) a NotOpen e (asks-past sound q coded holds past)
      (stepped-refused image w q NotOpen (number-four image w q coded (tested ∙ holds) (ltb-false q.sandbox 4 past)))))
      (λ fails. by_row (LineCall q) a Unsound e (asks-unsound sound q coded fails)
      (stepped-refused image w q Unsound (number-three image w q coded (tested ∙ fails)))))
      (λ none. by_row (LineCall q) a NoSuchCall e (asks-no-call sound q none)
      (stepped-refused image w q NoSuchCall (number-two image w q none)))

  -- a line that is refused without a look at a sandbox
  pub refused-line : (line : Line) (why : Refusal) → Err why ≡ asked_by sound line → Turned image w line (turned_back why w)
  unfolding asked_by
  refused-line LineMalformed why e = ap (λ (a : Result Request Refusal). turned_back (why_of a) w) e
  refused-line (LineCall q) why e = refused-call q (Err why) e refl

-- a line that asks for a call
pub record Calls (sound : Bool) (line : Line) (q : Request) : Type 0 where
  pub says : line ≡ LineCall q
  pub coded : is_call q ≡ true
  pub known : sound ≡ true
  pub low : q.sandbox < 4

call-of : (sound : Bool) (p q : Request) → Ok q ≡ asked_by sound (LineCall p) → Calls sound (LineCall p) q
call-of sound p q e =
    by_cases (is_call p)
    (λ coded. by_cases sound
    (λ holds. by_cases (ltb p.sandbox 4)
    (λ low.
    let same : q ≡ p = ap (request_of q) (e ∙ asks-call sound p coded holds low) in
    subst (λ (x : Request). Calls sound (LineCall p) x) (sym same)
    (record { says = refl; coded = coded; known = holds; low = ltb-true p.sandbox 4 low }))
    (λ past. false-true (ap is_refused (e ∙ asks-past sound p coded holds past))))
    (λ fails. false-true (ap is_refused (e ∙ asks-unsound sound p coded fails))))
    (λ none. false-true (ap is_refused (e ∙ asks-no-call sound p none)))

pub call_line : (sound : Bool) (line : Line) (q : Request) → Ok q ≡ asked_by sound line → Calls sound line q
unfolding asked_by
call_line sound LineMalformed q e = false-true (ap is_refused e)
call_line sound (LineCall p) q e = call-of sound p q e
