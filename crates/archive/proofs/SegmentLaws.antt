-- A part of a roll, played: from a machine whose sandbox has one core every line is accepted, and it leaves another.
use Prim.Native.Nat.{ℕ, zero, suc, ◌<◌}
use mathlib.Core.Path.{◌≡◌, refl, ap, ◌∙◌}
use mathlib.Core.Bool.{Bool, true, false}
use mathlib.Core.List.{List, [], ◌∷◌, ◌++◌}
use native.Mathlib.Omega.{arith}
use Rattle.interface.specs.declared.request.Request.{Request}
use Rattle.interface.specs.Answers.{Answered}
use Rattle.interface.specs.Refusals.{refusal}
use Rattle.basics.proofs.TestLaws.{when-cases}
use Rattle.plain.specs.Machine.{Given, Core, Plain, view_of, shares, core_after, number_at, answer, answers, after_all}
use Rattle.plain_claims.proofs.OneSandbox.{shares-apart}
use Rattle.plain_claims.proofs.TwoListsLaws.{after-append, answers-append, accepted-core}
use Rattle.archive.specs.Archive.{joined, only}
use Rattle.archive.specs.Segments.{AllTaken, Goes}

pub taken-append : (l m : List Answered) → AllTaken l → AllTaken m → AllTaken (l ++ m)
taken-append [] m h k = k
taken-append (a ∷ l) m h k = (h.0, taken-append l m h.1 k)

module _ (g : Given) (s : ℕ) where
  pub goes_none : (c c' : Core) → c ≡ c' → Goes g s [] c c'
  unfolding answers after_all
  goes_none c c' e = record { taken = λ p h. tt; leaves = λ p h. h ∙ e }

  pub goes-append : (l m : List Request) (c d e : Core) → Goes g s l c d → Goes g s m d e → Goes g s (l ++ m) c e
  goes-append l m c d e x y = record {
    taken = λ p h. rw (answers-append g p l m) (taken-append (answers g p l) (answers g (after_all g p l) m) (x.taken p h)
        (y.taken (after_all g p l) (x.leaves p h)));
    leaves = λ p h. rw (after-append g p l m) (y.leaves (after_all g p l) (x.leaves p h));
  }

  -- one request of an open sandbox
  module _ (q : Request) (c c' : Core) (names : q.sandbox ≡ s) (opened : c.opened ≡ true) (free : refusal (view_of g 0 c) q ≡ 0)
      (is : core_after g q c ≡ c') where
    one-taken : (p : Plain) → (p s).core ≡ c → number_at g p q ≡ 0
    one-taken p h = let own : (p q.sandbox).core ≡ c = ap (λ (t : ℕ). (p t).core) names ∙ h in rw own (shares-apart g (shares p) 0 q c opened ∙ free)

    pub goes_one : Goes g s (q ∷ []) c c'
    unfolding answers answer after_all
    goes_one = record {
      taken = λ p h. (one-taken p h, tt);
      leaves = λ p h. accepted-core g s p q names (one-taken p h) ∙ rw h is;
    }

  -- a request that stands there only where a test holds
  pub goes-only : (b : Bool) (q : Request) (c c' : Core) → (b ≡ true → Goes g s (q ∷ []) c c') → (b ≡ false → c ≡ c') → Goes g s (only b q) c c'
  goes-only b q c c' there not_there = when-cases (λ (l : List Request). Goes g s l c c') b there (λ e. goes_none c c' (not_there e))

  -- parts behind each other, by what is reached before each
  pub goes-joined : (f : ℕ → List Request) (stage : ℕ → Core) (n : ℕ) → ((i : ℕ) → i < n → Goes g s (f i) (stage i) (stage (suc i)))
      → Goes g s (joined f n) (stage 0) (stage n)
  unfolding joined
  goes-joined f stage zero h = goes_none (stage 0) (stage 0) refl
  goes-joined f stage (suc n) h =
      goes-append (joined f n) (f n) (stage 0) (stage n) (stage (suc n)) (goes-joined f stage n (λ i l. h i (omega arith))) (h n (omega arith))
