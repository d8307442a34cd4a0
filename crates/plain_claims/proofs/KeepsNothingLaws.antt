-- The plain machine and the one that keeps nothing (specs/KeepsNothing), proved alike.
use Prim.Native.Nat.{ℕ}
use mathlib.Core.Path.{◌≡◌, refl, sym, ap, ap₂, ◌∙◌, fun_ext}
use mathlib.Core.List.{List, [], ◌∷◌}
use native.Mathlib.Omega.{arith}
use lib.Dec.{eqb}
use Rattle.basics.specs.Ranges.{sum}
use Rattle.basics.proofs.TestLaws.{by_cases, when-cases}
use Rattle.interface.specs.declared.request.Request.{Request}
use Rattle.plain.specs.Machine.{Given, Core, Plain, fresh, frames_held, shares, number_at, answer, after, answers, after_all}
use Rattle.plain_claims.specs.Lists.{told, told_to}
use Rattle.plain_claims.specs.KeepsNothing.{bare_after, bare_answers, bare_all, Alike, AlikeAfterAll, ToldAlike, CountsMarks}
use Rattle.plain_claims.proofs.OneSandbox.{told_then, told-own}

-- the same cores
abbrev SameCores : Plain → Plain → Type 0
SameCores p bare = (s : ℕ) → (p s).core ≡ (bare s).core

module _ (g : Given) (p bare : Plain) (h : SameCores p bare) where
  same-shares : shares p ≡ shares bare
  same-shares = ap (λ (c : ℕ → Core). sum (λ s. (c s).share) 4) (fun_ext h)

  same_number : (q : Request) → number_at g p q ≡ number_at g bare q
  same_number q = rw (same-shares, h q.sandbox)

  same-told : (q : Request) → told q (answer g p q) ≡ told q (answer g bare q)
  same-told q =
      told-own g p q q.sandbox refl ∙ ap₂ (λ t c. told_then g t q c) same-shares (h q.sandbox) ∙ sym (told-own g bare q q.sandbox refl)

  -- a request leaves them the same
  same_after : (q : Request) → SameCores (after g p q) (bare_after g bare q)
  unfolding after bare_after
  same_after q s =
      by_cases (eqb (number_at g bare q) 0)
      (λ n. rw (same_number q, n) (by_cases (eqb q.sandbox s) (λ e. rw (e, h q.sandbox)) (λ e. rw e (h s))))
      (λ n. rw (same_number q, n) (h s))

  alike : Alike g p bare
  unfolding answer
  alike = record {
    cores = h;
    numbers = same_number;
    answered = λ q e. rw (e, same_number q, h q.sandbox);
  }

alike_all : (g : Given) (qs : List Request) (p bare : Plain) → SameCores p bare → Alike g (after_all g p qs) (bare_all g bare qs)
unfolding after_all bare_all
alike_all g [] p bare h = alike g p bare h
alike_all g (q ∷ qs) p bare h = alike_all g qs (after g p q) (bare_after g bare q) (same_after g p bare h q)

pub alike-after-all : (g : Given) → AlikeAfterAll g
alike-after-all g qs = alike_all g qs fresh fresh (λ s. refl)

told-all : (g : Given) (s : ℕ) (qs : List Request) (p bare : Plain) → SameCores p bare → told_to s qs (answers g p qs) ≡ told_to s qs (bare_answers g bare qs)
unfolding told_to answers bare_answers
told-all g s [] p bare h = refl
told-all g s (q ∷ qs) p bare h =
    let rest = told-all g s qs (after g p q) (bare_after g bare q) (same_after g p bare h q) in
    by_cases (eqb q.sandbox s) (λ e. rw e (ap₂ ◌∷◌ (same-told g p bare h q) rest)) (λ e. rw e rest)

pub told-alike : (g : Given) → ToldAlike g
told-alike g s qs = told-all g s qs fresh fresh (λ s. refl)

-- it has no runs
abbrev NoRuns : Plain → Type 0
NoRuns p = (s : ℕ) → (p s).traces.runs ≡ (λ i. 0)

none-all : (g : Given) (qs : List Request) (p : Plain) → NoRuns p → NoRuns (bare_all g p qs)
unfolding bare_all bare_after
none-all g [] p h = h
none-all g (q ∷ qs) p h =
    none-all g qs (bare_after g p q)
    (λ s. when-cases (λ (x : Plain). (x s).traces.runs ≡ (λ i. 0)) (eqb (number_at g p q) 0)
    (λ _. by_cases (eqb q.sandbox s) (λ e. rw e (h q.sandbox)) (λ e. rw e (h s))) (λ _. h s))

pub counts-marks : (g : Given) → CountsMarks g
unfolding answer frames_held sum
counts-marks g qs q e n =
    let none = none-all g qs fresh (λ s. refl) q.sandbox in
    rw (n, e, none) (omega arith)
