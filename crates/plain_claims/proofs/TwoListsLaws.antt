-- Two lists, alike up to a snapshot of s, tell s the same after a rewind.
use Prim.Native.Nat.{ℕ, suc}
use mathlib.Core.Path.{◌≡◌, refl, sym, ap, ap₂, ◌∙◌}
use mathlib.Core.Bool.{true}
use mathlib.Core.List.{List, [], ◌∷◌, ◌++◌}
use mathlib.Core.Option.{some}
use lib.Dec.{eqb}
use lib.ListN.{length}
use lib.Seq.{drop_at}
use borrow.Author.Tests.{eqb-true, eq-eqb}
use Rattle.basics.proofs.TestLaws.{by_cases}
use Rattle.interface.specs.declared.request.Request.{Request}
use Rattle.interface.specs.Answers.{Answered}
use Rattle.interface.specs.Requests.{snapshot_code, rewind_code}
use Rattle.plain.specs.Machine.{Given, Pages, Core, Kept, Plain, fresh, shares, core_after, number_at, answer, after, answers, after_all}
use Rattle.plain_claims.specs.Lists.{up_to, Then, naming, told_to, told_later}
use Rattle.plain_claims.specs.Claims.{TwoLists}
use Rattle.plain_claims.proofs.OneSandbox.{core_then, told_then, after-own, after-others, told-own, core-then, shares-apart}
use Rattle.plain_claims.proofs.OneSandbox.{Since, since-taken, since-then, rewound, stays_open}

-- what they were told after the list before
abbrev told_after : Given → ℕ → List Request → List Request → List Answered
told_after g s before later = told_to s later (answers g (up_to g before) later)

-- what an open sandbox is told comes from its core and the requests that name it
told_from : Given → Core → List Request → List Answered
told_from g c [] = []
told_from g c (q ∷ qs) = told_then g 0 q c ∷ told_from g (core_then g 0 q c) qs

told-apart : (g : Given) (t : ℕ) (q : Request) (c : Core) → c.opened ≡ true → told_then g t q c ≡ told_then g 0 q c
unfolding told_then
told-apart g t q c o = rw (shares-apart g t 0 q c o)

core-apart : (g : Given) (t : ℕ) (q : Request) (c : Core) → c.opened ≡ true → core_then g t q c ≡ core_then g 0 q c
unfolding core_then
core-apart g t q c o = rw (shares-apart g t 0 q c o)

pub after-append : (g : Given) (p : Plain) (l m : List Request) → after_all g p (l ++ m) ≡ after_all g (after_all g p l) m
unfolding after_all
after-append g p [] m = refl
after-append g p (q ∷ l) m = after-append g (after g p q) l m

pub answers-append : (g : Given) (p : Plain) (l m : List Request) → answers g p (l ++ m) ≡ answers g p l ++ answers g (after_all g p l) m
unfolding answers after_all
answers-append g p [] m = refl
answers-append g p (q ∷ l) m = ap (answer g p q ∷◌) (answers-append g (after g p q) l m)

module _ (g : Given) (s : ℕ) where
  -- the core of s after a request that names it
  core-own : (p : Plain) (q : Request) → eqb q.sandbox s ≡ true → (after g p q s).core ≡ core_then g (shares p) q (p s).core
  core-own p q e = ap (λ (k : Kept). k.core) (after-own g p q s (eqb-true q.sandbox s e)) ∙ core-then g (shares p) q (p s)

  -- a property of the core of s outlasts a request that leaves it in place and one that names s
  outlasts : (P : Core → Type 0) (p : Plain) (q : Request) → P (core_then g (shares p) q (p s).core) → P (p s).core → P (after g p q s).core
  outlasts P p q own other = by_cases (eqb q.sandbox s) (λ e. rw (core-own p q e) own) (λ e. rw (after-others g p q s e) other)

  told-from : (later : List Request) (p : Plain) → (p s).core.opened ≡ true → told_to s later (answers g p later) ≡ told_from g (p s).core (naming s later)
  unfolding told_to answers told_from naming
  told-from [] p o = refl
  told-from (q ∷ qs) p o =
      let ih = told-from qs (after g p q) (outlasts (λ c. c.opened ≡ true) p q (stays_open g (shares p) q (p s).core o) o) in
      by_cases (eqb q.sandbox s)
      (λ e. rw e
      (ap₂ ◌∷◌ (told-own g p q s (eqb-true q.sandbox s e) ∙ told-apart g (shares p) q (p s).core o)
      (ih ∙ ap (λ c. told_from g c (naming s qs)) (core-own p q e ∙ core-apart g (shares p) q (p s).core o))))
      (λ e. rw e (ih ∙ ap (λ (k : Kept). told_from g k.core (naming s qs)) (after-others g p q s e)))

  -- whatever is called, s stays open with its share and its copy
  since-all : (sh : ℕ) (d : Pages) (qs : List Request) (p : Plain) → Since sh d (p s).core → Since sh d (after_all g p qs s).core
  unfolding after_all
  since-all sh d [] p h = h
  since-all sh d (q ∷ qs) p h = since-all sh d qs (after g p q) (outlasts (Since sh d) p q (since-then g (shares p) q (p s).core h) h)

  -- an accepted request
  pub accepted-core : (p : Plain) (q : Request) → q.sandbox ≡ s → number_at g p q ≡ 0 → (after g p q s).core ≡ core_after g q (p s).core
  unfolding after
  accepted-core p q e n = rw (← e, n, eq-eqb q.sandbox q.sandbox refl)

  pub then-core : {c : ℕ} {qs : List Request} {q : Request} → Then g s c qs q → (up_to g (qs ++ q ∷ []) s).core ≡ core_after g q (up_to g qs s).core
  unfolding after_all
  then-core {qs} {q} h = rw (after-append g fresh qs (q ∷ [])) (accepted-core (up_to g qs) q h.names h.taken)

  -- after the rewind
  module _ (sh : ℕ) (d : Pages) where
    then-rewound : {qs : List Request} {q : Request} → Since sh d (up_to g qs s).core → Then g s rewind_code qs q
        → (up_to g (qs ++ q ∷ []) s).core ≡ record { opened = true; share = sh; pages = d; copy = some d }
    then-rewound {qs} {q} h t = then-core t ∙ rewound g 0 q (up_to g qs s).core h t.called

    told-rewound : {qs : List Request} {q : Request} → Since sh d (up_to g qs s).core → Then g s rewind_code qs q → (later : List Request)
        → told_after g s (qs ++ q ∷ []) later ≡ told_from g (record { opened = true; share = sh; pages = d; copy = some d }) (naming s later)
    told-rewound {qs} {q} h t later =
        told-from later (up_to g (qs ++ q ∷ [])) (ap (λ (c : Core). c.opened) (then-rewound h t)) ∙ ap (λ c. told_from g c (naming s later)) (then-rewound h t)

  -- from the snapshot on
  since : {qs : List Request} {q : Request} → Then g s snapshot_code qs q → (own : List Request)
      → Since (core_after g q (up_to g qs s).core).share (core_after g q (up_to g qs s).core).pages (up_to g (qs ++ q ∷ own) s).core
  unfolding after_all
  since {qs} {q} t own =
      rw (after-append g fresh qs (q ∷ own))
      (since-all _ _ own (after g (up_to g qs) q)
      (rw (accepted-core (up_to g qs) q t.names t.taken) (since-taken g 0 q (up_to g qs s).core t.called)))

two-lists-after :
    (g : Given) (s : ℕ) (common own₁ own₂ later₁ later₂ : List Request) (snapshot rewind₁ rewind₂ : Request)
    → Then g s snapshot_code common snapshot
    → Then g s rewind_code (common ++ snapshot ∷ own₁) rewind₁
    → Then g s rewind_code (common ++ snapshot ∷ own₂) rewind₂
    → naming s later₁ ≡ naming s later₂
    → told_after g s (common ++ snapshot ∷ own₁ ++ rewind₁ ∷ []) later₁ ≡ told_after g s (common ++ snapshot ∷ own₂ ++ rewind₂ ∷ []) later₂
two-lists-after g s common own₁ own₂ later₁ later₂ snapshot rewind₁ rewind₂ taken back₁ back₂ same =
    told-rewound g s _ _ (since g s taken own₁) back₁ later₁ ∙ ap (told_from g _) same ∙ sym (told-rewound g s _ _ (since g s taken own₂) back₂ later₂)

pub length-answers : (g : Given) (p : Plain) (qs : List Request) → length (answers g p qs) ≡ length qs
unfolding answers
length-answers g p [] = refl
length-answers g p (q ∷ qs) = ap suc (length-answers g (after g p q) qs)

-- of the answers to the whole list
told-later : (g : Given) (s : ℕ) (before later : List Request) → told_later s before later (answers g fresh (before ++ later)) ≡ told_after g s before later
unfolding told_later
told-later g s before later =
    rw (answers-append g fresh before later, drop_at (answers g fresh before) (answers g (up_to g before) later) (length before) (length-answers g fresh before))

-- the claim
pub two-lists : (g : Given) → TwoLists g
two-lists g s common own₁ own₂ later₁ later₂ snapshot rewind₁ rewind₂ taken back₁ back₂ same =
    told-later g s (common ++ snapshot ∷ own₁ ++ rewind₁ ∷ []) later₁
    ∙ two-lists-after g s common own₁ own₂ later₁ later₂ snapshot rewind₁ rewind₂ taken back₁ back₂ same
    ∙ sym (told-later g s (common ++ snapshot ∷ own₂ ++ rewind₂ ∷ []) later₂)
