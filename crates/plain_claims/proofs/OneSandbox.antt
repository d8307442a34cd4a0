-- A request and one sandbox: it leaves the others as they were, and what it does to its own core and answers, the value of a report apart,
-- comes from that core alone.
use Prim.Native.Nat.{ℕ}
use mathlib.Core.Path.{◌≡◌, refl}
use mathlib.Core.Bool.{true, false}
use mathlib.Core.Option.{some}
use lib.Dec.{eqb}
use borrow.Author.Tests.{eqb-true, eq-eqb}
use Rattle.basics.specs.Choice.{◌when◌else◌}
use Rattle.basics.proofs.TestLaws.{by_cases, when-cases}
use Rattle.interface.specs.declared.request.Request.{Request}
use Rattle.interface.specs.Answers.{Answered}
use Rattle.interface.specs.Requests.{◌is◌, open_code, snapshot_code, rewind_code}
use Rattle.interface.specs.Outcome.{slots_after, copy_after}
use Rattle.interface.specs.Refusals.{applies, refusal}
use Rattle.interface.specs.Accepted.{Accepted}
use Rattle.interface.proofs.AcceptedLaws.{accepted}
use Rattle.plain.specs.Machine.{Given, Pages, Core, Kept, Plain, view_of, shares, bytes_after, core_after, kept_after}
use Rattle.plain.specs.Machine.{may_tell, number_at, core_value, answer, after}
use Rattle.plain_claims.specs.Lists.{told}

-- a request of the sandbox itself, the shares of all being this many together
unfoldable pub kept_then : Given → ℕ → Request → Kept → Kept
kept_then g total q k = kept_after g q k when eqb (refusal (view_of g total k.core) q) 0 else k

unfoldable pub core_then : Given → ℕ → Request → Core → Core
core_then g total q c = core_after g q c when eqb (refusal (view_of g total c) q) 0 else c

unfoldable pub told_then : Given → ℕ → Request → Core → Answered
told_then g total q c =
    let number = refusal (view_of g total c) q in
    record { number = number; value = (0 when may_tell q else core_value g q c) when eqb number 0 else 0 }

module _ (g : Given) (p : Plain) (q : Request) where
  pub after-own : (s : ℕ) → q.sandbox ≡ s → after g p q s ≡ kept_then g (shares p) q (p s)
  unfolding after kept_then
  after-own s e =
      rw (← e)
      (when-cases (λ (x : Plain). x q.sandbox ≡ kept_after g q (p q.sandbox) when eqb (number_at g p q) 0 else p q.sandbox) (eqb (number_at g p q) 0)
      (λ h. rw (h, eq-eqb q.sandbox q.sandbox refl)) (λ h. rw h))

  pub after-others : (s : ℕ) → eqb q.sandbox s ≡ false → after g p q s ≡ p s
  unfolding after
  after-others s e = when-cases (λ (x : Plain). x s ≡ p s) (eqb (number_at g p q) 0) (λ _. rw e) (λ _. refl)

  pub told-own : (s : ℕ) → q.sandbox ≡ s → told q (answer g p q) ≡ told_then g (shares p) q (p s).core
  unfolding told answer told_then
  told-own s e =
      rw (← e)
      (by_cases (eqb (number_at g p q) 0)
      (λ h. by_cases (may_tell q) (λ r. rw (h, r)) (λ r. rw (h, r)))
      (λ h. by_cases (may_tell q) (λ r. rw (h, r)) (λ r. rw (h, r))))

-- the core after the request is that of the core before
pub core-then : (g : Given) (total : ℕ) (q : Request) (k : Kept) → (kept_then g total q k).core ≡ core_then g total q k.core
unfolding kept_then core_then
core-then g total q k = by_cases (eqb (refusal (view_of g total k.core) q) 0) (λ e. rw e) (λ e. rw e)

-- the shares of others do not matter to an open sandbox
pub shares-apart : (g : Given) (t u : ℕ) (q : Request) (c : Core) → c.opened ≡ true → refusal (view_of g t c) q ≡ refusal (view_of g u c) q
unfolding applies refusal
shares-apart g t u q c o = by_cases (q is open_code) (λ e. rw (e, o)) (λ e. rw e)

-- From its snapshot on a sandbox is open, with this share and this copy, whatever is called.
pub record Since (share : ℕ) (d : Pages) (c : Core) : Type 0 where
  pub opened : c.opened ≡ true
  pub shared : c.share ≡ share
  pub copied : c.copy ≡ some d

module _ (g : Given) (total : ℕ) (q : Request) (c : Core) where
  pub since-taken : (q is snapshot_code) ≡ true → Since (core_after g q c).share (core_after g q c).pages (core_after g q c)
  unfolding copy_after
  since-taken e = record { opened = refl; shared = refl; copied = rw e }

  since-accepted : {sh : ℕ} {d : Pages} → Since sh d c → Accepted (view_of g total c) q → Since sh d (core_after g q c)
  unfolding copy_after
  since-accepted h a = record {
    opened = refl;
    shared = by_cases (q is open_code) (λ e. cc (a.closed e, h.opened)) (λ e. rw e h.shared);
    copied = by_cases (q is snapshot_code) (λ e. cc (rw h.copied at (a.untaken e))) (λ e. rw e h.copied);
  }

  pub since-then : {sh : ℕ} {d : Pages} → Since sh d c → Since sh d (core_then g total q c)
  unfolding core_then
  since-then {sh} {d} h =
      when-cases (Since sh d) (eqb (refusal (view_of g total c) q) 0) (λ e. since-accepted h (accepted _ q (eqb-true _ 0 e))) (λ _. h)

  -- an accepted rewind puts the whole copy in place
  pub rewound : {sh : ℕ} {d : Pages} → Since sh d c → (q is rewind_code) ≡ true → core_after g q c ≡ record { opened = true; share = sh; pages = d; copy = some d }
  unfolding slots_after bytes_after copy_after
  rewound h e = rw (eqb-true q.code rewind_code e, h.copied, h.shared)

  -- an open sandbox stays open
  pub stays_open : c.opened ≡ true → (core_then g total q c).opened ≡ true
  unfolding core_then
  stays_open o = when-cases (λ (x : Core). x.opened ≡ true) (eqb (refusal (view_of g total c) q) 0) (λ _. refl) (λ _. o)
