-- Small theorems that people quote (specs/Claims), proved.
use Prim.Native.Nat.{ℕ}
use mathlib.Core.Path.{◌≡◌, refl, sym, ap, ◌∙◌, fun_ext}
use mathlib.Core.Bool.{Bool, true, false, ◌&&◌}
use lib.Dec.{eqb}
use borrow.Author.Tests.{eqb-true, eq-eqb}
use Rattle.basics.proofs.TestLaws.{by_cases, when-cases, never, both_ways, and_left, and_right, and-of}
use Rattle.interface.specs.declared.request.Request.{Request}
use Rattle.interface.specs.Requests.{◌is◌, open_code, read_code, rewind_code, report_code, compare_code}
use Rattle.interface.specs.Slots.{is_committed, copied}
use Rattle.interface.specs.Outcome.{slots_after, copy_after}
use Rattle.interface.specs.Refusals.{applies, refusal}
use Rattle.run_choice.specs.Runs.{is_spared, runs_rewound}
use Rattle.interface.proofs.AcceptedLaws.{accepted}
use Rattle.run_choice.proofs.RunLaws.{spared-uncommitted}
use Rattle.plain.specs.Machine.{Given, Kept, Plain, copy_slots, copy_bytes, with_kept, number_at, after}
use Rattle.plain.specs.Machine.{bytes_after, front_after, back_after, copied_back_after, runs_after, kept_after}
use Rattle.plain_claims.specs.Lists.{up_to}
use Rattle.plain_claims.specs.Claims.{Keeps, Reads, RefusedChangesNothing, ReadsChangeNothing, RewindTwice, OnlyOpenMeetsOthers}
use Rattle.plain_claims.proofs.RunLaws.{runs-idle}
use Rattle.plain_claims.proofs.Claims.{claim-always}

pub refused-changes-nothing : (g : Given) → RefusedChangesNothing g
unfolding after
refused-changes-nothing g p q e = rw e

-- a sandbox put back as it was
pub put_same : (s : ℕ) (p : Plain) → with_kept s (p s) p ≡ p
put_same s p = fun_ext λ t. by_cases (eqb s t) (λ e. rw (e, eqb-true s t e)) (λ e. rw e)

-- an accepted request that changes no field
idle : (g : Given) (p : Plain) (q : Request) → (number_at g p q ≡ 0 → kept_after g q (p q.sandbox) ≡ p q.sandbox) → after g p q ≡ p
unfolding after
idle g p q h =
    when-cases (λ (x : Plain). x ≡ p) (eqb (number_at g p q) 0)
    (λ e. ap (λ (k : Kept). with_kept q.sandbox k p) (h (eqb-true _ 0 e)) ∙ put_same q.sandbox p)
    (λ _. refl)

-- an accepted request by its code, other than open's: it names an open sandbox
idle-call : (g : Given) (p : Plain) (q : Request) (c : ℕ) → q.code ≡ c → eqb c open_code ≡ false
    → (true ≡ (p q.sandbox).core.opened → kept_after g q (p q.sandbox) ≡ p q.sandbox) → after g p q ≡ p
idle-call g p q c e n h = idle g p q (λ t. h (sym ((accepted _ q t).opened (rw e n))))

pub reads-change-nothing : (g : Given) → ReadsChangeNothing g
unfolding slots_after bytes_after copy_after front_after back_after copied_back_after runs_after
reads-change-nothing g p q e =
    by_cases (q is read_code) (λ r. let c = eqb-true q.code read_code r in idle-call g p q read_code c refl (λ o. rw (c, o)))
    (λ r. by_cases (q is report_code) (λ t. let c = eqb-true q.code report_code t in idle-call g p q report_code c refl (λ o. rw (c, o)))
    (λ t. let c = eqb-true q.code compare_code (rw (r, t) at e) in idle-call g p q compare_code c refl (λ o. rw (c, o))))

pub only-open-meets-others : (g : Given) → OnlyOpenMeetsOthers g
unfolding applies refusal
only-open-meets-others g p p' q o e = rw (o, e)

-- what an accepted request leaves of its sandbox
accepted-kept : (g : Given) (p : Plain) (q : Request) → number_at g p q ≡ 0 → after g p q q.sandbox ≡ kept_after g q (p q.sandbox)
unfolding after
accepted-kept g p q n = rw (n, eq-eqb q.sandbox q.sandbox refl)

-- a front that stays at a rewind stays at the next: its page is committed in the snapshot too
front-stays : (g : Given) (k : Kept) → Keeps k → Reads g k → (i : ℕ)
    → (k.traces.front i && is_committed (k.core.pages.slots i) && is_committed (copied (copy_slots k.core) i))
    ≡ (k.traces.front i && is_committed (k.core.pages.slots i))
front-stays g k h r i =
    both_ways _ _ (λ e. and_left (k.traces.front i && is_committed (k.core.pages.slots i)) _ e)
    (λ e. and-of e (r.marked i (h.committed_in i (and_right (k.traces.front i) _ e))))

-- and no front is then of an uncommitted page: the next rewind makes no run
none-spared : (g : Given) (k : Kept) → Keeps k → Reads g k → (i : ℕ)
    → ((k.traces.front i && is_committed (k.core.pages.slots i)) && is_spared (copied (copy_slots k.core) i)) ≡ false
none-spared g k h r i =
    by_cases (k.traces.front i && is_committed (k.core.pages.slots i))
    (λ e. let c = r.marked i (h.committed_in i (and_right (k.traces.front i) _ e)) in
    by_cases (is_spared (copied (copy_slots k.core) i))
    (λ y. never (is_committed (copied (copy_slots k.core) i)) c (spared-uncommitted (copied (copy_slots k.core) i) y))
    (λ y. rw (e, y)))
    (λ e. rw e)

rewound-runs : (g : Given) (k : Kept) → Keeps k → Reads g k
    → runs_rewound (copied (copy_slots k.core)) (λ i. k.traces.front i && is_committed (k.core.pages.slots i))
    (runs_rewound k.core.pages.slots k.traces.front k.traces.runs)
    ≡ runs_rewound k.core.pages.slots k.traces.front k.traces.runs
rewound-runs g k h r = runs-idle (copied (copy_slots k.core)) _ _ (λ i l. none-spared g k h r i)

rewound-kept : (g : Given) (q : Request) (k : Kept) → Keeps k → Reads g k → q.code ≡ rewind_code → kept_after g q (kept_after g q k) ≡ kept_after g q k
unfolding slots_after bytes_after copy_after front_after back_after copied_back_after runs_after
rewound-kept g q k h r e =
    let two : ℕ → Bool = λ i. k.traces.front i && is_committed (k.core.pages.slots i) && is_committed (copied (copy_slots k.core) i) in
    let one : ℕ → Bool = λ i. k.traces.front i && is_committed (k.core.pages.slots i) in
    let fronts : two ≡ one = fun_ext (λ i. front-stays g k h r i) in
    let runs = rewound-runs g k h r in
    rw e
    (λ j. record {
      core = record {
        opened = true;
        share = k.core.share;
        pages = record { slots = copied (copy_slots k.core); bytes = copy_bytes k.core.copy };
        copy = k.core.copy;
      };
      traces = record { front = fronts j; back = k.traces.copied_back; copied_back = k.traces.copied_back; runs = runs j };
    })

pub rewind-twice : (g : Given) → RewindTwice g
rewind-twice g qs q e =
    let p = up_to g qs in
    let always = claim-always g qs in
    let h = always.holds.each q.sandbox in
    let r = always.reads q.sandbox in
    by_cases (eqb (number_at g p q) 0)
    (λ n. idle g (after g p q) q
    (λ _. rw (accepted-kept g p q (eqb-true _ 0 n)) (rewound-kept g q (p q.sandbox) h r (eqb-true q.code rewind_code e))))
    (λ n. ap (λ (x : Plain). after g x q) (refused-changes-nothing g p q n))
