-- Where call 10 answers 64: after a snapshot, while rewound; and what reads answer there.
use Prim.Native.Nat.{ℕ, ◌/◌, ◌≤◌, ◌<◌}
use mathlib.Core.Path.{◌≡◌, refl, ap}
use mathlib.Core.Bool.{true}
use mathlib.Core.List.{List, [], ◌∷◌, ◌++◌}
use native.Mathlib.Omega.{arith}
use lib.Dec.{ltb}
use lib.ListN.{length}
use borrow.Author.Tests.{eqb-true, le-ltb, ltb-true, lt-ltb}
use Rattle.basics.specs.Choice.{◌when◌else◌}
use Rattle.basics.proofs.TestLaws.{by_cases, and_left}
use Rattle.basics.proofs.LoopLaws.{alike_at, alike_of}
use Rattle.interface.specs.declared.request.Request.{Request}
use Rattle.interface.specs.Answers.{Answered}
use Rattle.interface.specs.Requests.{◌is◌, read_code, snapshot_code, page_of, offset_of}
use Rattle.interface.specs.Slots.{is_mapped, areas, charge_of, copied}
use Rattle.interface.specs.Limits.{within}
use Rattle.interface.specs.Outcome.{slots_after, copy_after}
use Rattle.interface.specs.Refusals.{View, all_mapped, applies, refusal}
use Rattle.interface.specs.Accepted.{Accepted}
use Rattle.interface.specs.Examples.{ok}
use Rattle.interface.proofs.AcceptedLaws.{accepted}
use Rattle.comparison.proofs.CompareLaws.{agree-self, agree-mapped, agree_same, difference-none, none-differs}
use Rattle.plain.specs.Machine.{Given, Core, Plain, copy_slots, copy_bytes, differing, core_value, view_of, shares, number_at, answer}
use Rattle.plain_claims.specs.Lists.{up_to, Then, Rewound, back, still}
use Rattle.plain_claims.specs.Claims.{Keeps, Restored, compare_of, copy_answer, CleanReadsCopy}
use Rattle.plain_claims.proofs.OneSandbox.{since-taken}
use Rattle.plain_claims.proofs.TwoListsLaws.{then-core}
use Rattle.plain_claims.proofs.RewoundLaws.{rewound-restored}

-- pages that are those of the copy nowhere differ from it
restored-clean : (c : Core) → Restored c → differing c ≡ 64
unfolding differing
restored-clean c e =
    rw e
    (difference-none c.pages.slots c.pages.slots _
    (λ i l. rw (alike_of (c.pages.bytes i) (c.pages.bytes i) 256 (λ j m. refl)) (agree-self (c.pages.slots i))))

-- call 10 of such a sandbox
clean-answer : (g : Given) (p : Plain) (s : ℕ) → s < 4 → (p s).core.opened ≡ true → Keeps (p s) → Restored (p s).core → answer g p (compare_of s) ≡ ok 64
unfolding answer core_value applies refusal within all_mapped slots_after copy_after
clean-answer g p s row o k e =
    let charged = le-ltb _ _ k.charged in
    let number : number_at g p (compare_of s) ≡ 0 = rw (lt-ltb s 4 row, o, e, rw e at charged, le-ltb 8 _ k.in_areas) in
    rw (number, restored-clean (p s).core e)

-- the sandbox of an accepted request: one of the four, and open after it
then-open : {g : Given} {s c : ℕ} {qs : List Request} {q : Request} → Then g s c qs q → (s < 4) × ((up_to g (qs ++ q ∷ []) s).core.opened ≡ true)
then-open {g} {s} {q} t = (rw t.names at (accepted _ q t.taken).in_row, ap (λ (c : Core). c.opened) (then-core g s t))

-- a rewound sandbox is one of the four, and open
rewound-open : (g : Given) (s : ℕ) (qs : List Request) → Rewound g s qs → (s < 4) × ((up_to g qs s).core.opened ≡ true)
rewound-open g s _ (back t) = then-open t
rewound-open g s _ (still {qs} q r e) = rw e (rewound-open g s qs r)

pub clean-after-snapshot : (g : Given) (s : ℕ) (qs : List Request) (q : Request) → Keeps (up_to g (qs ++ q ∷ []) s) → Then g s snapshot_code qs q
    → answer g (up_to g (qs ++ q ∷ [])) (compare_of s) ≡ ok 64
clean-after-snapshot g s qs q k t =
    let taken : Restored (up_to g (qs ++ q ∷ []) s).core = rw (then-core g s t) (since-taken g 0 q (up_to g qs s).core t.called).copied in
    clean-answer g (up_to g (qs ++ q ∷ [])) s (then-open t).0 (then-open t).1 k taken

pub clean-while-rewound : (g : Given) (s : ℕ) (qs : List Request) → Keeps (up_to g qs s) → Rewound g s qs → answer g (up_to g qs) (compare_of s) ≡ ok 64
clean-while-rewound g s qs k r =
    let here = rewound-open g s qs r in
    clean-answer g (up_to g qs) s here.0 here.1 k (rewound-restored g s qs r)

-- a read within its limits where another call is accepted: refused by row 9 or by none
read_number : (v : View) (q : Request) → q.code ≡ read_code → v.sound ≡ true → q.sandbox < 4 → v.opened ≡ true → within v.images q ≡ true
    → charge_of v.slots v.copy ≤ v.share → areas v.slots ≤ 8 → refusal v q ≡ 0 when is_mapped (v.slots (page_of q)) else 9
unfolding applies refusal all_mapped slots_after copy_after
read_number v q e sound row o limits charged few =
    by_cases (is_mapped (v.slots (page_of q)))
    (λ m. rw (limits, e, sound, lt-ltb q.sandbox 4 row, o, m, le-ltb _ _ charged, le-ltb 8 _ few))
    (λ m. rw (limits, e, sound, lt-ltb q.sandbox 4 row, o, m))

-- a read's address lies in one of the 64 pages
read-page : (images : ℕ) (q : Request) → (q is read_code) ≡ true → within images q ≡ true → q.p1 < 16384
unfolding within
read-page images q e w = ltb-true q.p1 16384 (and_left (ltb q.p1 16384) _ (rw (eqb-true q.code read_code e) at w))

-- call 10 accepted: what it says of the sandbox
pub accepted-compare : (g : Given) (p : Plain) (s : ℕ) → answer g p (compare_of s) ≡ ok 64
    → Accepted (view_of g (shares p) (p s).core) (compare_of s) × (differing (p s).core ≡ 64)
unfolding answer core_value
accepted-compare g p s e =
    let number : number_at g p (compare_of s) ≡ 0 = ap (λ (a : Answered). a.number) e in
    (accepted _ (compare_of s) number, rw number at (ap (λ (a : Answered). a.value) e))

-- at a page of a sandbox that nowhere differs: mapped in both or in neither, and the same bytes
clean-mapped : (c : Core) → differing c ≡ 64 → (i : ℕ) → i < 64 → is_mapped (c.pages.slots i) ≡ is_mapped (copied (copy_slots c) i)
unfolding differing
clean-mapped c e i l = agree-mapped (c.pages.slots i) (copied (copy_slots c) i) _ (none-differs c.pages.slots (copied (copy_slots c)) _ e i l)

clean-byte : (c : Core) → differing c ≡ 64 → (i j : ℕ) → i < 64 → j < 256 → is_mapped (c.pages.slots i) ≡ true
    → c.pages.bytes i j ≡ copy_bytes c.copy i j
unfolding differing
clean-byte c e i j l k m =
    alike_at (c.pages.bytes i) (copy_bytes c.copy i) 256
    (agree_same (c.pages.slots i) (copied (copy_slots c) i) _ (none-differs c.pages.slots (copied (copy_slots c)) _ e i l) m) j k

read-clean : (g : Given) (p : Plain) (q : Request) → answer g p (compare_of q.sandbox) ≡ ok 64 → (q is read_code) ≡ true
    → within (length g.image / 256) q ≡ true → answer g p q ≡ copy_answer (p q.sandbox).core q
unfolding answer core_value slots_after copy_after
read-clean g p q e r w =
    let core : Core = (p q.sandbox).core in
    let ten = accepted-compare g p q.sandbox e in
    let number : number_at g p q ≡ 0 when is_mapped (core.pages.slots (page_of q)) else 9 =
    let coded = eqb-true q.code read_code r in
    read_number (view_of g (shares p) core) q coded refl ten.0.in_row (ten.0.opened refl) w ten.0.charged ten.0.in_areas in
    let below : q.p1 < 16384 = read-page _ q r w in
    let page : page_of q < 64 = omega arith in
    let place : offset_of q < 256 = omega arith in
    let both = clean-mapped core ten.1 (page_of q) page in
    by_cases (is_mapped (core.pages.slots (page_of q)))
    (λ m. rw (number, m, ← both, m, eqb-true q.code read_code r, clean-byte core ten.1 (page_of q) (offset_of q) page place m))
    (λ m. rw (number, m, ← both, m))

pub clean-reads-copy : (g : Given) → CleanReadsCopy g
clean-reads-copy g p s e q r names w = rw (← names) (read-clean g p q (rw (← names) at e) r w)
