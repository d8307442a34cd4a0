-- The pages before i agree.
use native.Mathlib.Omega.{arith}
use Prim.Native.Nat.{ℕ, ◌-◌, ◌*◌, ◌≤◌}
use mathlib.Core.Path.{◌≡◌, refl, sym, ap, ◌∙◌}
use mathlib.Core.Logic.{⊎_elim}
use mathlib.Core.Bool.{Bool, true, not}
use mathlib.Core.List.{List}
use lib.ListN.{length, get_or}
use borrow.Author.Tests.{not-false}
use Rattle.basics.specs.Ranges.{lowest}
use Rattle.basics.proofs.TestLaws.{and_left, and_right, and-of}
use Rattle.basics.proofs.LoopLaws.{lowest-next, lowest-stop, lowest-end}
use Rattle.comparison.specs.Compare.{agree, lowest_difference}
use Rattle.interface.specs.Numbers.{pages_in}
use Rattle.pages.specs.Parts.{same_bytes}
use Rattle.table.specs.Store.{front_of, back_of, contents}
use Rattle.areas.specs.declared.area.Areas.{Areas}
use Rattle.areas.specs.Areas.{slots}
use Rattle.areas.specs.Walk.{Formed}
use Rattle.areas.proofs.WalkLaws.{settled, near-formed}
use Rattle.content.specs.Content.{page_under, page_read, copy_read, differing}
use Rattle.area_agreement.specs.Unchanged.{unchanged}
use Rattle.content.proofs.ReadingLaws.{backing-there}
use Rattle.agreement.proofs.CompareLaws.{reads_now, reads_copied, passed_over, agree-as}
use Rattle.area_agreement.proofs.UnchangedLaws.{alike-slots, stays-alike}
use Rattle.difference.proofs.lowest_difference.Statement.{statement}
use Rattle.difference.proofs.lowest_difference.Tie as tie

-- whether the bytes of page i are the snapshot's, and whether it agrees
abbrev same : List ℕ → List ℕ → List ℕ → ℕ → Areas → Areas → ℕ → Bool
same image pool table s present snapshot i =
    let front = get_or table (front_of s i) 0 in
    let back = get_or table (back_of s i) 0 in
    same_bytes 256 (reads_now image pool (slots present i) (slots snapshot i) front back) (reads_copied image pool (slots present i) (slots snapshot i) front back)

abbrev of : List ℕ → List ℕ → List ℕ → ℕ → Areas → Areas → ℕ → Bool
of image pool table s present snapshot i = agree (slots present i) (slots snapshot i) (same image pool table s present snapshot i)

abbrev invariant-loop : tie.invariant-loop-i
invariant-loop pool table image s present snapshot stay i₀ i =
    (i ≤ 64) × (lowest (λ k. not (of image pool table s present snapshot k)) 0 64 ≡ lowest (λ k. not (of image pool table s present snapshot k)) i (64 - i))

abbrev decreases-loop : tie.decreases-loop-i
decreases-loop pool table image s present snapshot stay i₀ i = 64 - i

-- ---- where the loop starts

abbrev Start : Type 0
Start = tie.Start invariant-loop decreases-loop

formed : (s : Start) → Formed s.args.b.present
formed s = settled (pages_in (length s.args.image.now)) s.args.b.present s.requires.1.0.sound.present s.requires.1.0.few

formed-copy : (s : Start) → Formed s.args.b.snapshot
formed-copy s = settled (pages_in (length s.args.image.now)) s.args.b.snapshot s.requires.1.0.sound.snapshot s.requires.1.0.few

-- what page i is tested by
abbrev of_in : Start → ℕ → Bool
of_in s = of s.args.image.now s.args.pool.now s.args.table.now s.args.s s.args.b.present s.args.b.snapshot

abbrev behind : tie.In-loop-i invariant-loop decreases-loop → Start
behind c = c.before.before.before.before.before.before.before.before

abbrev page_in : tie.In-loop-i invariant-loop decreases-loop → ℕ
page_in c = c.loop-i.i

-- the turn in which a page was found, and where the page that is compared was
abbrev turn_of : tie.After-slot-slot invariant-loop decreases-loop → tie.In-loop-i invariant-loop decreases-loop
turn_of c = c.before.before.before.before

abbrev found_same : tie.After-agrees invariant-loop decreases-loop → tie.After-slot-slot invariant-loop decreases-loop
found_same c = c.before.before

abbrev found_other : tie.After-agrees-else-same invariant-loop decreases-loop → tie.After-slot-slot invariant-loop decreases-loop
found_other c = c.before.before.before

-- ---- a turn of the loop

-- its entries name frames of the pool or none
entries : (s : Start) (i : ℕ) → let at : ℕ → ℕ = λ k. get_or s.args.table.now k 0 in
    let room = length s.args.pool.now in
    (at (front_of s.args.s i) ≤ 128) × (at (front_of s.args.s i) * 256 ≤ room) × (at (back_of s.args.s i) ≤ 128)
    × (at (back_of s.args.s i) * 256 ≤ room)
entries s i =
    let ranged = s.requires.1.1 in
    (ranged.few (front_of s.args.s i), ranged.room (front_of s.args.s i), ranged.few (back_of s.args.s i), ranged.room (back_of s.args.s i))

-- a page without a front, where every area stays
passed : (c : tie.Else-not-same-front invariant-loop decreases-loop) → let turn = c.before.before in of_in (behind turn) (page_in turn) ≡ true
passed c =
    let turn = c.before.before in
    let s = behind turn in
    let i = page_in turn in
    let all = turn.are_unchanged-same in
    let both = not-false _ c.if-not-same-front.false-raw in
    let still = sym all.ensures ∙ and_left all.result _ both in
    let none = rw c.front-front.ensures at (and_right all.result _ both) in
    let entry : ℕ → ℕ = λ k. get_or s.args.table.now k 0 in
    stays-alike s.args.b.present s.args.b.snapshot (formed s) (formed-copy s) still i _
    (λ m. passed_over s.args.image.now s.args.pool.now (slots s.args.b.present i) (slots s.args.b.snapshot i)
    (entry (front_of s.args.s i)) (entry (back_of s.args.s i)) (and-of m none) (s.requires.1.0.sound.backing i))

-- where every area stays, a page with a front is compared with what stands there itself
itself : (s : Start) (i : ℕ) → unchanged s.args.b.present s.args.b.snapshot ≡ true
    → let mine = slots s.args.b.present i in
    let front = get_or s.args.table.now (front_of s.args.s i) 0 in
    let back = get_or s.args.table.now (back_of s.args.s i) 0 in
    agree mine mine
    (same_bytes 256 (reads_now s.args.image.now s.args.pool.now mine mine front back)
    (reads_copied s.args.image.now s.args.pool.now mine mine front back))
    ≡ of_in s i
itself s i u = alike-slots s.args.b.present s.args.b.snapshot (formed s) (formed-copy s) u i _ _ (λ m. rw (s.requires.1.0.sound.backing i m))

compared-itself : (c : tie.After-agrees invariant-loop decreases-loop) → let turn = turn_of (found_same c) in c.agrees.result ≡ of_in (behind turn) (page_in turn)
compared-itself c =
    let found = found_same c in
    let turn = turn_of found in
    let a = (behind turn).args in
    let all = turn.are_unchanged-same in
    let slot = found.slot-slot.ensures in
    c.agrees.ensures
    ∙ agree-as a.image.now a.pool.now _ _ _ _ _ _ _ _ slot slot found.front-front.ensures found.back-back.ensures
    ∙ itself (behind turn) (page_in turn) (sym all.ensures ∙ c.if-same.true)

-- else with the snapshot's
compared : (c : tie.After-agrees-else-same invariant-loop decreases-loop) → let turn = turn_of (found_other c) in c.agrees-else-same.result ≡ of_in (behind turn) (page_in turn)
compared c =
    let found = found_other c in
    let a = (behind (turn_of found)).args in
    c.agrees-else-same.ensures
    ∙ agree-as a.image.now a.pool.now _ _ _ _ _ _ _ _ found.slot-slot.ensures c.slot-copied.ensures
    found.front-front.ensures found.back-back.ensures

-- any way the page agrees
agreed : (c : tie.Joined-not-same-front invariant-loop decreases-loop) → let turn = c.before.before in of_in (behind turn) (page_in turn) ≡ true
agreed c =
    ⊎_elim
    (λ w.
    let found : tie.After-slot-slot invariant-loop decreases-loop = record {
      before = record { before = record { before = c.before; if-not-same-front = w.if-not-same-front }; back-back = w.back-back };
      slot-slot = w.slot-slot;
    } in
    let stays : tie.Then-same invariant-loop decreases-loop = record { before = found; if-same = w.if-same } in
    sym (compared-itself (record { before = stays; agrees = w.agrees })) ∙ not-false _ w.if-not-agrees.false-raw)
    (λ v. ⊎_elim
    (λ w.
    let found : tie.After-slot-slot invariant-loop decreases-loop = record {
      before = record { before = record { before = c.before; if-not-same-front = w.if-not-same-front }; back-back = w.back-back };
      slot-slot = w.slot-slot;
    } in
    let both : tie.After-slot-copied invariant-loop decreases-loop = record {
      before = record { before = found; if-same = w.if-same };
      slot-copied = w.slot-copied;
    } in
    sym (compared (record { before = both; agrees-else-same = w.agrees-else-same })) ∙ not-false _ w.if-not-agrees-2.false-raw)
    (λ w. passed (record { before = c.before; if-not-same-front = w.if-not-same-front }))
    v)
    c.if-not-same-front.branch-raw

-- where it does not, the loop stops there
stops : (turn : tie.In-loop-i invariant-loop decreases-loop) → not (of_in (behind turn) (page_in turn)) ≡ true
    → page_in turn ≡ lowest (λ k. not (of_in (behind turn) k)) 0 64
stops turn h = sym (turn.loop-i.invariant.1 ∙ lowest-stop (λ k. not (of_in (behind turn) k)) 64 (page_in turn) turn.loop-i-test.true h)

-- ---- the needs

are-unchanged-requires : tie.Need-are_unchanged-same-requires invariant-loop decreases-loop
are-unchanged-requires c κs = tt

loop-holds : tie.Need-loop-i-init invariant-loop decreases-loop
loop-holds c = (omega arith, refl)

front-requires : tie.Need-front-front-requires invariant-loop decreases-loop
front-requires c κs = let s = behind c in (s.requires.0, (c.loop-i-test.true, s.requires.1.1.entries))

back-requires : tie.Need-back-back-requires invariant-loop decreases-loop
back-requires c κs = let s = behind c.before.before in (s.requires.0, (c.loop-i-test.true, s.requires.1.1.entries))

slot-requires : tie.Need-slot-slot-requires invariant-loop decreases-loop
slot-requires c κs =
    let turn = c.before.before.before in
    (near-formed (behind turn).args.b.present (formed (behind turn)), turn.loop-i-test.true)

agrees-requires : tie.Need-agrees-requires invariant-loop decreases-loop
agrees-requires c κs =
    let found = c.before in
    let turn = turn_of found in
    let s = behind turn in
    let i = page_in turn in
    let front = found.front-front in
    let backing = backing-there s.args.image.now s.args.b.present s.requires.1.0.sound.present i in
    let named = entries s i in
    rw (found.slot-slot.ensures, found.back-back.ensures, front.ensures)
    (named.0, (named.1, (named.2, (named.3, (backing, (backing, λ m. refl))))))

returns : tie.Need-returns-then-not-agrees invariant-loop decreases-loop
unfolding differing lowest_difference page_read page_under copy_read contents
returns c = λ h. stops (turn_of (found_same c.before)) (ap not (sym (compared-itself c.before)) ∙ c.if-not-agrees.true-raw)

slot-requires-2 : tie.Need-slot-copied-requires invariant-loop decreases-loop
slot-requires-2 c κs =
    let turn = turn_of c.before in
    (near-formed (behind turn).args.b.snapshot (formed-copy (behind turn)), turn.loop-i-test.true)

agrees-requires-2 : tie.Need-agrees-requires-else-same invariant-loop decreases-loop
agrees-requires-2 c κs =
    let found = c.before.before in
    let turn = turn_of found in
    let s = behind turn in
    let i = page_in turn in
    let front = found.front-front in
    let ready = s.requires.1.0 in
    let backing = backing-there s.args.image.now s.args.b.present ready.sound.present i in
    let copied = backing-there s.args.image.now s.args.b.snapshot ready.sound.snapshot i in
    let named = entries s i in
    rw (c.slot-copied.ensures, found.slot-slot.ensures, found.back-back.ensures, front.ensures)
    (named.0, (named.1, (named.2, (named.3, (backing, (copied, ready.sound.backing i))))))

returns-2 : tie.Need-returns-then-not-agrees-2 invariant-loop decreases-loop
unfolding differing lowest_difference page_read page_under copy_read contents
returns-2 c = λ h. stops (turn_of (found_other c.before)) (ap not (sym (compared c.before)) ∙ c.if-not-agrees-2.true-raw)

add-i : tie.Need-overflow_step-i invariant-loop decreases-loop
add-i c = omega arith

loop-less : tie.Need-loop-i-smaller invariant-loop decreases-loop
loop-less c = omega arith

loop-again : tie.Need-loop-i-preserved invariant-loop decreases-loop
loop-again c =
    let turn = c.before.before in
    let s = behind turn in
    let test = turn.loop-i-test.true in
    (omega (arith, test), turn.loop-i.invariant.1 ∙ lowest-next (λ k. not (of_in s k)) 64 (page_in turn) test (ap not (agreed c)))

returns-3 : tie.Need-returns invariant-loop decreases-loop
unfolding differing lowest_difference page_read page_under copy_read contents
returns-3 c = λ h.
    let s = c.before.before.before.before.before.before.before.before in
    let l = c.loop-i in
    sym (l.invariant.1 ∙ lowest-end (λ k. not (of_in s k)) 64 l.i c.loop-i-test.false ∙ omega arith)

pub lowest_difference_spec : {M : Type 1} → statement M
lowest_difference_spec =
    tie.close
    (tie.spec
    invariant-loop
    decreases-loop
    are-unchanged-requires
    loop-holds
    front-requires
    back-requires
    slot-requires
    agrees-requires
    returns
    slot-requires-2
    agrees-requires-2
    returns-2
    add-i
    loop-less
    loop-again
    returns-3)
