-- The entries before i are empty, eight more at each turn.
use Prim.Native.Nat.{ℕ, ◌+◌, ◌-◌, ◌≤◌, ◌<◌}
use mathlib.Core.Path.{◌≡◌}
use mathlib.Core.List.{List}
use native.Mathlib.Omega.{arith}
use native.Mathlib.Decide.{dec_lt}
use borrow.Author.Rules.{rules}
use borrow.Author.Tests.{not-false}
use lib.ListN.{get_or}
use Rattle.table.proofs.FreeLaws.{empty-at}
use Rattle.restoring.proofs.next_front.Statement.{statement}
use Rattle.restoring.proofs.next_front.Tie as tie

abbrev invariant-loop : tie.invariant-loop-i
invariant-loop table at from pages i₀ i = (from ≤ i) × (i < pages + 8) × ((k : ℕ) → from ≤ k → k < i → get_or table (at + k) 0 ≡ 0)

abbrev decreases-loop : tie.decreases-loop-i
decreases-loop table at from pages i₀ i = pages + 8 - i

loop-holds : tie.Need-loop-i-init invariant-loop decreases-loop
loop-holds c = (omega arith, omega (arith, c.requires.1.1.1), λ k a b. absurd (omega arith))

cast-are-empty : tie.Need-overflow_cast-i invariant-loop decreases-loop
cast-are-empty c = search rules

add-are-empty : tie.Need-overflow_add-at invariant-loop decreases-loop
add-are-empty c = let s = c.before.before.before in omega (arith, s.requires.1.0, c.loop-i-test.true)

are-empty-requires : tie.Need-are_empty-requires invariant-loop decreases-loop
are-empty-requires c κs = let s = c.before.before.before in omega (arith, s.requires.0, s.requires.1.0, c.loop-i-test.true)

returns : tie.Need-returns-then-not-are_empty invariant-loop decreases-loop
returns c = let turn = c.before.before in let l = turn.loop-i in ((l.invariant.0, omega (arith, turn.loop-i-test.true)), l.invariant.2)

add-i : tie.Need-overflow_add-i invariant-loop decreases-loop
add-i c = let turn = c.before.before in omega (arith, turn.requires.1.1.0, turn.loop-i-test.true)

loop-less : tie.Need-loop-i-smaller invariant-loop decreases-loop
loop-less c = omega (arith, c.loop-i-test.true)

loop-again : tie.Need-loop-i-preserved invariant-loop decreases-loop
loop-again c =
    let turn = c.before.before in
    let l = turn.loop-i in
    let a = turn.args in
    let group = empty-at a.table.now (a.at + l.i) 8 _ c.are_empty.ensures (not-false _ c.if-not-are_empty.false-raw) in (
      omega (arith, l.invariant.0),
      omega (arith, turn.loop-i-test.true),
      λ k d u. go a.table.now l.i a.at a.from k l.invariant.2 group d u (dec_lt k l.i),
    )
  where
    go : (table : List ℕ) (i at from k : ℕ) → ((k : ℕ) → from ≤ k → k < i → get_or table (at + k) 0 ≡ 0)
        → ((k : ℕ) → k < 8 → get_or table (at + i + k) 0 ≡ 0) → from ≤ k → k < i + 8 → Dec (k < i) → get_or table (at + k) 0 ≡ 0
    go table i at from k before group d u (yes b) = before k d b
    go table i at from k before group d u (no b) = let place : at + i + (k - i) ≡ at + k = omega arith in rw place at (group (k - i) (omega arith))

returns-2 : tie.Need-returns invariant-loop decreases-loop
returns-2 c = let s = c.before.before.before in ((s.requires.1.1.1, omega arith), λ k d u. c.loop-i.invariant.2 k d (omega (arith, c.loop-i-test.false, u)))

pub next_front_spec : {M : Type 1} → statement M
next_front_spec =
    tie.close
    (tie.spec
    invariant-loop
    decreases-loop
    loop-holds
    cast-are-empty
    add-are-empty
    are-empty-requires
    returns
    add-i
    loop-less
    loop-again
    returns-2)
