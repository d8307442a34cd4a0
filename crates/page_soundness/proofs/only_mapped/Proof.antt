-- Up to the page at which the last area that was passed ends, only mapped pages have entries that name a frame.
use Prim.Native.Nat.{ℕ, ◌+◌, ◌-◌, ◌≤◌}
use mathlib.Core.Path.{◌≡◌, refl, sym, ◌∙◌}
use mathlib.Core.Bool.{Bool}
use mathlib.Core.List.{List}
use lib.ListN.{get_or}
use native.Mathlib.Omega.{arith}
use borrow.Author.Rules.{rules}
use borrow.Author.Tests.{not-true, not-false}
use Rattle.basics.specs.Ranges.{every}
use Rattle.areas.specs.declared.area.Areas.{Areas}
use Rattle.areas.specs.Areas.{slots}
use Rattle.areas.proofs.WalkLaws.{Before, before-start, before-next}
use Rattle.page_soundness.specs.Entries.{entry_ok}
use Rattle.page_soundness.proofs.GapLaws.{gap-passes, gap-fails, gap-last}
use Rattle.page_soundness.proofs.only_mapped.Statement.{statement}
use Rattle.page_soundness.proofs.only_mapped.Tie as tie

-- the test of page i
abbrev of : Areas → List ℕ → ℕ → ℕ → Bool
of areas table first i = entry_ok (slots areas i) (get_or table (first + i) 0)

-- the entry of page i
abbrev entry_at : List ℕ → ℕ → ℕ → ℕ
entry_at table first i = get_or table (first + i) 0

abbrev invariant-loop : tie.invariant-loop-k
invariant-loop table first areas count page₀ k₀ page k =
    (k ≤ count) × Before areas k page × (every (of areas table first) 0 64 ≡ every (of areas table first) page (64 - page))

abbrev decreases-loop : tie.decreases-loop-k
decreases-loop table first areas count page₀ k₀ page k = count - k

cast-count : tie.Need-overflow_cast-count invariant-loop decreases-loop
cast-count c = search rules

loop-holds : tie.Need-loop-k-init invariant-loop decreases-loop
loop-holds c = (omega arith, before-start c.args.areas, refl)

mul-area : tie.Need-offset_bounds-areas-k invariant-loop decreases-loop
mul-area c = search rules

element-copy-out-area : tie.Need-bounds-areas-k invariant-loop decreases-loop
element-copy-out-area c = search rules

cast-start : tie.Need-overflow_cast-start invariant-loop decreases-loop
cast-start c = search rules

-- the way back from where a fact is needed to where it was learned
abbrev loop-of-area : tie.After-struct_known-1 invariant-loop decreases-loop → tie.At-loop-k invariant-loop decreases-loop
loop-of-area c = c.before.before.before

abbrev start-of-loop : tie.At-loop-k invariant-loop decreases-loop → tie.Start invariant-loop decreases-loop
start-of-loop c = c.before.before

name-none-requires : tie.Need-name_none-requires invariant-loop decreases-loop
name-none-requires c κs =
    let m = loop-of-area c in
    let s = start-of-loop m in
    let low = c.loop-k-test.true in
    (m.loop-k.invariant.1.ahead m.loop-k.k (omega arith) low, omega (arith, s.requires.1, (s.requires.0.formed.each m.loop-k.k low).inside))

abbrev at_turn : tie.After-name_none invariant-loop decreases-loop → tie.In-loop-k invariant-loop decreases-loop
at_turn c = c.before.before.before

abbrev at-loop : tie.After-name_none invariant-loop decreases-loop → tie.At-loop-k invariant-loop decreases-loop
at-loop c = (at_turn c).before

returns : tie.Need-returns-then-not-name_none invariant-loop decreases-loop
returns c =
    let m = at-loop c.before in
    let s = start-of-loop m in
    let a = s.args in
    let l = m.loop-k in
    sym (l.invariant.2 ∙ gap-fails a.areas s.requires.0 (entry_at a.table.now a.first) l.k l.page l.invariant.1 (at_turn c.before).loop-k-test.true _
    c.name_none.ensures (not-true _ c.if-not-name_none.true-raw))

cast-page : tie.Need-overflow_cast-page invariant-loop decreases-loop
cast-page c = search rules

add-page : tie.Need-overflow_add-page invariant-loop decreases-loop
add-page c = search rules

add-k : tie.Need-overflow_step-k invariant-loop decreases-loop
add-k c = search rules

loop-less : tie.Need-loop-k-smaller invariant-loop decreases-loop
loop-less c = search rules

loop-again : tie.Need-loop-k-preserved invariant-loop decreases-loop
loop-again c =
    let n = c.before.before in
    let m = at-loop n in
    let s = start-of-loop m in
    let a = s.args in
    let l = m.loop-k in
    let low = (at_turn n).loop-k-test.true in (
      omega (arith, low),
      before-next a.areas s.requires.0 l.k l.page l.invariant.1 low,
      l.invariant.2 ∙ gap-passes a.areas s.requires.0 (entry_at a.table.now a.first) l.k l.page l.invariant.1 low _ n.name_none.ensures
          (not-false _ c.if-not-name_none.false-raw),
    )

name-none-requires-2 : tie.Need-name_none-requires-2 invariant-loop decreases-loop
name-none-requires-2 c κs = (c.loop-k.invariant.1.small, (start-of-loop c.before).requires.1)

returns-2 : tie.Need-returns invariant-loop decreases-loop
returns-2 c =
    let m = c.before.before in
    let s = start-of-loop m in
    let a = s.args in
    let l = m.loop-k in
    c.name_none-2.ensures
    ∙ gap-last a.areas s.requires.0 (entry_at a.table.now a.first) l.k l.page l.invariant.1 c.loop-k-test.false ∙ sym l.invariant.2

pub only_mapped_spec : {M : Type 1} → statement M
only_mapped_spec =
    tie.close
    (tie.spec
    invariant-loop
    decreases-loop
    cast-count
    loop-holds
    mul-area
    element-copy-out-area
    cast-start
    name-none-requires
    returns
    cast-page
    add-page
    add-k
    loop-less
    loop-again
    name-none-requires-2
    returns-2)
