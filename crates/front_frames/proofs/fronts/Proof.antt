-- The run has the frames of the first 8 k pages, eight pages more at each turn; the others, fewer than eight, come to it at the end.
use mathlib.Core.Path.{◌≡◌, ap, ◌∙◌}
use Prim.Native.Nat.{ℕ, ◌+◌, ◌-◌, ◌/◌, ◌≤◌}
use native.Mathlib.Omega.{arith}
use borrow.Author.Rules.{rules}
use Rattle.frames.specs.declared.Held.{Held}
use Rattle.frames.specs.Frames.{none_held}
use Rattle.table.proofs.GroupLaws.{of_groups, group-in, all-groups}
use Rattle.front_frames.specs.Fronts.{with_entries}
use Rattle.front_frames.proofs.EntryLaws.{entries-join, entries-fronts}
use Rattle.front_frames.proofs.fronts.Statement.{statement}
use Rattle.front_frames.proofs.fronts.Tie as tie

abbrev invariant-loop : tie.invariant-loop-k
invariant-loop table sandbox pages groups at run₀ k₀ run k = (k ≤ pages / 8) × (run ≡ with_entries table at none_held (of_groups k))

abbrev decreases-loop : tie.decreases-loop-k
decreases-loop table sandbox pages groups at run₀ k₀ run k = pages / 8 - k

-- the way back from where a fact is needed to where it was learned
abbrev at-index : tie.At-loop-k invariant-loop decreases-loop → tie.After-front_index-at invariant-loop decreases-loop
at-index c = c.before.before

abbrev behind : tie.At-loop-k invariant-loop decreases-loop → tie.Start invariant-loop decreases-loop
behind c = (at-index c).before.before

front-index-requires : tie.Need-front_index-at-requires invariant-loop decreases-loop
front-index-requires c κs = let s = c.before in (s.requires.0, omega (arith, s.requires.1.0, s.requires.1.1.0))

none-requires : tie.Need-none-run-requires invariant-loop decreases-loop
none-requires c κs = search rules

loop-holds : tie.Need-loop-k-init invariant-loop decreases-loop
unfolding with_entries
loop-holds c = (omega arith, c.none-run.ensures)

mul-i : tie.Need-overflow_mul-i invariant-loop decreases-loop
mul-i c = let s = behind c.before in omega (arith, group-in s.args.pages c.loop-k.k c.loop-k-test.true, s.requires.1.0)

cast-with-group : tie.Need-overflow_cast-i invariant-loop decreases-loop
cast-with-group c = search rules

-- a group lies among the sandbox's entries
group-there : (c : tie.In-loop-k invariant-loop decreases-loop) → (at-index c.before).front_index-at.result + of_groups c.loop-k.k + 8 ≤ 512
group-there c =
    let s = behind c.before in
    let p = s.requires in
    omega (arith, group-in s.args.pages c.loop-k.k c.loop-k-test.true, p.0, p.1.0, (at-index c.before).front_index-at.ensures)

-- and so do all of them with the entries that are left
all_there : (c : tie.At-loop-k invariant-loop decreases-loop) → (at-index c).front_index-at.result + (behind c).args.pages ≤ 512
all_there c = let p = (behind c).requires in omega (arith, p.0, p.1.0, (at-index c).front_index-at.ensures)

add-with-group : tie.Need-overflow_add-at invariant-loop decreases-loop
add-with-group c = omega (arith, group-there c)

with-group-requires : tie.Need-with_group-run-requires invariant-loop decreases-loop
with-group-requires c κs =
    let p = (behind c.before).requires in
    (omega (arith, group-there c, p.1.1.1.0), p.1.1.1.1)

add-k : tie.Need-overflow_step-k invariant-loop decreases-loop
add-k c = search rules

loop-less : tie.Need-loop-k-smaller invariant-loop decreases-loop
loop-less c = search rules

loop-again : tie.Need-loop-k-preserved invariant-loop decreases-loop
loop-again c =
    let turn = c.before in
    let l = turn.loop-k in
    let table = (behind turn.before).args.table.now in
    let at : ℕ = (at-index turn.before).front_index-at.result in
    let i : ℕ = of_groups l.k in
    let next : i + 8 ≡ of_groups (l.k + 1) = omega arith in (
      omega (arith, turn.loop-k-test.true),
      c.with_group-run.ensures ∙ ap (λ (x : Held). with_entries table (at + i) x 8) l.invariant.1 ∙ entries-join table at none_held i 8
          ∙ ap (with_entries table at none_held) next,
    )

mul-done : tie.Need-overflow_mul-done invariant-loop decreases-loop
mul-done c = let s = behind c.before in omega (arith, all-groups s.args.pages, s.requires.1.0)

cast-with-each : tie.Need-overflow_cast-done invariant-loop decreases-loop
cast-with-each c = search rules

add-with-each : tie.Need-overflow_add-at-2 invariant-loop decreases-loop
add-with-each c = omega (arith, all-groups (behind c.before).args.pages, all_there c.before)

sub-with-each : tie.Need-overflow_sub-pages invariant-loop decreases-loop
sub-with-each c = omega (arith, all-groups (behind c.before).args.pages)

with-each-requires : tie.Need-with_each-requires invariant-loop decreases-loop
with-each-requires c κs =
    let s = behind c.before in
    (omega (arith, all-groups s.args.pages, all_there c.before, s.requires.1.1.1.0), s.requires.1.1.1.1)

returns : tie.Need-returns invariant-loop decreases-loop
returns c =
    let loop = c.before.before in
    let l = loop.loop-k in
    let a = (behind loop).args in
    let table = a.table.now in
    let index = (at-index loop).front_index-at in
    let at : ℕ = index.result in
    let done : ℕ = of_groups (a.pages / 8) in
    let left : ℕ = a.pages - done in
    let e : l.k ≡ a.pages / 8 = omega (arith, l.invariant.0, c.loop-k-test.false) in
    let all : done + left ≡ a.pages = omega (arith, all-groups a.pages) in
    c.with_each.ensures
    ∙ ap (λ (x : Held). with_entries table (at + done) x left) (l.invariant.1 ∙ ap (λ (k : ℕ). with_entries table at none_held (of_groups k)) e)
    ∙ entries-join table at none_held done left ∙ ap (with_entries table at none_held) all
    ∙ ap (λ (k : ℕ). with_entries table k none_held a.pages) index.ensures ∙ entries-fronts table a.sandbox a.first.0 a.pages

pub fronts_spec : {M : Type 1} → statement M
fronts_spec =
    tie.close
    (tie.spec
    invariant-loop
    decreases-loop
    front-index-requires
    none-requires
    loop-holds
    mul-i
    cast-with-group
    add-with-group
    with-group-requires
    add-k
    loop-less
    loop-again
    mul-done
    cast-with-each
    add-with-each
    sub-with-each
    with-each-requires
    returns)
