-- The entries of the pages stand one behind the other, from the first page's on.
use mathlib.Core.Path.{ap, ◌∙◌}
use Prim.Native.Nat.{ℕ}
use native.Mathlib.Omega.{arith}
use borrow.Author.Rules.{rules}
use Rattle.table.specs.Store.{kept, free_to}
use Rattle.freeing.proofs.store.free_range.Statement.{statement}
use Rattle.freeing.proofs.store.free_range.Tie as tie

returns : tie.Need-returns-then-n-eq0
unfolding free_to
returns c = rw c.if-n-eq0.true

front-index-requires : tie.Need-front_index-at-requires
front-index-requires c κs = search rules

abbrev behind : tie.After-front_index-at → tie.Start
behind c = c.before.before.before.before

free-entries-requires : tie.Need-free_entries-requires
free-entries-requires c κs =
    let at = c.before.before in
    let s = behind at in
    (omega (arith, at.front_index-at.ensures, s.requires.0, s.requires.1.0), (s.requires.1.1, omega (arith, s.requires.1.0)))

same_length : tie.Need-shape_of-pool
same_length c = search rules

same-length-2 : tie.Need-shape_of-table
same-length-2 c = search rules

returns-2 : tie.Need-returns
returns-2 c =
    let freed = c.before.before.before.before in
    let at = freed.before.before.before in
    let a = (behind at).args in
    freed.free_entries.ensures ∙ ap (λ (k : ℕ). free_to 256 k (kept a.held a.pool.now a.table.now) a.n) at.front_index-at.ensures

pub free_range_spec : {M : Type 1} → statement M
free_range_spec =
    tie.close (tie.spec returns front-index-requires free-entries-requires same_length same-length-2 returns-2)
