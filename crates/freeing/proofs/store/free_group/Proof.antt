-- Where no entry has a page nothing is done; else they are freed one by one.
use mathlib.Core.Path.{sym}
use borrow.Author.Rules.{rules}
use Rattle.table.proofs.FreeLaws.{empty-at, free_to-none}
use Rattle.freeing.proofs.store.free_group.Statement.{statement}
use Rattle.freeing.proofs.store.free_group.Tie as tie

are-empty-requires : tie.Need-are_empty-requires
are-empty-requires c κs = search rules

same_length : tie.Need-shape_of-table-then-are_empty
same_length c = search rules

returns : tie.Need-returns-then-are_empty
returns c =
    let a = c.args in
    sym (free_to-none 256 a.at _ 8 (empty-at a.table.now a.at 8 _ c.are_empty.ensures c.if-are_empty.true))

free-each-requires : tie.Need-free_each-requires
free-each-requires c κs = search rules

same-length-2 : tie.Need-shape_of-pool
same-length-2 c = search rules

same-length-3 : tie.Need-shape_of-table
same-length-3 c = search rules

returns-2 : tie.Need-returns
returns-2 c = search rules

pub free_group_spec : {M : Type 1} → statement M
free_group_spec =
    tie.close (tie.spec are-empty-requires same_length returns free-each-requires same-length-2 same-length-3 returns-2)
