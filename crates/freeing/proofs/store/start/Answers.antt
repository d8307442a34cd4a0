-- What is left is cleared: the pool, the table and the marks.
use Rattle.std.proofs.Common.{◌≡◌, length, rules}
use Rattle.pages.specs.Parts.{zeros}
use Rattle.freeing.proofs.store.start.Goals as goal

pub returns : goal.returns
unfolding zeros
returns c =
    let table : c.fill.new.self ≡ zeros (length c.args.table.now) = search rules in
    rw (c.none.ensures, c.clear_pool.ensures, table, c.requires)
