-- The entries of a sandbox are a part of the table.
use Rattle.std.proofs.Common.{◌≡◌, ◌∙◌, ◌*◌, subst, ◌≤◌, arith}
use Rattle.marks.proofs.EntryLaws.{used-part, used-small}
use Rattle.marks.specs.Marks.{from}
use Rattle.marks.proofs.used.Goals as goal

pub returns-clause-value : goal.returns-clause-value
returns-clause-value c = let a = c.args in c.naming.ensures ∙ used-part a.table.now (a.sandbox * 128) 128 (omega arith)

pub returns-clause-small : goal.returns-clause-small
returns-clause-small c =
    let a = c.args in
    omega (arith, c.naming.ensures ∙ used-part a.table.now (a.sandbox * 128) 128 (omega arith), used-small (from (a.sandbox * 128) a.table.now) 128)
