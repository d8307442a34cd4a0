-- Where all bytes are the same, the part is the source already; else it has become the source.
use mathlib.Core.Path.{sym, ap, ◌∙◌}
use mathlib.Core.Bool.{not}
use borrow.Author.Rules.{rules}
use Rattle.pages.proofs.SameLaws.{same_lists}
use Rattle.part_restore.proofs.restore_quarter.Statement.{statement}
use Rattle.part_restore.proofs.restore_quarter.Tie as tie

is-same-requires : tie.Need-is_same-requires
is-same-requires c κs = search rules

same_length : tie.Need-shape_of-part-then-is_same
same_length c = search rules

returns : tie.Need-returns-then-is_same
returns c =
    let told = sym c.is_same.ensures ∙ c.if-is_same.true in
    (same_lists c.args.part.now c.args.src.now c.requires told, sym (ap not told))

fill-requires : tie.Need-fill-requires
fill-requires c κs = search rules

same-length-2 : tie.Need-shape_of-part
same-length-2 c = search rules

returns-2 : tie.Need-returns
returns-2 c =
    (c.fill.ensures, sym (ap not (sym c.is_same.ensures ∙ c.if-is_same.false)))

pub restore_quarter_spec : {M : Type 1} → statement M
restore_quarter_spec = tie.close (tie.spec is-same-requires same_length returns fill-requires same-length-2 returns-2)
