-- The writes of a page: none without a back or where it is not mapped.
use Rattle.std.proofs.Common.{sym, ◌∙◌}
use Rattle.printing.proofs.PutLaws.{put-nothing}
use Rattle.page_writes.specs.PageLines.{page_lines}
use Rattle.page_writes.proofs.PageLaws.{unbacked-none, unmapped-none}
use Rattle.page_writes.proofs.put_page.Goals as goal
use Rattle.page_writes.proofs.put_page.Goals.{then-back-eq0-via-then-back-eq0, then-back-eq0-via-else-back-eq0+then-not-is_mapped}

pub returns-then-back-eq0 : goal.returns-then-back-eq0
returns-then-back-eq0 c =
    let a = c.args in
    let p = a.page in
    put-nothing a.to a.out.now (page_lines a.image.now a.pool.now a.table.now p.sandbox p.number.0 p.slot)
    (elim c.then-back-eq0.branch [
      | then-back-eq0-via-then-back-eq0 w ↦ unbacked-none a.image.now a.pool.now a.table.now p.sandbox p.number.0 p.slot
          (sym c.back-back.ensures ∙ w.if-back-eq0.true)
      | then-back-eq0-via-else-back-eq0+then-not-is_mapped w ↦ unmapped-none a.image.now a.pool.now a.table.now p.sandbox p.number.0 p.slot
          (sym w.is_mapped.ensures ∙ w.if-not-is_mapped.true)
    ])
