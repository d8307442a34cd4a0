-- The frame is filled with what the page reads but for a front, and becomes its front.
use Rattle.std.proofs.Common.{Bool, ◌≡◌, ◌∙◌, ap, arith, get_or}
use Rattle.basics.specs.Choice.{◌when◌else◌}
use Rattle.interface.specs.Slots.{is_committed, backing_at}
use Rattle.table.specs.Store.{kept, put, take}
use Rattle.table.specs.Backing.{backing_page, backing_end}
use Rattle.table.specs.Virtual.{back_at}
use Rattle.table.proofs.PageLaws.{few-if, room-if, under-if}
use Rattle.filling.proofs.store.take.Goals as goal

pub fill_frame-requires : goal.fill_frame-requires
fill_frame-requires c =
    let a = c.args in
    let committed = is_committed a.page.slot in
    let under : c.back_if-under.result ≡ (get_or a.table.now (back_at a.page) 0 when committed else 0) =
    c.back_if-under.ensures ∙ ap (λ (b : Bool). get_or a.table.now (back_at a.page) 0 when b else 0) c.is_committed.ensures in
    record {
      f_in_bounds = c.requires.f_in_bounds;
      bound = rw under (few-if 256 _ _ c.requires.ranged _ committed);
      in_bounds = rw under (room-if 256 _ _ c.requires.ranged _ committed);
      backing_in_bounds = omega (arith, ap backing_end c.backing_at.ensures, c.requires.placed.backed);
    }

pub returns : goal.returns
unfolding take put
returns c =
    let a = c.args in
    let committed = is_committed a.page.slot in
    let under : c.back_if-under.result ≡ (get_or a.table.now (back_at a.page) 0 when committed else 0) =
    c.back_if-under.ensures ∙ ap (λ (b : Bool). get_or a.table.now (back_at a.page) 0 when b else 0) c.is_committed.ensures in
    rw (
      ← under-if 256 (kept a.held a.pool.now a.table.now) (back_at a.page) (backing_page a.image.now (backing_at a.page.slot)) committed,
      ← under,
      ← c.backing_at.ensures,
      c.with.ensures,
      c.fill_frame.ensures,
      c.front_index.ensures,
    )
