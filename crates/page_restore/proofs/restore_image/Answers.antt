-- The part of the image that is lent is its page.
use Rattle.page_restore.proofs.restore_image.Goals as goal

pub returns-clause-pool_after : goal.returns-clause-pool_after
returns-clause-pool_after c = rw (← c.part_of.ensures.part) c.restore_frame.ensures.pool_after

pub returns-clause-differed : goal.returns-clause-differed
returns-clause-differed c = rw (← c.part_of.ensures.part) c.restore_frame.ensures.differed
