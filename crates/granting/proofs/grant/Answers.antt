-- One more entry has its frame at each turn.
use Rattle.std.proofs.Common.{refl}
use Rattle.kept.specs.Spare.{left_of, adopt_to}
use Rattle.kept.proofs.AdoptLaws.{adopt-more, left-more, least-low}
use Rattle.granting.proofs.grant.Goals as goal

pub loop-i-init : goal.loop-i-init
unfolding left_of adopt_to
loop-i-init c = (refl, λ pool. refl)

pub grant_one-granted-requires-clause-rest_bound : goal.grant_one-granted-requires-clause-rest_bound
grant_one-granted-requires-clause-rest_bound c =
    let l = c.loop-i in
    least-low _ l.granted.rest l.i _ l.invariant.0 c.loop-i-test.true c.requires.n_bound

pub loop-i-preserved : goal.loop-i-preserved
loop-i-preserved c =
    let l = c.loop-i in
    let e = c.grant_one-granted.ensures in
    let entry = rw c.from.ensures at e.entry in (
      left-more _ l.granted.rest _ l.i l.invariant.0 e.rest,
      λ pool. adopt-more _ _ l.granted.held _ pool l.table _ _ l.granted.rest l.i l.invariant.0 (l.invariant.1 pool) e.held_value entry,
    )
