-- One area more is pushed at each turn, and behind the last there is none.
use Rattle.std.proofs.Common.{◌≡◌, ◌+◌, ◌-◌, ◌<◌, arith, length}
use lib.ListN.{length-take}
use lib.Seq.{get_or-take}
use Rattle.basics.proofs.TestLaws.{length-mapped}
use Rattle.gathering.proofs.AreaLaws.{gathered-start, gathered_next, gathered-rest, gathered-all}
use Rattle.gathering.proofs.gathered.Goals as goal

pub loop-area-init : goal.loop-area-init
loop-area-init c = λ h pool. gathered-start _ _ _ c.requires.formed _

pub loop-area-preserved : goal.loop-area-preserved
loop-area-preserved c = λ h pool.
    let l = c.loop-area in
    let low : l.area-index < c.from-count.result = omega (arith, length-take c.from-count.result c.args.present.list) in
    rw (c.push_area-all.ensures, get_or-take c.from-count.result c.args.present.list l.area-index _ low)
    (gathered_next _ _ _ c.requires.formed _ l.area-index l.all (l.invariant h pool))

pub returns : goal.returns
returns c = λ h pool.
    let l = c.loop-area in
    let formed = c.requires.formed in
    let places : length c.args.present.list ≡ 8 = search length-mapped in
    let end : l.area-index ≡ c.args.present.count =
    omega (arith, c.from-count.ensures, formed.formed.few, length-take c.from-count.result c.args.present.list) in
    let left = 8 - c.args.present.count in
    let e : l.area-index + left ≡ 8 = omega (arith, end, formed.formed.few) in
    let eight : length c.args.runs.list ≡ 8 = search length-mapped in
    let all = gathered-rest _ _ _ formed _ left l.area-index l.all (omega (arith, end)) (l.invariant h pool) in
    gathered-all _ _ _ formed _ eight l.all (rw e at all)
