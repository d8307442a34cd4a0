-- The areas that a request leaves, packed by the law of each call that changes them.
use Rattle.std.proofs.Common.{◌≡◌}
use Rattle.rules.proofs.PackedLaws.{packed-map, packed-unmap, packed-protect, packed-snapshot, packed-rewind, packed_none}
use Rattle.rules.proofs.after.packed_after.Goals as goal

pub returns-in-2 : goal.returns-in-2
returns-in-2 c =
    let a = c.args in
    packed-map a.q a.b c.repack.result c.in-2.is c.first_of-first.result c.new_page.result c.first_of-first.ensures c.new_page.ensures c.repack.ensures

pub returns-in-3 : goal.returns-in-3
returns-in-3 c = let a = c.args in packed-unmap a.q a.b c.repack-in-3.result c.in-3.is c.repack-in-3.ensures

pub returns-in-4 : goal.returns-in-4
returns-in-4 c = let a = c.args in packed-protect a.q a.b c.repack-in-4.result c.in-4.is c.repack-in-4.ensures

pub returns-in-7 : goal.returns-in-7
returns-in-7 c =
    let a = c.args in
    let r = c.requires.by_index in
    packed-snapshot a.q a.b c.repack-in-7.result r.0 r.1.sound.present c.in-7.is c.repack-in-7.ensures

pub returns-in-8 : goal.returns-in-8
returns-in-8 c = let a = c.args in rw c.whole.ensures (packed-rewind a.q a.b c.in-8.is)

pub returns-in_default : goal.returns-in_default
returns-in_default c =
    let a = c.args in
    let no = c.in_default.in_default-own.rest in
    rw c.whole-in_default.ensures (packed_none a.q a.b no.0.0.0.0.1 no.0.0.0.1 no.0.0.1 no.0.1 no.1)
