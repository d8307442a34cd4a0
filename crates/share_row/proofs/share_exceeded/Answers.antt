-- Row 13, by the law of each call that it can refuse.
use Rattle.std.proofs.Common.{◌≡◌, true}
use Rattle.records.proofs.SettledLaws.{settled-of}
use Rattle.share_row.proofs.ShareLaws.{exceeds-open, exceeds-map, exceeds-snapshot, exceeds-not}
use Rattle.share_row.proofs.share_exceeded.Goals as goal

pub returns-in-1 : goal.returns-in-1
returns-in-1 c = λ images p.
    let a = c.args in
    rw (c.from.ensures, c.from-in-1.ensures, c.from-in-1-2.ensures)
    (exceeds-open a.frames images a.shares a.b a.q c.requires.1 p c.in-1.is)

pub returns-in-2 : goal.returns-in-2
returns-in-2 c = λ images p.
    let a = c.args in
    rw (c.from-in-2.ensures, c.from-in-2-2.ensures, c.from-in-2-3.ensures)
    (exceeds-map a.frames images a.shares a.b a.q p c.in-2.is c.charge.result c.charge.ensures)

pub returns-in-7 : goal.returns-in-7
returns-in-7 c = λ images p.
    let a = c.args in
    rw (c.from-in-7.ensures, c.from-in-7-2.ensures)
    (exceeds-snapshot a.frames images a.shares a.b a.q c.in-7.is c.mapped_pages.result c.mapped_pages.ensures)

pub returns-in_default : goal.returns-in_default
returns-in_default c = λ images p.
    let a = c.args in
    let s = settled-of c.requires.0 a.b c.requires.1.sound true a.frames images a.shares in
    let no = c.in_default.in_default-own.rest in
    exceeds-not a.frames images a.shares a.b a.q s p no.0.0.1 no.0.1 no.1
