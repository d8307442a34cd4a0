-- The page lies before the area, or behind it, or in it, with another backing or the same.
use Rattle.std.proofs.Common.{◌≡◌, ◌≤◌, ◌+◌, ◌<◌, sym, ◌∙◌, arith}
use Rattle.area_backing.proofs.ReachLaws.{reach-below, reach-past, reach-not, reach-end}
use Rattle.area_backing.proofs.reached.Goals as goal

pub returns-then-page-start : goal.returns-then-page-start
returns-then-page-start c = let a = c.args in reach-below a.area a.copy a.page (omega (arith, c.from-start.ensures, c.if-page-start.true))

pub returns-then-end-page : goal.returns-then-end-page
returns-then-end-page c =
    let a = c.args in
    reach-past a.area a.copy a.page (omega (arith, c.from-start.ensures, c.from.ensures, c.if-end-page.true))

pub returns-then-not-agrees : goal.returns-then-not-agrees
returns-then-not-agrees c =
    let a = c.args in
    let low : a.copy.first.0 ≤ a.page = omega (arith, c.from-start.ensures, c.if-page-start.false) in
    let high : a.page < a.copy.first.0 + a.copy.pages = omega (arith, c.from-start.ensures, c.from.ensures, c.if-end-page.false) in
    reach-not a.area a.copy a.page low high (sym (c.agrees.ensures a.page c.requires low) ∙ c.if-not-agrees.true)

pub returns : goal.returns
returns c =
    let a = c.args in
    let low : a.copy.first.0 ≤ a.page = omega (arith, c.from-start.ensures, c.if-page-start.false) in
    let high : a.page < a.copy.first.0 + a.copy.pages = omega (arith, c.from-start.ensures, c.from.ensures, c.if-end-page.false) in
    rw (c.from-start.ensures, c.from.ensures) (reach-end a.area a.copy a.page low high (sym (c.agrees.ensures a.page c.requires low) ∙ c.if-not-agrees.false))
