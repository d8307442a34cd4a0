-- Each turn writes one more part.
use Rattle.std.proofs.Common.{ℕ, List, ◌≡◌, ◌∙◌, ap, arith}
use lib.ListN.{get_or}
use Rattle.basics.proofs.ListLaws.{get_d_any}
use Rattle.layout.proofs.RowLoops.{written_none, written_next, written_all}
use Rattle.fields.proofs.bytes.encode_row.Goals as goal

pub loop-k-init : goal.loop-k-init
loop-k-init g c =
    let m = g.F.Form in
    (omega arith, c.requires, λ none. written_none (λ j. m.encode (get_or c.args.items j none)) m.SIZE g.row.N c.args.out.now c.requires)

pub loop-k-preserved : goal.loop-k-preserved
loop-k-preserved g c =
    let m = g.F.Form in
    let items = c.args.items in
    let at = c.loop-k in
    let item = c.index-items-k.result in
    let part = c.encode.new.out in
    let got : (none : g.row.F-Value.Denot) → part ≡ m.encode (get_or items at.k none)
    = λ none. c.encode.ensures ∙ ap m.encode (get_d_any items at.k item none (omega arith)) in
    let next = λ (none : g.row.F-Value.Denot).
    written_next (λ j. m.encode (get_or items j none)) m.SIZE g.row.N c.args.out.now (λ j. g.met.F.Form.sized _) at.out part at.k
    (at.invariant.2 none) c.loop-k-test.true (got none) in
    rw (c.SIZE.ensures, c.SIZE-in-loop-k.ensures) (omega arith, (next item).1, next)

pub returns : goal.returns
returns g c =
    let m = g.F.Form in
    let at = c.loop-k in
    λ none. written_all (λ j. m.encode (get_or c.args.items j none)) m.SIZE g.row.N c.args.out.now at.out at.k (at.invariant.2 none) c.loop-k-test.false
