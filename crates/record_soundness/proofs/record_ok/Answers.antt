-- A law for each way out, from what the tests before it said.
use Rattle.std.proofs.Common.{sym, ◌∙◌}
use Rattle.record_soundness.proofs.ReturnLaws.{tested-formed, present-fails, snapshot-fails, charge-fails, fields-decide}
use Rattle.record_soundness.proofs.record_ok.Goals as goal

pub returns-then-not-well_formed : goal.returns-then-not-well_formed
returns-then-not-well_formed c = present-fails c.args.images c.args.rec (sym c.well_formed-2.ensures.value ∙ c.if-not-well_formed.true)

pub returns-then-not-well_formed-2 : goal.returns-then-not-well_formed-2
returns-then-not-well_formed-2 c =
    snapshot-fails c.args.images c.args.rec (sym c.well_formed-2.ensures.value ∙ c.if-not-well_formed.false)
    (sym c.well_formed-3.ensures.value ∙ c.if-not-well_formed-2.true)

pub charge-requires : goal.charge-requires
charge-requires c = record {
  formed = tested-formed _ _ (sym c.well_formed-2.ensures.value ∙ c.if-not-well_formed.false) c.requires;
  formed_2 = tested-formed _ _ (sym c.well_formed-3.ensures.value ∙ c.if-not-well_formed-2.false) c.requires;
}

pub returns-then-rec-charge : goal.returns-then-rec-charge
returns-then-rec-charge c =
    charge-fails c.args.images c.args.rec (sym c.well_formed-2.ensures.value ∙ c.if-not-well_formed.false)
    (sym c.well_formed-3.ensures.value ∙ c.if-not-well_formed-2.false) c.charge.result c.charge.ensures c.if-rec-charge.true

pub returns : goal.returns
returns c =
    fields-decide c.args.images c.args.rec (sym c.well_formed-2.ensures.value ∙ c.if-not-well_formed.false)
    (sym c.well_formed-3.ensures.value ∙ c.if-not-well_formed-2.false) c.charge.result c.charge.ensures c.if-rec-charge.false c.fields_ok.result
    c.fields_ok.ensures
