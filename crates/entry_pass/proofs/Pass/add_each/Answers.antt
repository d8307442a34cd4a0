-- One entry more, which may name one frame more.
use Rattle.std.proofs.Common.{◌∙◌, arith, ap}
use Rattle.std.proofs.lemmas.List.Sums.{fold_more}
use Rattle.std.specs.Prelude.{get_or}
use Rattle.std.proofs.Common.{◌≡◌, sym}
use Rattle.entry_pass.specs.declared.Pass.{Pass}
use Rattle.entry_pass.specs.Pass.{pass_entry}
use Rattle.entry_pass.proofs.PassLaws.{small-step}
use Rattle.entry_pass.proofs.Pass.add_each.Goals as goal

pub loop-entry-preserved : goal.loop-entry-preserved
loop-entry-preserved c =
    let a = c.args in
    let l = c.loop-entry in
    let entry = get_or a.entries.now l.entry-index 0 in
    record {
      so_far = c.add-found.ensures ∙ ap (λ (s : Pass). pass_entry a.frames s entry) l.invariant.so_far
          ∙ sym (fold_more (pass_entry a.frames) a.self a.entries.now l.entry-index 0 (omega arith));
      few = omega (arith, ap (λ (s : Pass). s.named) c.add-found.ensures, small-step a.frames l.found entry);
    }
