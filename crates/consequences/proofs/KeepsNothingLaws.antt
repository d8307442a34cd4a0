-- The machine that runs and the plain machine that keeps nothing: by demand 2 and the agreement from what holds of the plain machines.
use mathlib.Core.Path.{sym, ap, ◌∙◌}
use Rattle.interface.specs.Slots.{Slots, is_mapped}
use Rattle.pages.specs.Parts.{listed}
use Rattle.state.specs.World.{sandbox_at}
use Rattle.plain.specs.Machine.{Given, Core}
use Rattle.plain_claims.specs.Lists.{up_to, told_to}
use Rattle.plain_claims.proofs.KeepsNothingLaws.{alike-after-all, told-alike}
use Rattle.simulation.specs.Lent.{Lent}
use Rattle.simulation.proofs.ReadSteps.{page-read}
use Rattle.claims.proofs.Runs.{list-agrees, demand-2}
use Rattle.consequences.specs.KeepsNothing.{KeepsNothing}

pub keeps-nothing : (g : Given) → Lent g → KeepsNothing g
keeps-nothing g L qs as' v r =
    let A = list-agrees g L qs as' v r in
    let alike = alike-after-all g qs in
    record {
      told = λ s. ap (told_to s qs) (demand-2 g L qs as' v r) ∙ told-alike g s qs;
      places = λ s l. (A.each s l).present ∙ ap (λ (c : Core). c.pages.slots) (alike.cores s);
      bytes = λ s i l d m.
          let a = A.each s l in
          let mapped = sym (ap (λ (f : Slots). is_mapped (f i)) a.present) ∙ m in
          page-read g L v.store s (sandbox_at v s) (up_to g qs s) (A.holds.each s) (A.reads s) a i d mapped
          ∙ ap (λ (c : Core). listed 256 (c.pages.bytes i)) (alike.cores s);
    }
