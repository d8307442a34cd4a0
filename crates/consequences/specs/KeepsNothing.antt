-- Request A3, "Keep the frames of a finished request", of the machine that runs: "Places, bytes and refusals are those of a machine that keeps nothing", which
-- is that of plain/specs/KeepsNothing.
use Rattle.std.specs.Prelude.{◌≡◌, true, List, ℕ, ◌<◌}
use Rattle.interface.specs.declared.request.Request.{Request}
use Rattle.interface.specs.Answers.{Answered}
use Rattle.interface.specs.Slots.{is_mapped}
use Rattle.pages.specs.Parts.{listed}
use Rattle.areas.specs.Areas.{slots}
use Rattle.state.specs.World.{World, record_at}
use Rattle.content.specs.Content.{page_read}
use Rattle.plain.specs.Machine.{Given, fresh}
use Rattle.plain_claims.specs.Lists.{told_to}
use Rattle.plain_claims.specs.KeepsNothing.{bare_answers, bare_up_to}
use Rattle.claims.specs.Demands.{RunFrom}

-- after a list of requests with these answers, in the world v
pub record AsKeepingNothing (g : Given) (qs : List Request) (as' : List Answered) (v : World) : Type 0 where
  -- "refusals": each sandbox is told that machine's numbers and values, call 9's value apart
  pub told : (s : ℕ) → told_to s qs as' ≡ told_to s qs (bare_answers g fresh qs)
  -- "Places": its pages, with their rights
  pub places : (s : ℕ) → s < 4 → slots (record_at v s).present ≡ (bare_up_to g qs s).core.pages.slots
  -- "bytes": what each of them reads
  pub bytes : (s i : ℕ) → s < 4 → i < 64 → is_mapped (slots (record_at v s).present i) ≡ true
      → page_read g.image v.store (record_at v s) s i ≡ listed 256 ((bare_up_to g qs s).core.pages.bytes i)

-- of every list from a fresh state
abbrev pub KeepsNothing : Given → Type 0
KeepsNothing g = (qs : List Request) (as' : List Answered) (v : World) → RunFrom g qs as' v → AsKeepingNothing g qs as' v
