-- The parts of a sandbox, written each behind the one before and then its first three bytes, are the bytes of the sandbox.
use Rattle.std.proofs.Common.{ℕ, List, [], ◌∷◌}
use Rattle.basics.specs.Ranges.{one}
use Rattle.layout.specs.Rows.{Part, part}
use Rattle.layout.specs.Layout.{areas_size, runs_size, areas_bytes, runs_bytes, sandbox_bytes}
use Rattle.layout.proofs.LengthLaws.{sized-sandbox}
use Rattle.layout.proofs.PartsLaws.{laid_out}
use Rattle.sandboxes.proofs.encode_sandbox.Goals as goal

pub returns : goal.returns
unfolding sandbox_bytes
returns c =
    let s = c.args.sandbox in
    let r = s.rec in
    let bytes : List ℕ = one r.opened ∷ r.share ∷ one r.taken ∷ [] in
    let parts : List Part = part areas_size (areas_bytes r.present) ∷ part areas_size (areas_bytes r.snapshot) ∷ part runs_size (runs_bytes s.runs) ∷ [] in
    rw (c.flag-2.ensures, c.flag.ensures, c.encode_areas.ensures, c.encode_areas-2.ensures, c.encode_runs.ensures)
    (laid_out bytes parts c.args.out.now c.requires (sized-sandbox s).1.1.1)
