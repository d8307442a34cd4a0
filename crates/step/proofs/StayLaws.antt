-- A call that neither opens, packs areas, snapshots nor rewinds leaves the record of an open sandbox, and with its runs the row of sandboxes.
use Prim.Native.Nat.{ℕ}
use mathlib.Core.Path.{◌≡◌, sym, ap, ◌∙◌}
use mathlib.Core.Bool.{true, false}
use lib.ListN.{set}
use lib.Seq.{set-get_or}
use Rattle.interface.specs.declared.request.Request.{Request}
use Rattle.interface.specs.Requests.{◌is◌, open_code, snapshot_code, rewind_code}
use Rattle.records.specs.declared.Record.{Record}
use Rattle.state.specs.World.{World, sandbox_at, record_at, closed_sandbox}
use Rattle.rules.specs.After.{changes, packed_after, taken_after, snapshot_after, record_after}

module _ (q : Request) (x₁ : (q is open_code) ≡ false) (x₂ : changes q ≡ false) (x₃ : (q is snapshot_code) ≡ false) (x₄ : (q is rewind_code) ≡ false) where
  pub record_same : (b : Record) → b.opened ≡ true → record_after q b ≡ b
  unfolding packed_after taken_after snapshot_after
  record_same b o =
      rw (x₂, x₁, x₃, x₄) (λ i. record { opened = sym o i; share = b.share; present = b.present; taken = b.taken; snapshot = b.snapshot })

  pub sandboxes-same : (w : World) (s : ℕ) → (record_at w s).opened ≡ true
      → set w.sandboxes s (record { rec = record_after q (record_at w s); runs = (sandbox_at w s).runs }) ≡ w.sandboxes
  sandboxes-same w s o =
      ap (λ (c : Record). set w.sandboxes s (record { rec = c; runs = (sandbox_at w s).runs })) (record_same (record_at w s) o)
      ∙ set-get_or w.sandboxes s closed_sandbox
