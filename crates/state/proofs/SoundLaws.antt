-- A closed sandbox of a sound state has nothing: neither its record nor its runs.
use Prim.Native.Nat.{ℕ}
use mathlib.Core.Path.{◌≡◌}
use mathlib.Core.Bool.{false}
use Rattle.table.specs.Store.{Store}
use Rattle.state.specs.declared.sandbox.Sandbox.{Sandbox}
use Rattle.state.specs.World.{closed_sandbox}
use Rattle.state.specs.Sound.{SoundAt}

pub closed-sandbox : (images : ℕ) (st : Store) (s : ℕ) (b : Sandbox) → SoundAt images st s b → b.rec.opened ≡ false → b ≡ closed_sandbox
closed-sandbox images st s b S e = λ i. record { rec = S.rec.closed e i; runs = S.closed e i }
