-- The archive of a sandbox is the definition's: what each test shows, and from it the answer behind it.
use Prim.Native.Nat.{ℕ, ◌<◌}
use mathlib.Core.Path.{◌≡◌, sym, ap, ◌∙◌}
use mathlib.Core.Bool.{true, false}
use mathlib.Core.List.{List}
use native.Mathlib.Omega.{arith}
use lib.ListN.{length, get_or}
use borrow.Author.Tests.{not-true, not-false}
use Rattle.basics.proofs.ListLaws.{get_d_any}
use Rattle.basics.proofs.TestLaws.{length-mapped}
use Rattle.records.specs.declared.Record.{Record}
use Rattle.state.specs.declared.sandbox.Machine.{Machine}
use Rattle.state.specs.declared.sandbox.Sandbox.{Sandbox}
use Rattle.state.specs.World.{world_of, record_at, closed_sandbox}
use Rattle.state.proofs.SharesLaws.{zero_sandbox}
use Rattle.soundness.specs.Test.{soundb}
use Rattle.archiving.proofs.RollLaws.{readable, roll-here}
use Rattle.archiving.proofs.ArchivedLaws.{refused-3, refused-4, refused-closed, refused-8, filed}
use Rattle.archiving.proofs.write_archive.Goals as goal

-- the record that the code reads
abbrev read : Machine → ℕ → Record
read m s = (get_or m.sandboxes s zero_sandbox).rec

-- is that of the world
same : (m : Machine) (pool table : List ℕ) (s : ℕ) → length m.sandboxes ≡ 4 → s < 4
    → read m s ≡ record_at (world_of m pool table) s
same m pool table s four row = ap (λ (b : Sandbox). b.rec) (get_d_any m.sandboxes s zero_sandbox closed_sandbox (omega (arith, four, row)))

pub returns-then-not-sound : goal.returns-then-not-sound
returns-then-not-sound c =
    let a = c.args in
    refused-3 a.image.now (world_of a.machine a.pool.now a.table.now) a.sandbox a.out.now (sym c.sound.ensures ∙ c.if-not-sound.true)

pub returns-then-k-ge-SANDBOXES : goal.returns-then-k-ge-SANDBOXES
returns-then-k-ge-SANDBOXES c =
    let a = c.args in
    refused-4 a.image.now (world_of a.machine a.pool.now a.table.now) a.sandbox a.out.now (sym c.sound.ensures ∙ c.if-not-sound.false)
    c.if-k-ge-SANDBOXES.true

pub returns-then-not-b : goal.returns-then-not-b
returns-then-not-b c =
    let a = c.args in
    let row : a.sandbox < 4 = omega (arith, c.if-k-ge-SANDBOXES.false) in
    let four : length a.machine.sandboxes ≡ 4 = search length-mapped in
    refused-closed a.image.now (world_of a.machine a.pool.now a.table.now) a.sandbox a.out.now (sym c.sound.ensures ∙ c.if-not-sound.false) row
    (sym (ap (λ (r : Record). r.opened) (same a.machine a.pool.now a.table.now a.sandbox four row))
    ∙ not-true (read a.machine a.sandbox).opened c.if-not-b.true)

pub returns-then-not-b-2 : goal.returns-then-not-b-2
returns-then-not-b-2 c =
    let a = c.args in
    let row : a.sandbox < 4 = omega (arith, c.if-k-ge-SANDBOXES.false) in
    let four : length a.machine.sandboxes ≡ 4 = search length-mapped in
    let is = same a.machine a.pool.now a.table.now a.sandbox four row in
    refused-8 a.image.now (world_of a.machine a.pool.now a.table.now) a.sandbox a.out.now (sym c.sound.ensures ∙ c.if-not-sound.false) row
    (sym (ap (λ (r : Record). r.opened) is) ∙ not-false (read a.machine a.sandbox).opened c.if-not-b.false)
    (sym (ap (λ (r : Record). r.taken) is) ∙ not-true (read a.machine a.sandbox).taken c.if-not-b-2.true)

pub put_fitting-requires : goal.put_fitting-requires
put_fitting-requires c =
    let a = c.args in
    let row : a.sandbox < 4 = omega (arith, c.if-k-ge-SANDBOXES.false) in
    let four : length a.machine.sandboxes ≡ 4 = search length-mapped in
    rw (same a.machine a.pool.now a.table.now a.sandbox four row)
    (readable a.image.now (world_of a.machine a.pool.now a.table.now) a.sandbox (sym c.sound.ensures ∙ c.if-not-sound.false) row)

pub returns : goal.returns
returns c =
    let a = c.args in
    let w = world_of a.machine a.pool.now a.table.now in
    let row : a.sandbox < 4 = omega (arith, c.if-k-ge-SANDBOXES.false) in
    let four : length a.machine.sandboxes ≡ 4 = search length-mapped in
    let is = same a.machine a.pool.now a.table.now a.sandbox four row in
    let sound : soundb a.image.now w ≡ true = sym c.sound.ensures ∙ c.if-not-sound.false in
    filed a.image.now w a.sandbox a.out.now sound row
    (sym (ap (λ (r : Record). r.opened) is) ∙ not-false (read a.machine a.sandbox).opened c.if-not-b.false)
    (sym (ap (λ (r : Record). r.taken) is) ∙ not-false (read a.machine a.sandbox).taken c.if-not-b-2.false)
    c.put_fitting.result c.put_fitting.new.out _
    (rw is (roll-here a.image.now w a.sandbox sound row)) c.put_fitting.ensures
